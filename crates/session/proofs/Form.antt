-- Laws: what is read at a place is what is written there.
use Rattle.std.specs.Prelude.{Err}
use Rattle.leb128.specs.declared.Refusal.TheVariants as numbers
use Rattle.leb128.specs.declared.Refusal.{Refusal}
use Prim.Native.Nat.{ℕ, ◌+◌, ◌≤◌}
use mathlib.Core.List.{List, [], ◌++◌, append_assoc}
use mathlib.Core.Path.{◌≡◌, refl, ap, sym, ◌∙◌}
use native.Mathlib.Omega.{arith}
use borrow.Author.Tests.{ltb-true, ltb-false, eqb-true, eqb-false, le-ltb, ne_eqb}
use lib.Dec.{ltb, eqb, lit≤}
use lib.ListN.{length, drop, length-append, length-drop}
use lib.Seq.{drop-drop, drop-append_seam, get_or-drop}
use Rattle.leb128.specs.Leb128 as leb128
use Rattle.leb128.specs.Leb128.{Bytes, decode, looked_of, uleb128}
use Rattle.leb128.proofs.GroupLaws.{either, looked_fits}
use Rattle.leb128.proofs.RoundTrip.{complete, sound}
use Rattle.session.specs.declared.Event.{Event}
use Rattle.session.specs.declared.Event.TheVariants.{Reset, Write, Read, Slot, Mark}
use Rattle.session.specs.Reading.{refusal, placed, varint_at, counted, versioned, header_at, valued, operands, kinded, event_at, bad, Varint, Header, Item, Value, Good, Next}
use Rattle.session.specs.declared.Fault.{Fault}
use Rattle.session.specs.declared.Fault.TheVariants.{Version, Count, Kind}
use Rattle.session.specs.Claims as claims
use Rattle.session.specs.Claims.{Found, Located, Begun, nothing, address}
use Rattle.session.specs.Writing.{event_bytes, Fits}

-- The bytes w stand between the places at and next.
pub record Form (s : List ℕ) (at : ℕ) (w : List ℕ) (next : ℕ) : Type 0 where
  pub bytes : drop at s ≡ w ++ drop next s
  pub place : next ≡ at + length w

pub drop_after : (s : List ℕ) (at : ℕ) (w u : List ℕ) → drop at s ≡ w ++ u → drop (at + length w) s ≡ u
drop_after s at w u e = sym (drop-drop (length w) at s) ∙ ap (drop (length w)) e ∙ drop-append_seam w u

pub stands : (s : List ℕ) (at : ℕ) (w u : List ℕ) → drop at s ≡ w ++ u → Form s at w (at + length w)
stands s at w u e = record { bytes = rw (drop_after s at w u e) e; place = refl }

module _ {s : List ℕ} {at : ℕ} {w : List ℕ} where
  pub within : {next : ℕ} → at ≤ length s → Form s at w next → next ≤ length s
  within {next} h f =
      let e = ap length f.bytes ∙ length-append w (drop next s) in
      let p = f.place in
      omega (arith, e, p, length-drop at s, length-drop next s)

  pub onward : {v : List ℕ} {next last : ℕ} → Form s at w next → Form s next v last → Form s at (w ++ v) last
  onward {v} {next} {last} f g =
      record {
        bytes = f.bytes ∙ ap (λ (x : List ℕ). w ++ x) g.bytes ∙ sym (append_assoc w v (drop last s));
        place = let p = f.place in let q = g.place in omega (arith, p, q, length-append w v);
      }

from_place : (s : List ℕ) (at : ℕ) → Bytes s → Bytes (drop at s)
from_place s at b k = rw (get_or-drop at s k 0) (b (at + k))

-- What is looked at from a place on is in the input.
pub looked_within : (s : List ℕ) (at : ℕ) → at ≤ length s → at + looked_of (decode (drop at s)) ≤ length s
looked_within s at h = let k = looked_fits (drop at s) in let l = length-drop at s in omega arith

value_within : (s : List ℕ) (at n u : ℕ) (t : List ℕ) → at ≤ length s → decode (drop at s) ≡ leb128.Value n u t → at + u ≤ length s
unfolding looked_of
value_within s at n u t h e = let k : u ≡ looked_of (decode (drop at s)) = sym (ap looked_of e) in rw k (looked_within s at h)

refused_within : (s : List ℕ) (at : ℕ) (f : Refusal) (u : ℕ) → at ≤ length s → decode (drop at s) ≡ leb128.Refused f u → at + u ≤ length s
unfolding looked_of
refused_within s at f u h e = let k : u ≡ looked_of (decode (drop at s)) = sym (ap looked_of e) in rw k (looked_within s at h)

refused_found : (most : ℕ) (s : List ℕ) (p : ℕ) (f : Refusal) (u : ℕ) → decode (drop p s) ≡ leb128.Refused f u → Found most s (refusal f) p u
unfolding Found refusal
refused_found most s p numbers.Cut u e = e
refused_found most s p numbers.NotShortest u e = e
refused_found most s p numbers.TooLarge u e = e

-- A number is its LEB128 form; a fault has its place.
unfoldable pub VarintIs : List ℕ → ℕ → Varint → Type 0
VarintIs s at (Value n next used) = (n ≤ 65535) × Form s at (uleb128 n) next × ((rest : List ℕ) × (decode (drop at s) ≡ leb128.Value n used rest))
VarintIs s at (Err err) = (err.at ≡ at) × ((most : ℕ) → Located most s err.why err.at err.looked) × ((r : Refusal) × (err.why ≡ refusal r))

refused_is : (s : List ℕ) (at p : ℕ) (f : Refusal) (u : ℕ) → at ≤ length s → decode (drop at s) ≡ leb128.Refused f u → p ≡ at → VarintIs s at (bad (refusal f) p u)
unfolding VarintIs
refused_is s at p f u h e m = (m, (λ most. rw m (record { found = refused_found most s at f u e; inside = refused_within s at f u h e })), (f, refl))

pub varint_is : (s : List ℕ) (at : ℕ) → Bytes s → at ≤ length s → VarintIs s at (varint_at s at)
unfolding varint_at placed VarintIs
varint_is s at b h = go (decode (drop at s)) refl
  where
    go : (r : leb128.Parsed) → decode (drop at s) ≡ r → VarintIs s at (placed s at r)
    go (leb128.Value n u t) e =
        let a = sound (drop at s) (from_place s at b) n u t e in
        (a.0, rw a.2 (stands s at (uleb128 n) t a.1), (t, e))
    go (leb128.Refused f u) e = refused_is s at _ f u h e (omega arith)

pub varint_back : (s : List ℕ) (at n : ℕ) (u : List ℕ) → n ≤ 65535 → drop at s ≡ uleb128 n ++ u
    → varint_at s at ≡ Value n (at + length (uleb128 n)) (length (uleb128 n))
unfolding varint_at placed
varint_back s at n u h e = rw (e, complete n u h)

-- Which number of the header, or of an event, is at fault; w stands before it.
pub data HeaderFault (s : List ℕ) (at p : ℕ) : Fault → Type 0 where
  version : p ≡ at → HeaderFault s at p Version
  count : Form s at (uleb128 1) p → HeaderFault s at p Count
  version_refused : (r : Refusal) → p ≡ at → HeaderFault s at p (refusal r)
  count_refused : (r : Refusal) → Form s at (uleb128 1) p → HeaderFault s at p (refusal r)

pub data ItemFault (s : List ℕ) (at p : ℕ) : Fault → Type 0 where
  kind : Form s at [] p → ItemFault s at p Kind
  refused : (r : Refusal) (begun : List ℕ) → Begun begun → Form s at begun p → ItemFault s at p (refusal r)

nothing_before : (s : List ℕ) (at p : ℕ) → p ≡ at → Form s at [] p
nothing_before s at p e = rw e (record { bytes = refl; place = omega arith })

-- The header is version 1 and a count of at most `most`.
unfoldable pub HeaderIs : ℕ → List ℕ → ℕ → Header → Type 0
HeaderIs most s at (Good c next) = (c ≤ most) × (c ≤ 65535) × Form s at (uleb128 1 ++ uleb128 c) next
HeaderIs most s at (Err err) = Located most s err.why err.at err.looked × HeaderFault s at err.at err.why

module _ (most : ℕ) (s : List ℕ) (at : ℕ) (b : Bytes s) (h : at ≤ length s) where
  counted_is : (next : ℕ) → Form s at (uleb128 1) next → (r : Varint) → VarintIs s next r → HeaderIs most s at (counted most next r)
  unfolding counted VarintIs HeaderIs Found
  counted_is next f (Err err) e = (e.1 most, rw e.2.1 (count_refused e.2.0 (rw e.0 f)))
  counted_is next f (Value c last used) e =
      either (HeaderIs most s at) (ltb most c)
      (λ q. (record { found = (c, (e.2.0, (e.2.1, ltb-true most c q))); inside = value_within s next c used e.2.0 (within h f) e.2.1 }, count f))
      (λ q. (ltb-false most c q, e.0, onward f e.1))

  versioned_is : (r : Varint) → VarintIs s at r → HeaderIs most s at (versioned most s at r)
  unfolding versioned VarintIs HeaderIs Found
  versioned_is (Err err) e = (e.1 most, rw e.2.1 (version_refused e.2.0 e.0))
  versioned_is (Value v next used) e =
      either (HeaderIs most s at) (eqb v 1)
      (λ q. let f = rw (eqb-true v 1 q) at e.1 in counted_is next f (varint_at s next) (varint_is s next b (within h f)))
      (λ q. (record { found = (v, (e.2.0, (e.2.1, eqb-false v 1 q))); inside = value_within s at v used e.2.0 h e.2.1 }, version refl))

  pub header_is : HeaderIs most s at (header_at most s at)
  unfolding header_at
  header_is = versioned_is (varint_at s at) (varint_is s at b h)

pub header_back : (most : ℕ) (s : List ℕ) (at c : ℕ) (u : List ℕ) → c ≤ most → c ≤ 65535 → drop at s ≡ (uleb128 1 ++ uleb128 c) ++ u
    → header_at most s at ≡ Good c (at + length (uleb128 1 ++ uleb128 c))
unfolding header_at versioned counted
header_back most s at c u h k e =
    let f = e ∙ append_assoc (uleb128 1) (uleb128 c) u in
    let g = drop_after s at (uleb128 1) (uleb128 c ++ u) f in
    let l : at + length (uleb128 1) + length (uleb128 c) ≡ at + length (uleb128 1 ++ uleb128 c) = omega (arith, length-append (uleb128 1) (uleb128 c)) in
    rw (varint_back s at 1 (uleb128 c ++ u) (lit≤ tt) f, varint_back s (at + length (uleb128 1)) c u k g, le-ltb most c h, l)

-- An event is its bytes; a fault stands at its place or after it.
unfoldable pub ItemIs : List ℕ → ℕ → Item → Type 0
ItemIs s at (Next e next) = Fits e × Form s at (event_bytes e) next
ItemIs s at (Err err) = ItemFault s at err.at err.why × ((most : ℕ) → Located most s err.why err.at err.looked)

begun_kind : (k : ℕ) → (k ≡ 0 → ⊥) → k ≤ 4 → Begun (uleb128 k)
begun_kind k z l = claims.kind k (omega (arith, z)) l

module _ (s : List ℕ) (at : ℕ) (b : Bytes s) (h : at ≤ length s) where
  valued_is : (a next : ℕ) → a ≤ 65535 → Form s at (uleb128 1 ++ uleb128 a) next → (r : Varint) → VarintIs s next r → ItemIs s at (valued a r)
  unfolding valued VarintIs ItemIs Fits event_bytes
  valued_is a next k f (Err err) e = (rw e.2.1 (refused e.2.0 _ (address a k) (rw e.0 f)), e.1)
  valued_is a next k f (Value v last used) e = ((k, e.0), onward f e.1)

  operands_is : (k next : ℕ) → (k ≡ 0 → ⊥) → k ≤ 4 → Form s at (uleb128 k) next → (r : Varint) → VarintIs s next r → ItemIs s at (operands s k r)
  unfolding operands VarintIs ItemIs Fits event_bytes
  operands_is k next z l f (Err err) e = (rw e.2.1 (refused e.2.0 _ (begun_kind k z l) (rw e.0 f)), e.1)
  operands_is k next z l f (Value n last used) e =
      let both = onward f e.1 in
      either (ItemIs s at) (eqb k 1)
      (λ q. let g = rw (eqb-true k 1 q) at both in valued_is n last e.0 g (varint_at s last) (varint_is s last b (within h g)))
      λ p. either (ItemIs s at) (eqb k 2) (λ q. (e.0, rw (eqb-true k 2 q) at both))
      λ q. either (ItemIs s at) (eqb k 3) (λ r. (e.0, rw (eqb-true k 3 r) at both))
      λ r. let m : k ≡ 4 = omega (arith, eqb-false k 1 p, eqb-false k 2 q, eqb-false k 3 r) in (e.0, rw m at both)

  kinded_is : (r : Varint) → VarintIs s at r → ItemIs s at (kinded s at r)
  unfolding kinded VarintIs ItemIs Fits event_bytes Found
  kinded_is (Err err) e = (rw e.2.1 (refused e.2.0 [] nothing (nothing_before s at err.at e.0)), e.1)
  kinded_is (Value k next used) e =
      either (ItemIs s at) (ltb 4 k) (λ p. (kind (nothing_before s at at refl), (λ most. record { found = (k, (e.2.0, (e.2.1, ltb-true 4 k p))); inside = value_within s at k used e.2.0 h e.2.1 })))
      λ p. either (ItemIs s at) (eqb k 0) (λ q. (tt, rw (eqb-true k 0 q) at e.1))
      λ q. operands_is k next (eqb-false k 0 q) (ltb-false 4 k p) e.1 (varint_at s next) (varint_is s next b (within h e.1))

  pub event_is : ItemIs s at (event_at s at)
  unfolding event_at
  event_is = kinded_is (varint_at s at) (varint_is s at b h)

module _ (s : List ℕ) (at : ℕ) (u : List ℕ) where
  -- the event's numbers once its kind is read
  of_kind : (k : ℕ) (w : List ℕ) → (k ≡ 0 → ⊥) → k ≤ 4 → drop at s ≡ uleb128 k ++ w → event_at s at ≡ operands s k (varint_at s (at + length (uleb128 k)))
  unfolding event_at kinded
  of_kind k w z l e = rw (varint_back s at k w (omega arith) e, le-ltb 4 k l, ne_eqb k 0 z)

  -- an event of one number n
  of_one : (k n : ℕ) → (k ≡ 0 → ⊥) → k ≤ 4 → n ≤ 65535 → drop at s ≡ (uleb128 k ++ uleb128 n) ++ u
      → event_at s at ≡ operands s k (Value n (at + length (uleb128 k ++ uleb128 n)) (length (uleb128 n)))
  of_one k n z l h e =
      let f = e ∙ append_assoc (uleb128 k) (uleb128 n) u in
      let g = drop_after s at (uleb128 k) (uleb128 n ++ u) f in
      let m : at + length (uleb128 k) + length (uleb128 n) ≡ at + length (uleb128 k ++ uleb128 n) = omega (arith, length-append (uleb128 k) (uleb128 n)) in
      of_kind k (uleb128 n ++ u) z l f ∙ rw (varint_back s (at + length (uleb128 k)) n u h g, m)

  of_none : drop at s ≡ uleb128 0 ++ u → event_at s at ≡ Next Reset (at + length (uleb128 0))
  unfolding event_at kinded
  of_none e = rw (varint_back s at 0 u (lit≤ tt) e)

pub event_back : (s : List ℕ) (at : ℕ) (u : List ℕ) (e : Event) → Fits e → drop at s ≡ event_bytes e ++ u → event_at s at ≡ Next e (at + length (event_bytes e))
unfolding event_bytes Fits operands valued
event_back s at u Reset h e = of_none s at u e
event_back s at u (Write a v) h e =
    let f = e ∙ append_assoc (uleb128 1 ++ uleb128 a) (uleb128 v) u in
    let g = drop_after s at (uleb128 1 ++ uleb128 a) (uleb128 v ++ u) f in
    let m : at + length (uleb128 1 ++ uleb128 a) + length (uleb128 v) ≡ at + length (uleb128 1 ++ uleb128 a ++ uleb128 v) = omega (arith, length-append (uleb128 1 ++ uleb128 a) (uleb128 v)) in
    of_one s at (uleb128 v ++ u) 1 a (λ (q : 1 ≡ 0). omega arith) (lit≤ tt) h.0 f ∙ rw (varint_back s (at + length (uleb128 1 ++ uleb128 a)) v u h.1 g, m)
event_back s at u (Read n) h e = of_one s at u 2 n (λ (q : 2 ≡ 0). omega arith) (lit≤ tt) h e
event_back s at u (Slot n) h e = of_one s at u 3 n (λ (q : 3 ≡ 0). omega arith) (lit≤ tt) h e
event_back s at u (Mark n) h e = of_one s at u 4 n (λ (q : 4 ≡ 0). omega arith) (lit≤ tt) h e
