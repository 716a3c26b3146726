-- Laws: a fault that is no cut stands, whatever follows the input.
use Rattle.std.specs.Prelude.{Err}
use Rattle.leb128.specs.declared.Refusal.TheVariants as numbers
use Prim.Native.Nat.{ℕ, zero, suc, ◌≤◌}
use mathlib.Core.Bool.{Bool, true, false}
use mathlib.Core.List.{List, [], ◌∷◌, ◌++◌}
use mathlib.Core.Path.{◌≡◌, refl, ap, ◌∙◌}
use native.Mathlib.Omega.{arith}
use borrow.Author.Tests.{ltb-true, lt-ltb}
use lib.Dec.{ltb, eqb}
use lib.ListN.{length, drop, length-append}
use lib.Seq.{drop-append-le}
use Rattle.leb128.specs.Leb128 as leb128
use Rattle.leb128.specs.Leb128.{pick, Bytes, decode}
use Rattle.leb128.proofs.GroupLaws.{followed, decode_followed}
use Rattle.session.specs.Reading.{refusal, placed, varint_at, counted, versioned, header_at, valued, operands, kinded, event_at, end_at, Events, follow, events_at, Counted, started, session, bad, Varint, Header, Item, End, Value, Good, Next}
use Rattle.session.specs.Claims.{NotCut, EndStands, Settled}
use Rattle.session.proofs.Form.{within, VarintIs, varint_is, HeaderIs, header_is, ItemIs, event_is}

unfoldable VarintStands : Varint → Type 0
VarintStands (Value n next used) = Unit {0}
VarintStands (Err err) = NotCut err.why

unfoldable HeaderStands : Header → Type 0
HeaderStands (Good c next) = Unit {0}
HeaderStands (Err err) = NotCut err.why

unfoldable ItemStands : Item → Type 0
ItemStands (Next e next) = Unit {0}
ItemStands (Err err) = NotCut err.why

-- Where one of the two ways changes, and only if what is picked does not stand.
first_way : {A : Type 0} (P : A → Type 0) (x : Bool) (i i' j : A) → (P i → i' ≡ i) → P (pick x i j) → pick x i' j ≡ pick x i j
first_way P true i i' j h p = h p
first_way P false i i' j h p = refl

other_way : {A : Type 0} (P : A → Type 0) (x : Bool) (i j j' : A) → (P j → j' ≡ j) → P (pick x i j) → pick x i j' ≡ pick x i j
other_way P true i j j' h p = refl
other_way P false i j j' h p = h p

module _ (s t : List ℕ) where
  placed_stands : (at : ℕ) → at ≤ length s → (r : leb128.Parsed) → placed (s ++ t) at (followed r t) ≡ placed s at r
  unfolding placed followed
  placed_stands at h (leb128.Value v u rest) = refl
  placed_stands at h (leb128.Refused f u) = ap (λ (p : ℕ). bad (refusal f) p u) (omega (arith, length-append s t))

  varint_stands : (at : ℕ) → at ≤ length s → VarintStands (varint_at s at) → varint_at (s ++ t) at ≡ varint_at s at
  unfolding varint_at placed refusal VarintStands
  varint_stands at h stands =
      rw (drop-append-le at s t h, decode_followed (drop at s) t (λ u (q : decode (drop at s) ≡ leb128.Refused numbers.Cut u). (rw q at stands) refl))
      (placed_stands at h (decode (drop at s)))

  valued_stands : (a at : ℕ) → at ≤ length s → ItemStands (valued a (varint_at s at)) → valued a (varint_at (s ++ t) at) ≡ valued a (varint_at s at)
  unfolding valued ItemStands VarintStands
  valued_stands a at h i = ap (valued a) (varint_stands at h (of_varint (varint_at s at) i))
    where
      of_varint : (r : Varint) → ItemStands (valued a r) → VarintStands r
      of_varint (Value v next used) k = tt
      of_varint (Err err) k = k

  module _ (b : Bytes s) where
    operands_stand : (k at : ℕ) → at ≤ length s → ItemStands (operands s k (varint_at s at)) → operands (s ++ t) k (varint_at (s ++ t) at) ≡ operands s k (varint_at s at)
    unfolding operands ItemStands VarintStands VarintIs
    operands_stand k at h i = ap (operands (s ++ t) k) (varint_stands at h (of_varint (varint_at s at) i)) ∙ same (varint_at s at) (varint_is s at b h) i
      where
        of_varint : (r : Varint) → ItemStands (operands s k r) → VarintStands r
        of_varint (Value n next used) l = tt
        of_varint (Err err) l = l

        same : (r : Varint) → VarintIs s at r → ItemStands (operands s k r) → operands (s ++ t) k r ≡ operands s k r
        same (Value n next used) e l = first_way ItemStands (eqb k 1) _ _ _ (valued_stands n next (within h e.1)) l
        same (Err err) e l = refl

    event_stands : (at : ℕ) → at ≤ length s → ItemStands (event_at s at) → event_at (s ++ t) at ≡ event_at s at
    unfolding event_at kinded ItemStands VarintStands VarintIs
    event_stands at h i = ap (kinded (s ++ t) at) (varint_stands at h (of_varint (varint_at s at) i)) ∙ same (varint_at s at) (varint_is s at b h) i
      where
        of_varint : (r : Varint) → ItemStands (kinded s at r) → VarintStands r
        of_varint (Value k next used) l = tt
        of_varint (Err err) l = l

        same : (r : Varint) → VarintIs s at r → ItemStands (kinded s at r) → kinded (s ++ t) at r ≡ kinded s at r
        same (Value k next used) e l = other_way ItemStands (ltb 4 k) _ _ _ (other_way ItemStands (eqb k 0) _ _ _ (operands_stand k next (within h e.1))) l
        same (Err err) e l = refl

    header_stands : (most at : ℕ) → at ≤ length s → HeaderStands (header_at most s at) → header_at most (s ++ t) at ≡ header_at most s at
    unfolding header_at versioned counted HeaderStands VarintStands VarintIs
    header_stands most at h i = ap (versioned most (s ++ t) at) (varint_stands at h (of_varint (varint_at s at) i)) ∙ same (varint_at s at) (varint_is s at b h) i
      where
        of_varint : (r : Varint) → HeaderStands (versioned most s at r) → VarintStands r
        of_varint (Value v next used) l = tt
        of_varint (Err err) l = l

        of_count : (next : ℕ) (r : Varint) → HeaderStands (counted most next r) → VarintStands r
        of_count next (Value c last used) l = tt
        of_count next (Err err) l = l

        same : (r : Varint) → VarintIs s at r → HeaderStands (versioned most s at r) → versioned most (s ++ t) at r ≡ versioned most s at r
        same (Value v next used) e l = first_way HeaderStands (eqb v 1) _ _ _ (λ m. ap (counted most next) (varint_stands next (within h e.1) (of_count next (varint_at s next) m))) l
        same (Err err) e l = refl

    end_stands : (at : ℕ) → EndStands (end_at s at) → end_at (s ++ t) at ≡ end_at s at
    unfolding end_at EndStands
    end_stands at i = go (ltb at (length s)) refl
      where
        go : (x : Bool) → ltb at (length s) ≡ x → end_at (s ++ t) at ≡ end_at s at
        go true e = rw (e, lt-ltb at (length (s ++ t)) (omega (arith, ltb-true at (length s) e, length-append s t)))
        go false e = absurd (rw e at i)

    -- the events of which the rest are known to stand
    follow_stands : (due at : ℕ) → at ≤ length s → (i : Item) → ItemIs s at i
        → ((next : ℕ) → next ≤ length s → EndStands (events_at due s next).end → events_at due (s ++ t) next ≡ events_at due s next)
        → EndStands (follow i (λ next. events_at due s next)).end
        → follow i (λ next. events_at due (s ++ t) next) ≡ follow i (λ next. events_at due s next)
    unfolding follow ItemIs
    follow_stands due at h (Next e next) f rest l =
        ap (λ (r : Events). record { events = e ∷ r.events; end = r.end }) (rest next (within h f.1) l)
    follow_stands due at h (Err err) e rest l = refl

    of_item : (due : ℕ) (i : Item) → EndStands (follow i (λ next. events_at due s next)).end → ItemStands i
    unfolding follow EndStands ItemStands
    of_item due (Next e next) l = tt
    of_item due (Err err) l = l

    events_stand : (due at : ℕ) → at ≤ length s → EndStands (events_at due s at).end → events_at due (s ++ t) at ≡ events_at due s at
    unfolding events_at
    events_stand zero at h i = ap (λ (e : End). record { events = []; end = e }) (end_stands at i)
    events_stand (suc due) at h i =
        ap (λ (x : Item). follow x (λ next. events_at due (s ++ t) next)) (event_stands at h (of_item due (event_at s at) i))
        ∙ follow_stands due at h (event_at s at) (event_is s at b h) (events_stand due) i

pub session_stands : (most : ℕ) (s t : List ℕ) → Bytes s → Settled (session most s) → session most (s ++ t) ≡ session most s
unfolding session started Settled HeaderStands HeaderIs
session_stands most s t b i =
    ap (started (s ++ t)) (header_stands s t b most 0 (omega arith) (of_header (header_at most s 0) i)) ∙ same (header_at most s 0) (header_is most s 0 b (omega arith)) i
  where
    of_header : (h : Header) → Settled (started s h) → HeaderStands h
    of_header (Good c next) l = tt
    of_header (Err err) l = l

    same : (h : Header) → HeaderIs most s 0 h → Settled (started s h) → started (s ++ t) h ≡ started s h
    same (Good c next) e l = ap (Counted c) (events_stand s t b c next (within (omega arith) e.2) l)
    same (Err err) e l = refl
