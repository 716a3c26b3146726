-- Laws of the whole session: its bytes are those of its header, of the events read, and what follows them.
use Rattle.std.specs.Prelude.{Err}
use Prim.Native.Nat.{ℕ, zero, suc, ◌+◌, ◌-◌, ◌*◌, ◌<◌, ◌≤◌}
use mathlib.Core.List.{List, [], ◌∷◌, ◌++◌, append_assoc, append-nil}
use mathlib.Core.Path.{◌≡◌, refl, ap, ◌∙◌}
use native.Mathlib.Omega.{arith}
use native.Mathlib.Nat.{add-zero, zero-add, suc-add}
use borrow.Author.Tests.{ltb-true, ltb-false, le-ltb}
use lib.Dec.{ltb, lit<}
use lib.ListN.{length, drop, take, length-append, drop_of_length-le}
use lib.Seq.{take-append-add}
use Rattle.leb128.specs.Leb128.{Bytes, uleb128}
use Rattle.leb128.proofs.GroupLaws.{either, uleb128_small, uleb128_most, uleb128_grows}
use Rattle.session.specs.declared.Fault.{Fault}
use Rattle.session.specs.declared.Fault.TheVariants.{LeftOver}
use Rattle.session.specs.declared.Event.{Event}
use Rattle.session.specs.declared.Event.TheVariants.{Reset, Write, Read, Slot, Mark}
use Rattle.session.specs.Reading.{header_at, event_at, end_at, Events, follow, events_at, Reading, NoHeader, Counted, started, session, bad, Header, Item, End, Good, Next, Clean}
use Rattle.session.specs.Claims.{Found, Located}
use Rattle.session.specs.Writing.{event_bytes, events_bytes, session_bytes, AllFit}
use Rattle.session.proofs.Walk.{counts, goes_on}
use Rattle.session.proofs.Form.{Form, within, onward, drop_after, HeaderIs, header_is, HeaderFault, ItemFault, kind, refused, header_back, ItemIs, event_is, event_back}

-- A fault of the event at m, or bytes left over there.
pub data EndFault (s : List ℕ) (m p due n : ℕ) : Fault → Type 0 where
  in_event : {f : Fault} → n < due → ItemFault s m p f → EndFault s m p due n f
  left_over : n ≡ due → p ≡ m → EndFault s m p due n LeftOver

-- How the reading of n of the events due ended, at the place m: with nothing left, or with a fault at m or after it.
unfoldable pub EndIs : ℕ → List ℕ → ℕ → ℕ → End → Type 0
EndIs due s m n Clean = (n ≡ due) × (m ≡ length s)
EndIs due s m n (Err err) = EndFault s m err.at due n err.why × ((most : ℕ) → Located most s err.why err.at err.looked)

pub record EventsAre (due : ℕ) (s : List ℕ) (at : ℕ) (r : Events) : Type 0 where
  pub last : ℕ
  pub form : Form s at (events_bytes r.events) last
  pub fit : AllFit r.events
  pub ends : EndIs due s last (length r.events) r.end

none_read : (s : List ℕ) (at : ℕ) → Form s at (events_bytes []) at
unfolding events_bytes
none_read s at = record { bytes = refl; place = omega arith }

end_is : (s : List ℕ) (at : ℕ) → at ≤ length s → EndIs 0 s at 0 (end_at s at)
unfolding end_at EndIs Found
end_is s at h =
    either (EndIs 0 s at 0) (ltb at (length s))
    (λ q. (left_over refl refl, (λ most. record { found = (refl, ltb-true at (length s) q); inside = omega arith })))
    (λ q. let l = ltb-false at (length s) q in omega arith)

later : {s : List ℕ} {m p due n : ℕ} {f : Fault} → EndFault s m p due n f → EndFault s m p (suc due) (suc n) f
later (in_event l i) = in_event (omega arith) i
later (left_over l i) = left_over (omega arith) i

one_more : (due : ℕ) (s : List ℕ) (m n : ℕ) (e : End) → EndIs due s m n e → EndIs (suc due) s m (suc n) e
unfolding EndIs
one_more due s m n Clean h = omega arith
one_more due s m n (Err err) h = (later h.0, h.1)

module _ (s : List ℕ) (b : Bytes s) where
  after_item : (due at : ℕ) → at ≤ length s → (i : Item) → ItemIs s at i → ((next : ℕ) → next ≤ length s → EventsAre due s next (events_at due s next))
      → EventsAre (suc due) s at (follow i (λ next. events_at due s next))
  unfolding follow ItemIs AllFit EndIs events_bytes
  after_item due at h (Err err) e rest = record { last = at; form = none_read s at; fit = tt; ends = (in_event (omega arith) e.0, e.1) }
  after_item due at h (Next v next) e rest =
      let r = rest next (within h e.1) in
      record { last = r.last; form = onward e.1 r.form; fit = (e.0, r.fit); ends = one_more due s r.last (length (events_at due s next).events) (events_at due s next).end r.ends }

  events_are : (due at : ℕ) → at ≤ length s → EventsAre due s at (events_at due s at)
  unfolding events_at AllFit
  events_are zero at h = record { last = at; form = none_read s at; fit = tt; ends = end_is s at h }
  events_are (suc due) at h = after_item due at h (event_at s at) (event_is s at b h) (events_are due)

-- The header and the events of a whole session.
pub record Whole (most : ℕ) (s : List ℕ) (c : ℕ) (r : Events) : Type 0 where
  pub most_due : c ≤ most
  pub count_fits : c ≤ 65535
  pub first : ℕ
  pub header : Form s 0 (uleb128 1 ++ uleb128 c) first
  pub read : EventsAre c s first r

unfoldable pub SessionIs : ℕ → List ℕ → Reading → Type 0
SessionIs most s (NoHeader f p k) = Located most s f p k × HeaderFault s 0 p f
SessionIs most s (Counted c r) = Whole most s c r

module _ (most : ℕ) (s : List ℕ) (b : Bytes s) where
  started_is : (h : Header) → HeaderIs most s 0 h → SessionIs most s (started s h)
  unfolding started HeaderIs SessionIs
  started_is (Err err) e = e
  started_is (Good c next) e =
      record { most_due = e.0; count_fits = e.1; first = next; header = e.2; read = events_are s b c next (within (omega arith) e.2) }

  pub session_is : SessionIs most s (session most s)
  unfolding session
  session_is = started_is (header_at most s 0) (header_is most s 0 b (omega arith))

  pub whole : (c : ℕ) (r : Events) → session most s ≡ Counted c r → Whole most s c r
  unfolding SessionIs
  whole c r e = rw e at session_is

-- A session that begins with a header and events reads them, whatever follows.
abbrev pub prepend : List Event → Events → Events
prepend es r = record { events = es ++ r.events; end = r.end }

events_back : (es : List Event) (j : ℕ) (s : List ℕ) (at : ℕ) (u : List ℕ) → AllFit es → drop at s ≡ events_bytes es ++ u
    → events_at (length es + j) s at ≡ prepend es (events_at j s (at + length (events_bytes es)))
unfolding AllFit events_bytes
events_back [] j s at u h e = rw (zero-add, add-zero)
events_back (v ∷ es) j s at u h e =
    let f = e ∙ append_assoc (event_bytes v) (events_bytes es) u in
    let next = at + length (event_bytes v) in
    let i = events_back es j s next u h.1 (drop_after s at (event_bytes v) (events_bytes es ++ u) f) in
    let m : at + length (event_bytes v) + length (events_bytes es) ≡ at + length (event_bytes v ++ events_bytes es) = omega (arith, length-append (event_bytes v) (events_bytes es)) in
    rw (suc-add, goes_on s at (length es + j) (event_back s at (events_bytes es ++ u) v h.0 f), i, m)

module _ (most c : ℕ) (s u : List ℕ) (es : List Event) (h : c ≤ most) (k : c ≤ 65535) (fit : AllFit es) (n : length es ≤ c) (e : s ≡ uleb128 1 ++ uleb128 c ++ events_bytes es ++ u) where
  pub begins : session most s ≡ Counted c (prepend es (events_at (c - length es) s (length (uleb128 1 ++ uleb128 c ++ events_bytes es))))
  begins =
      let f = e ∙ append_assoc (uleb128 1 ++ uleb128 c) (events_bytes es) u in
      let g = drop_after s 0 (uleb128 1 ++ uleb128 c) (events_bytes es ++ u) f in
      let d : c ≡ length es + (c - length es) = omega arith in
      let i = events_back es (c - length es) s (0 + length (uleb128 1 ++ uleb128 c)) u fit g in
      let m : 0 + length (uleb128 1 ++ uleb128 c) + length (events_bytes es) ≡ length (uleb128 1 ++ uleb128 c ++ events_bytes es) = omega (arith, length-append (uleb128 1 ++ uleb128 c) (events_bytes es)) in
      counts most s (header_back most s 0 c (events_bytes es ++ u) h k f) ∙ ap (Counted c) (ap (λ (x : ℕ). events_at x s (0 + length (uleb128 1 ++ uleb128 c))) d ∙ i ∙ rw m)

behind : {s : List ℕ} {m p due n : ℕ} {f : Fault} → EndFault s m p due n f → (n ≤ due) × (m ≤ p)
behind (in_event l (kind g)) = let i = g.place in (omega arith, omega arith)
behind (in_event l (refused r begun b g)) = let i = g.place in (omega arith, omega arith)
behind (left_over l i) = (omega arith, omega arith)

bad_end : (due : ℕ) (s : List ℕ) (m n : ℕ) (x : End) (f : Fault) (p k : ℕ) → x ≡ bad f p k → EndIs due s m n x → (n ≤ due) × (m ≤ p) × (p ≤ length s)
unfolding EndIs
bad_end due s m n x f p k e h = let a = rw e at h in let i = (a.1 0).inside in let o = behind a.0 in (o.0, o.1, omega arith)

clean_end : (due : ℕ) (s : List ℕ) (m n : ℕ) (x : End) → x ≡ Clean → EndIs due s m n x → (n ≡ due) × (m ≡ length s)
unfolding EndIs
clean_end due s m n x e h = rw e at h

-- The bytes before the place where the reading ended.
module _ (most : ℕ) (s : List ℕ) (b : Bytes s) (c : ℕ) (r : Events) (e : session most s ≡ Counted c r) where
  w : Whole most s c r
  w = whole most s b c r e

  abbrev front : List ℕ
  front = uleb128 1 ++ uleb128 c ++ events_bytes r.events

  form : Form s 0 front w.read.last
  form = onward w.header w.read.form

  -- they are read again in front of other bytes
  pub stays : (f : Fault) (p k : ℕ) → r.end ≡ bad f p k → (t : List ℕ)
      → session most (take p s ++ t) ≡ Counted c (prepend r.events (events_at (c - length r.events) (take p s ++ t) (length front)))
  stays f p k i t =
      let x = bad_end c s w.read.last (length r.events) r.end f p k i w.read.ends in
      let m = form.place in
      let d : p ≡ length front + (p - w.read.last) = omega arith in
      let y = take (p - w.read.last) (drop w.read.last s) in
      let j : take p s ≡ front ++ y =
      ap (λ (l : List ℕ). take p l) form.bytes ∙ ap (λ (n : ℕ). take n (front ++ drop w.read.last s)) d ∙ take-append-add front (drop w.read.last s) (p - w.read.last)
      in
      begins most c (take p s ++ t) (y ++ t) r.events w.most_due w.count_fits w.read.fit x.0 (ap (λ (l : List ℕ). l ++ t) j ∙ append_assoc front y t)

  -- they are all, if nothing is left
  pub all : r.end ≡ Clean → s ≡ front
  all i =
      let x = clean_end c s w.read.last (length r.events) r.end i w.read.ends in
      let z : drop w.read.last s ≡ [] = drop_of_length-le s {i = w.read.last} (omega arith) in
      form.bytes ∙ ap (λ (l : List ℕ). front ++ l) z ∙ append-nil front

-- How long a written session is.
one_size : (k n : ℕ) → k < 128 → length (uleb128 k ++ uleb128 n) ≤ 4
one_size k n h = let l = uleb128_most n in let m = uleb128_small k h in omega (arith, length-append (uleb128 k) (uleb128 n))

event_size : (e : Event) → length (event_bytes e) ≤ 7
unfolding event_bytes
event_size Reset = let l = uleb128_most 0 in omega arith
event_size (Write a v) = let k = one_size 1 a (lit< tt) in let l = uleb128_most v in omega (arith, length-append (uleb128 1 ++ uleb128 a) (uleb128 v))
event_size (Read n) = let k = one_size 2 n (lit< tt) in omega arith
event_size (Slot n) = let k = one_size 3 n (lit< tt) in omega arith
event_size (Mark n) = let k = one_size 4 n (lit< tt) in omega arith

events_size : (es : List Event) → length (events_bytes es) ≤ 7 * length es
unfolding events_bytes
events_size [] = omega arith
events_size (e ∷ es) = let h = event_size e in let k = events_size es in omega (arith, length-append (event_bytes e) (events_bytes es))

pub bound : (most : ℕ) (es : List Event) → length es ≤ most → length (session_bytes es) ≤ 1 + length (uleb128 most) + 7 * most
unfolding session_bytes
bound most es h =
    let k = uleb128_grows (length es) most h in
    let l = events_size es in
    let m = uleb128_small 1 (lit< tt) in
    omega (arith, length-append (uleb128 1 ++ uleb128 (length es)) (events_bytes es), length-append (uleb128 1) (uleb128 (length es)))

pub at_end : (s : List ℕ) → end_at s (length s) ≡ Clean
unfolding end_at
at_end s = rw (le-ltb (length s) (length s) (omega arith))
