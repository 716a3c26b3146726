-- What is claimed of a session's reading: the types of the claims, whose values crate claims holds.
--   Found == what is wrong at the place of a fault        Located == that, within the input        InHeader, InEvents == which number is there
--   Answered == what any bytes are answered        Begins == the events read first        Settled == what a cut did not end        Good == a good session
use Rattle.leb128.specs.declared.Refusal.TheVariants as numbers
use Rattle.leb128.specs.declared.Refusal.{Refusal}
use Rattle.std.specs.Prelude.{ℕ, ◌+◌, ◌<◌, ◌≤◌, List, [], ◌++◌, ◌≡◌, length, drop, take, Err}
use Rattle.leb128.specs.Leb128 as leb128
use Rattle.leb128.specs.Leb128.{decode, uleb128}
use Rattle.session.specs.declared.Fault.{Fault}
use Rattle.session.specs.declared.Fault.TheVariants.{Cut, NotShortest, TooLarge, Version, Count, Kind, LeftOver}
use Rattle.session.specs.declared.Event.{Event}
use Rattle.session.specs.Writing.{events_bytes, AllFit}
use Rattle.session.specs.Reading.{refusal, Reading, NoHeader, Counted, session, End, Clean}

-- A good number of k bytes is at the place p, and `wrong` holds of its value.
abbrev pub NumberAt : (ℕ → Type 0) → List ℕ → ℕ → ℕ → Type 0
NumberAt wrong s p k = (v : ℕ) × ((rest : List ℕ) × ((decode (drop p s) ≡ leb128.Value v k rest) × wrong v))

-- 01, Numbers refused: what is wrong at the place of a fault (01, Session and listing: "the offset of the number's first byte"). 02, Req 02: for 30, 31 and 32 k is "how many bytes were
-- looked at" there, for 33, 34 and 35 how many the number used, and "K 0 for 36".
unfoldable pub Found : ℕ → List ℕ → Fault → ℕ → ℕ → Type 0
Found most s Cut p k = decode (drop p s) ≡ leb128.Refused numbers.Cut k
Found most s NotShortest p k = decode (drop p s) ≡ leb128.Refused numbers.NotShortest k
Found most s TooLarge p k = decode (drop p s) ≡ leb128.Refused numbers.TooLarge k
Found most s Version p k = NumberAt (λ v. v ≡ 1 → ⊥) s p k
Found most s Count p k = NumberAt (λ v. most < v) s p k
Found most s Kind p k = NumberAt (λ v. 4 < v) s p k
Found most s LeftOver p k = (k ≡ 0) × (p < length s)

-- The place of a fault is in the input or at its end, and so are the bytes looked at from there on.
pub record Located (most : ℕ) (s : List ℕ) (f : Fault) (p k : ℕ) : Type 0 where
  pub found : Found most s f p k
  pub inside : p + k ≤ length s

-- 01, Session and listing, "version 1, count, events": which number of the header is at the place p of its fault.
pub data InHeader (s : List ℕ) (p : ℕ) : Fault → Type 0 where
  version : p ≡ 0 → InHeader s p Version
  count : take p s ≡ uleb128 1 → InHeader s p Count
  version_refused : (r : Refusal) → p ≡ 0 → InHeader s p (refusal r)
  count_refused : (r : Refusal) → take p s ≡ uleb128 1 → InHeader s p (refusal r)

-- The numbers of an event that are read before the one at fault: none, the kind, or kind and address of a host write.
pub data Begun : List ℕ → Type 0 where
  nothing : Begun []
  kind : (n : ℕ) → 1 ≤ n → n ≤ 4 → Begun (uleb128 n)
  address : (a : ℕ) → a ≤ 65535 → Begun (uleb128 1 ++ uleb128 a)

-- Which number is at the place p of a fault after the header: `before` is the bytes of the header and of the n events read, of those due.
pub data InEvents (s : List ℕ) (p due n : ℕ) (before : List ℕ) : Fault → Type 0 where
  kind : n < due → take p s ≡ before → InEvents s p due n before Kind
  refused : (r : Refusal) (begun : List ℕ) → n < due → Begun begun → take p s ≡ before ++ begun → InEvents s p due n before (refusal r)
  left_over : n ≡ due → take p s ≡ before → InEvents s p due n before LeftOver

-- Any bytes are answered. The numbers of the events read are at most 65,535. No more events are read than are due, and all of them if nothing is left.
unfoldable pub Ended : ℕ → List ℕ → ℕ → List Event → End → Type 0
Ended most s due es Clean = length es ≡ due
Ended most s due es (Err err) = Located most s err.why err.at err.looked × InEvents s err.at due (length es) ((uleb128 1 ++ uleb128 due) ++ events_bytes es) err.why

unfoldable pub Answered : ℕ → List ℕ → Reading → Type 0
Answered most s (NoHeader f p k) = Located most s f p k × InHeader s p f
Answered most s (Counted c r) = (c ≤ most) × AllFit r.events × Ended most s c r.events r.end

-- The events before a fault are the same whatever follows its place: the reading of other bytes behind those before it begins with them.
unfoldable pub Begins : ℕ → List Event → Reading → Type 0
Begins c es (NoHeader f p k) = ⊥
Begins c es (Counted d r) = (d ≡ c) × ((more : List Event) × (r.events ≡ es ++ more))

-- What a cut did not end.
abbrev pub NotCut : Fault → Type 0
NotCut f = f ≡ Cut → ⊥

unfoldable pub EndStands : End → Type 0
EndStands Clean = ⊥
EndStands (Err err) = NotCut err.why

-- A session found bad by a fault that is no cut.
unfoldable pub Settled : Reading → Type 0
Settled (NoHeader f p k) = NotCut f
Settled (Counted c r) = EndStands r.end

-- A good session: its events are all that is due, and nothing is left.
abbrev pub Good : ℕ → List ℕ → List Event → Type 0
Good most s es = session most s ≡ Counted (length es) (record { events = es; end = Clean })
