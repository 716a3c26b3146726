-- 01, Session and listing: "A session is lent bytes and a reading place moving over them: version 1, count, events."
--   varint_at, header_at, event_at, end_at == what stands at a place        session == the whole
use Rattle.std.specs.Prelude.{ℕ, zero, suc, ◌+◌, min, List, [], ◌∷◌, ◌++◌, codes, decimal, Result, Ok, Err, ltb, eqb, length, drop}
use Rattle.leb128.specs.Leb128 as leb128
use Rattle.leb128.specs.Leb128.{pick}
use Rattle.leb128.specs.declared.Refusal.{Refusal}
use Rattle.leb128.specs.declared.Refusal.TheVariants as numbers
use Rattle.session.specs.declared.Fault.{Fault}
use Rattle.session.specs.declared.Fault.TheVariants.{Cut, NotShortest, TooLarge, Version, Count, Kind, LeftOver}
use Rattle.session.specs.declared.Event.{Event}
use Rattle.session.specs.declared.Event.TheVariants.{Reset, Write, Read, Slot, Mark}
use Rattle.session.specs.declared.Bad.{Bad}

-- 01, Numbers refused: 30, 31, 32 are "number cut, not shortest, above 65,535"; 33 to 36 are "version, count above 4,096, kind, bytes left over".
unfoldable pub fault_number : Fault → ℕ
fault_number Cut = 30
fault_number NotShortest = 31
fault_number TooLarge = 32
fault_number Version = 33
fault_number Count = 34
fault_number Kind = 35
fault_number LeftOver = 36

-- A fault, the place of it, and how many bytes of its number were looked at.
abbrev pub bad : {A : Type 0} → Fault → ℕ → ℕ → Result A Bad
bad why at looked = Err (record { why = why; at = at; looked = looked })

-- What is shown of it: the words of the listing's line `bad`.
unfoldable pub bad_text : Bad → List ℕ
bad_text bad = codes "bad " ++ decimal (fault_number bad.why) ++ codes " at " ++ decimal bad.at ++ codes " after " ++ decimal bad.looked

-- What is read: a number in LEB128, with the place behind it and how many bytes it used; a count, and an event, with the place behind it; how the reading ended
-- once every event was read.
abbrev pub Varint : Type 0
Varint = Result (ℕ × ℕ × ℕ) Bad

pattern abbrev pub Value : ℕ → ℕ → ℕ → Varint
Value value next used = Ok (value, next, used)

abbrev pub Header : Type 0
Header = Result (ℕ × ℕ) Bad

pattern abbrev pub Good : ℕ → ℕ → Header
Good count next = Ok (count, next)

abbrev pub Item : Type 0
Item = Result (Event × ℕ) Bad

pattern abbrev pub Next : Event → ℕ → Item
Next event next = Ok (event, next)

abbrev pub End : Type 0
End = Result (Unit {0}) Bad

pattern abbrev pub Clean : End
Clean = Ok tt

-- The largest count (34).
abbrev pub most_events : ℕ
most_events = 4096

unfoldable pub refusal : Refusal → Fault
refusal numbers.Cut = Cut
refusal numbers.NotShortest = NotShortest
refusal numbers.TooLarge = TooLarge

-- The number at a place, in LEB128, with the place behind it and how many bytes it used. The place of a fault is "the offset of the number's first byte"; if there is
-- no byte, the input's length. 02, Req 02: with it goes "how many bytes were looked at".
unfoldable pub placed : List ℕ → ℕ → leb128.Parsed → Varint
placed s at (leb128.Value v used rest) = Value v (at + used) used
placed s at (leb128.Refused f looked) = bad (refusal f) (min at (length s)) looked

unfoldable pub varint_at : List ℕ → ℕ → Varint
varint_at s at = placed s at (leb128.decode (drop at s))

-- The header: "version 1, count", the count at most `most`; each is judged as soon as its number is read.
unfoldable pub counted : ℕ → ℕ → Varint → Header
counted most at (Err err) = Err err
counted most at (Value c next used) = pick (ltb most c) (bad Count at used) (Good c next)

unfoldable pub versioned : ℕ → List ℕ → ℕ → Varint → Header
versioned most s at (Err err) = Err err
versioned most s at (Value v next used) = pick (eqb v 1) (counted most next (varint_at s next)) (bad Version at used)

unfoldable pub header_at : ℕ → List ℕ → ℕ → Header
header_at most s at = versioned most s at (varint_at s at)

-- "Kinds: 0 pin reset; 1 address, value; 2 address; 3 levels RxD0 + 2·RxD1 + 4·RxD2; 4 a mark, no effect." The value after the address; the numbers after
-- a kind of 1 to 4; the kind, judged before its numbers.
unfoldable pub valued : ℕ → Varint → Item
valued address (Err err) = Err err
valued address (Value v next used) = Next (Write address v) next

unfoldable pub operands : List ℕ → ℕ → Varint → Item
operands s kind (Err err) = Err err
operands s kind (Value n next used) =
    pick (eqb kind 1) (valued n (varint_at s next))
    (pick (eqb kind 2) (Next (Read n) next) (pick (eqb kind 3) (Next (Slot n) next) (Next (Mark n) next)))

unfoldable pub kinded : List ℕ → ℕ → Varint → Item
kinded s at (Err err) = Err err
kinded s at (Value kind next used) =
    pick (ltb 4 kind) (bad Kind at used) (pick (eqb kind 0) (Next Reset next) (operands s kind (varint_at s next)))

unfoldable pub event_at : List ℕ → ℕ → Item
event_at s at = kinded s at (varint_at s at)

-- 36, "bytes left over": its place is the first of them, and no number is read there (02, Req 02: "K 0 for 36").
unfoldable pub end_at : List ℕ → ℕ → End
end_at s at = pick (ltb at (length s)) (bad LeftOver at 0) Clean

-- 01, Numbers refused: "for 30 to 36 this is said of the event being read, and those before it stand". The events read from a place on, where so many are due,
-- and how the reading ended.
pub record Events : Type 0 where
  pub events : List Event
  pub end : End

unfoldable pub follow : Item → (ℕ → Events) → Events
follow (Err err) rest = record { events = []; end = Err err }
follow (Next e next) rest = record { events = e ∷ (rest next).events; end = (rest next).end }

unfoldable pub events_at : ℕ → List ℕ → ℕ → Events
events_at zero s at = record { events = []; end = end_at s at }
events_at (suc due) s at = follow (event_at s at) (λ next. events_at due s next)

-- The whole session: a header that is refused, or the count with the events.
pub data Reading : Type 0 where
  NoHeader : Fault → ℕ → ℕ → Reading
  Counted : ℕ → Events → Reading

unfoldable pub started : List ℕ → Header → Reading
started s (Err err) = NoHeader err.why err.at err.looked
started s (Good count next) = Counted count (events_at count s next)

unfoldable pub session : ℕ → List ℕ → Reading
session most s = started s (header_at most s 0)
