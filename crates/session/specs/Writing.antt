-- 01, Session and listing: the bytes of an event and of a session.
use Rattle.std.specs.Prelude.{ℕ, ◌≤◌, List, [], ◌∷◌, ◌++◌, length}
use Rattle.leb128.specs.Leb128.{uleb128}
use Rattle.session.specs.declared.Event.{Event}
use Rattle.session.specs.declared.Event.TheVariants.{Reset, Write, Read, Slot, Mark}

-- The kind, then the numbers that it has, each in LEB128.
unfoldable pub event_bytes : Event → List ℕ
event_bytes Reset = uleb128 0
event_bytes (Write address value) = uleb128 1 ++ uleb128 address ++ uleb128 value
event_bytes (Read address) = uleb128 2 ++ uleb128 address
event_bytes (Slot levels) = uleb128 3 ++ uleb128 levels
event_bytes (Mark n) = uleb128 4 ++ uleb128 n

unfoldable pub events_bytes : List Event → List ℕ
events_bytes [] = []
events_bytes (e ∷ es) = event_bytes e ++ events_bytes es

-- "version 1, count, events"
unfoldable pub session_bytes : List Event → List ℕ
session_bytes es = (uleb128 1 ++ uleb128 (length es)) ++ events_bytes es

-- An event's numbers are at most 65,535.
unfoldable pub Fits : Event → Type 0
Fits Reset = Unit {0}
Fits (Write address value) = (address ≤ 65535) × (value ≤ 65535)
Fits (Read address) = address ≤ 65535
Fits (Slot levels) = levels ≤ 65535
Fits (Mark n) = n ≤ 65535

unfoldable pub AllFit : List Event → Type 0
AllFit [] = Unit {0}
AllFit (e ∷ es) = Fits e × AllFit es
