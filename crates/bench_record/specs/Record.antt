-- 01, Session and listing: the listing of a session.
--   answer_to == the controller's answer to an event        lines == the lines of events        listing_of == the whole listing
use Rattle.std.specs.Prelude.{ℕ, Option, Some, None, ◌+◌, List, [], ◌∷◌, ◌++◌, ltb, length, drop, Err}
use Rattle.leb128.specs.Leb128.{pick}
use Rattle.session.specs.declared.Event.{Event}
use Rattle.session.specs.declared.Event.TheVariants.{Reset, Write, Read, Slot, Mark}
use Rattle.session.specs.Reading.{most_events, fault_number, Events, Reading, NoHeader, Counted, session, End, Clean}
use Rattle.rules.specs.Definitions.Run.{fresh, step, accept}
use Rattle.rules.specs.declared.Event.TheVariants as controls
use Rattle.rules.specs.declared.Controller.{Controller}
use Rattle.rules.specs.declared.Answer.{Answer}
use Rattle.listing.specs.Listing.{line, events_line, end_line, bad_line}

-- An event of a session is one of the controller, by the step rule; "a mark, no effect".
unfoldable pub answer_to : Controller → Event → Answer
answer_to c Reset = step c controls.Reset
answer_to c (Write address value) = step c (controls.Write address value)
answer_to c (Read address) = step c (controls.Read address)
answer_to c (Slot levels) = step c (controls.Slot levels)
answer_to c (Mark n) = accept 0 c

-- The lines of events from the number `index` on; each event gets the controller that the last one left.
unfoldable pub lines : Controller → ℕ → List Event → List ℕ
lines c index [] = []
lines c index (e ∷ es) = line index e (answer_to c e).refused (answer_to c e).value ++ lines (answer_to c e).next (index + 1) es

-- "On 30 to 36 the earlier lines stand, then `bad 31 at P` ..; no `end`." 02, Req 02: the line ends in ` after K`.
unfoldable pub closing : ℕ → End → List ℕ
closing count Clean = end_line count
closing count (Err err) = bad_line (fault_number err.why) err.at err.looked

unfoldable pub body : Controller → ℕ → ℕ → Events → List ℕ
body c index count r = lines c index r.events ++ closing count r.end

-- "A bad header gives that line alone."
unfoldable pub listing : Reading → List ℕ
listing (NoHeader f p k) = bad_line (fault_number f) p k
listing (Counted count r) = events_line count ++ body fresh 0 count r

unfoldable pub listing_of : List ℕ → List ℕ
listing_of s = listing (session most_events s)

-- 01, Numbers refused: 13, "output too short": the room is shorter than the listing. Else the listing's length is the answer.
unfoldable pub played : ℕ → List ℕ → Option ℕ
played room text = pick (ltb room (length text)) None (Some (length text))

unfoldable pub number : Option ℕ → ℕ
number (Some n) = 0
number None = 13

-- The lent room afterwards: "Lent room past an answer keeps its bytes." Where it is too short, it is as it was.
unfoldable pub played_room : List ℕ → List ℕ → List ℕ
played_room room text = pick (ltb (length room) (length text)) room (text ++ drop (length text) room)
