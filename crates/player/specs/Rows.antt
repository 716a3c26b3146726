-- The listing's lines after the count, by what the iterator over a session yields.
--   rows == the lines of the items, each event with the controller that the last one left        room_for == room for them, a longest line for each
use Rattle.std.specs.Prelude.{ℕ, ◌+◌, List, [], ◌∷◌, ◌++◌, Result, Ok, Err}
use Rattle.session.specs.declared.Bad.{Bad}
use Rattle.session.specs.declared.Event.{Event}
use Rattle.session.specs.Reading.{fault_number}
use Rattle.rules.specs.declared.Controller.{Controller}
use Rattle.listing.specs.Listing.{line, end_line, bad_line, longest_line}
use Rattle.bench_record.specs.Record.{answer_to}

abbrev pub rows : Controller → ℕ → ℕ → List (Result Event Bad) → List ℕ
rows c index count [] = end_line count
rows c index count (Ok e ∷ items) = line index e (answer_to c e).refused (answer_to c e).value ++ rows (answer_to c e).next (index + 1) count items
rows c index count (Err bad ∷ items) = bad_line (fault_number bad.why) bad.at bad.looked

abbrev pub room_for : List (Result Event Bad) → ℕ
room_for [] = longest_line
room_for (Ok e ∷ items) = longest_line + room_for items
room_for (Err bad ∷ items) = longest_line
