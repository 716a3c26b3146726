-- What an iterator over a session yields: the events that are read, and then the fault that ends them.
--   items == those of a reading        rest_of == those that an iterator has left
use Rattle.std.specs.Prelude.{if◌then◌else◌, List, [], ◌∷◌, Result, Ok, Err}
use Rattle.session.specs.declared.Bad.{Bad}
use Rattle.session.specs.declared.Event.{Event}
use Rattle.session.specs.Reading as reading
use Rattle.session.specs.Reading.{End, Clean, events_at}
use Rattle.reading_place.specs.declared.Events.{Events}

abbrev pub ended : End → List (Result Event Bad)
ended Clean = []
ended (Err bad) = Err bad ∷ []

abbrev pub before : List Event → List (Result Event Bad) → List (Result Event Bad)
before [] rest = rest
before (e ∷ es) rest = Ok e ∷ before es rest

abbrev pub items : reading.Events → List (Result Event Bad)
items r = before r.events (ended r.end)

abbrev pub rest_of : Events → List (Result Event Bad)
rest_of e = if e.over then [] else items (events_at e.due e.session.src.now e.session.at)
