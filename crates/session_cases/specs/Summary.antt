-- What the program says of a reading.
use Rattle.std.specs.Prelude.{ℕ, ◌+◌, List, [], ◌∷◌, length, Result, Ok, Err}
use Rattle.session.specs.declared.Bad.{Bad}
use Rattle.session.specs.declared.Event.{Event}
use Rattle.session.specs.Reading.{End, Clean, Events, Reading, NoHeader, Counted}
use Rattle.session_cases.specs.declared.Outcome.{Outcome}
use Rattle.session_cases.specs.declared.Outcome.TheVariants.{Refused, Whole, Broken}

-- A reading in short: how many events, and how it ended.
unfoldable pub ended : ℕ → End → Outcome
ended n Clean = Whole n
ended n (Err bad) = Broken n bad

unfoldable pub outcome : Events → Outcome
outcome r = ended (length r.events) r.end

unfoldable pub outcome_of : Reading → Outcome
outcome_of (NoHeader f p k) = Refused (record { why = f; at = p; looked = k })
outcome_of (Counted count r) = outcome r

-- The same by what the iterator over a session yields, where n events were read before.
abbrev pub summary : ℕ → List (Result Event Bad) → Outcome
summary n [] = Whole n
summary n (Ok e ∷ items) = summary (n + 1) items
summary n (Err bad ∷ items) = Broken n bad
