-- What is left to read, behind the events read, gives the outcome.
use Rattle.std.proofs.Common.{◌≡◌, ◌+◌, length}
use Rattle.reading_place.specs.Items.{rest_of}
use Rattle.session_cases.specs.Summary.{summary}
use Rattle.session_cases.proofs.read_events.Given as goal

abbrev pub invariant-loop-item : goal.invariant-loop-item
invariant-loop-item l =
    goal.iterator-loop-item.can_next l.item-iterator
    × goal.iterator-loop-item.is_finite l.item-iterator
    × (l.n + length (rest_of l.item-iterator) ≡ length (rest_of l.fn.events))
    × (summary l.n (rest_of l.item-iterator) ≡ summary 0 (rest_of l.fn.events))
