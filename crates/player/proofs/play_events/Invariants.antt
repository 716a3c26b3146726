-- Each item takes one longest line of the room for all of them, and what is left to lay completes the listing.
use Rattle.std.proofs.Common.{◌≡◌, ◌+◌, ◌*◌, ◌≤◌}
use Rattle.rules.specs.Definitions.Run.{fresh}
use Rattle.reading_place.specs.Items.{rest_of}
use Rattle.bench_record.proofs.Laws.{Goes}
use Rattle.player.specs.Rows.{rows, room_for}
use Rattle.player.proofs.Reached.{Reached}
use Rattle.player.proofs.play_events.Given as goal

abbrev pub invariant-loop-item : goal.invariant-loop-item
invariant-loop-item l =
    goal.iterator-loop-item.can_next l.item-iterator
    × goal.iterator-loop-item.is_finite l.item-iterator
    × (80 * l.index + room_for (rest_of l.item-iterator) ≡ room_for (rest_of l.fn.events))
    × (l.place ≤ l.at + 80 * l.index)
    × Reached l.c
    × Goes l.initial.room l.at (rows fresh 0 l.count (rest_of l.fn.events)) l.room l.place (rows l.c l.index l.count (rest_of l.item-iterator))
