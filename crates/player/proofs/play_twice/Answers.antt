use mathlib.Core.Path.{sym, ◌∙◌}
use native.Mathlib.Nat.{zero-add}
use Rattle.bench_record.proofs.Laws.{listed, unlisted}
use Rattle.player.proofs.play_twice.Goals as goal

pub returns-then-room-n-clause-room : goal.returns-then-room-n-clause-room
returns-then-room-n-clause-room c =
    let together = unlisted c.args.room.now _ _ c.if-room-n.true c.listing_length-n.ensures in together.1

pub returns-clause-answer : goal.returns-clause-answer
returns-clause-answer c =
    let together = listed c.args.room.now _ _ _ c.if-room-n.false (record { room = c.put_listing.ensures.laid.room; behind = c.listing_length-n.ensures ∙ sym (zero-add _) }) in together.0

pub returns-clause-room : goal.returns-clause-room
returns-clause-room c =
    let together = listed c.args.room.now _ _ _ c.if-room-n.false (record { room = c.put_listing.ensures.laid.room; behind = c.listing_length-n.ensures ∙ sym (zero-add _) }) in together.1
