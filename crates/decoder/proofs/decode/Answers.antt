use Rattle.std.proofs.lemmas.List.{length-take-le}
use Rattle.decoder.proofs.Views.{bad_level, room_refused, room_short, room_filled}
use Rattle.decoder.proofs.decode.Goals as goal

pub returns-in_err-slots-clause-room : goal.returns-in_err-slots-clause-room
returns-in_err-slots-clause-room c =
    let r = rw c.in_err-slots.was at c.new.ensures in
    let together = room_refused _ _ _ (bad_level c.args.slots.now r.1) in together.1

pub returns-in_err-head-clause-room : goal.returns-in_err-head-clause-room
returns-in_err-head-clause-room c =
    let s = rw c.in_ok-slots.was at c.new.ensures in
    let together = room_refused _ _ _ (rw s at (rw c.in_err-head.was at c.head.ensures)) in together.1

pub returns-then-room-n-clause-room : goal.returns-then-room-n-clause-room
returns-then-room-n-clause-room c =
    let x = c.args in
    let s = rw c.in_ok-slots.was at c.new.ensures in
    let together = room_short x.slots.now x.room.now _ _ (rw s at (rw c.in_ok-head.was at c.head.ensures)) c.if-room-n.true in together.1

pub returns-clause-answer : goal.returns-clause-answer
returns-clause-answer c =
    let x = c.args in
    let s = rw c.in_ok-slots.was at c.new.ensures in
    let together = room_filled x.slots.now x.room.now _ _ (rw s at (rw c.in_ok-head.was at c.head.ensures)) c.if-room-n.false in together.0

pub returns-clause-room : goal.returns-clause-room
returns-clause-room c =
    let x = c.args in
    let s = rw c.in_ok-slots.was at c.new.ensures in
    let together = room_filled x.slots.now x.room.now _ _ (rw s at (rw c.in_ok-head.was at c.head.ensures)) c.if-room-n.false in
    rw (c.fill.ensures, s, length-take-le c.in_ok-head.head.count x.room.now c.if-room-n.false) together.1
