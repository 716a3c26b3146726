use native.Mathlib.Omega.{arith}
use Rattle.listing.specs.Listing.{line}
use Rattle.listing.proofs.Laws.{line_laid}
use Rattle.player.proofs.Aside.{line_copied}
use Rattle.player.proofs.lay_line.Goals as goal

pub returns-then-room-ge-ROOM-clause-laid : goal.returns-then-room-ge-ROOM-clause-laid
returns-then-room-ge-ROOM-clause-laid c =
    let x = c.args in line_laid {room = x.room.now} {text = line x.index x.e x.refused x.value} {at = x.at} (omega arith) c.put_line.ensures.place c.put_line.ensures.room

pub returns-clause-laid : goal.returns-clause-laid
returns-clause-laid c =
    let x = c.args in let together = line_copied x.room.now (line x.index x.e x.refused x.value) _ _ _ x.at _ _ (omega arith) c.put_line-n.ensures.place c.put_line-n.ensures.room c.put_line-n.ensures.bound c.lay.ensures in together.0
