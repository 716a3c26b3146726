use native.Mathlib.Omega.{arith}
use Rattle.listing.specs.Listing.{edge_line}
use Rattle.listing.proofs.Laws.{line_laid}
use Rattle.player.proofs.Aside.{line_copied}
use Rattle.player.proofs.lay_edge.Goals as goal

pub returns-then-room-ge-ROOM-clause-laid : goal.returns-then-room-ge-ROOM-clause-laid
returns-then-room-ge-ROOM-clause-laid c =
    let x = c.args in line_laid {room = x.room.now} {text = edge_line x.l} {at = x.at} (omega arith) c.put_edge.ensures.place c.put_edge.ensures.room

pub returns-clause-laid : goal.returns-clause-laid
returns-clause-laid c =
    let x = c.args in let together = line_copied x.room.now (edge_line x.l) _ _ _ x.at _ _ (omega arith) c.put_edge-n.ensures.place c.put_edge-n.ensures.room c.put_edge-n.ensures.bound c.lay.ensures in together.0
