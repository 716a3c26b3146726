use Rattle.listing.proofs.Puts.{fits, held, short}
use Rattle.listing.proofs.Laws.{joined}
use Rattle.listing.specs.Listing.{line}
use Rattle.listing.proofs.put_line.Goals as goal

pub returns-then-holds-clause-place : goal.returns-then-holds-clause-place
unfolding line
returns-then-holds-clause-place c =
    let h = held (fits _ c.args.at _ c.holds.ensures c.if-holds.true) (joined (joined c.put_index-p.ensures.laid c.put_event-q.ensures.laid) c.put_newline.ensures.laid) in h.0

pub returns-then-holds-clause-room : goal.returns-then-holds-clause-room
unfolding line
returns-then-holds-clause-room c =
    let h = held (fits _ c.args.at _ c.holds.ensures c.if-holds.true) (joined (joined c.put_index-p.ensures.laid c.put_event-q.ensures.laid) c.put_newline.ensures.laid) in h.1

pub returns-clause-room : goal.returns-clause-room
unfolding line
returns-clause-room c =
    let h = short _ _ c.args.at _ c.holds.ensures c.if-holds.false in h.1
