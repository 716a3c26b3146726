use Rattle.listing.proofs.Puts.{fits, held, short}
use Rattle.listing.proofs.Laws.{joined, ended}
use Rattle.listing.proofs.put_edge.Goals as goal

pub returns-then-holds-clause-place : goal.returns-then-holds-clause-place
returns-then-holds-clause-place c =
    let h = held (fits _ c.args.at _ c.holds.ensures c.if-holds.true) (ended c.args.l (joined c.put_words-p.ensures.laid c.put_newline.ensures.laid)) in h.0

pub returns-then-holds-clause-room : goal.returns-then-holds-clause-room
returns-then-holds-clause-room c =
    let h = held (fits _ c.args.at _ c.holds.ensures c.if-holds.true) (ended c.args.l (joined c.put_words-p.ensures.laid c.put_newline.ensures.laid)) in h.1

pub returns-clause-room : goal.returns-clause-room
returns-clause-room c =
    let h = short _ _ c.args.at _ c.holds.ensures c.if-holds.false in h.1
