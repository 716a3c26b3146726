use Rattle.listing.proofs.Puts.{last}
use Rattle.listing.proofs.put_last.Goals as goal

pub returns-clause-laid : goal.returns-clause-laid
returns-clause-laid c =
    let x = c.args in last x.room.now x.at x.n
