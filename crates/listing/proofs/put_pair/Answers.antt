use native.Mathlib.Omega.{arith}
use Rattle.listing.proofs.Puts.{tens}
use Rattle.listing.proofs.put_pair.Goals as goal

pub returns-clause-laid : goal.returns-clause-laid
returns-clause-laid c =
    let x = c.args in tens x.room.now x.at x.n c.if-n-lt10.false (omega arith)
