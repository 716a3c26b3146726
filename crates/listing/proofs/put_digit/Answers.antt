use native.Mathlib.Omega.{arith}
use Rattle.listing.proofs.Puts.{units}
use Rattle.listing.proofs.put_digit.Goals as goal

pub returns-clause-laid : goal.returns-clause-laid
returns-clause-laid c =
    let x = c.args in units x.room.now x.at x.n (omega arith)
