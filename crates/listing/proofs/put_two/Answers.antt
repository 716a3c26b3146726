use Rattle.listing.proofs.Puts.{pair}
use Rattle.listing.proofs.put_two.Goals as goal

pub returns-clause-laid : goal.returns-clause-laid
returns-clause-laid c =
    let x = c.args in pair x.room.now x.at x.x _ _ c.digit.ensures c.digit-2.ensures
