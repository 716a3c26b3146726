use Rattle.listing.proofs.Laws.{joined}
use Rattle.listing.proofs.put_write.Goals as goal

pub returns-clause-laid : goal.returns-clause-laid
returns-clause-laid c =
    joined (joined c.put_text-p.ensures.laid c.put_hexadecimal-q.ensures.laid) c.put_ok.ensures.laid
