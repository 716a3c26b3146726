use Rattle.listing.proofs.Laws.{joined}
use Rattle.listing.proofs.put_read.Goals as goal

pub returns-clause-laid : goal.returns-clause-laid
returns-clause-laid c =
    joined (joined c.put_text-p.ensures.laid c.put_hexadecimal-q.ensures.laid) c.put_byte.ensures.laid
