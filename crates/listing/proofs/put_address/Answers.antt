use Rattle.listing.proofs.Laws.{joined}
use Rattle.listing.proofs.put_address.Goals as goal

pub returns-clause-laid : goal.returns-clause-laid
returns-clause-laid c =
    joined c.put_text-p.ensures.laid c.put_hexadecimal.ensures.laid
