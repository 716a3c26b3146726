use Rattle.listing.proofs.Laws.{joined}
use Rattle.listing.proofs.put_number.Goals as goal

pub returns-then-n-lt10-clause-laid : goal.returns-then-n-lt10-clause-laid
returns-then-n-lt10-clause-laid c =
    joined c.put_text-p.ensures.laid c.put_digit.ensures.laid

pub returns-clause-laid : goal.returns-clause-laid
returns-clause-laid c =
    joined c.put_text-p.ensures.laid c.put_decimal.ensures.laid
