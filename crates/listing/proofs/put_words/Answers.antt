use Rattle.listing.proofs.Laws.{joined}
use Rattle.listing.proofs.put_words.Goals as goal

pub returns-in-Bad-clause-laid : goal.returns-in-Bad-clause-laid
returns-in-Bad-clause-laid c =
    rw c.in-Bad.is (joined (joined c.put_number-p.ensures.laid c.put_number-q.ensures.laid) c.put_number-in-Bad.ensures.laid)
