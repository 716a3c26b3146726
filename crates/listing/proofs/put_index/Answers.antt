use Rattle.listing.proofs.Puts.{hundreds_cut}
use Rattle.listing.proofs.put_index.Goals as goal

pub returns-then-n-lt10000-clause-laid : goal.returns-then-n-lt10000-clause-laid
returns-then-n-lt10000-clause-laid c =
    hundreds_cut c.args.n c.if-n-lt100.false c.put_pair-p.ensures.laid c.put_last.ensures.laid
