use native.Mathlib.Omega.{arith}
use Rattle.listing.proofs.Puts.{three, four}
use Rattle.listing.proofs.put_hexadecimal.Goals as goal

pub returns-then-x-lt4096-clause-laid : goal.returns-then-x-lt4096-clause-laid
returns-then-x-lt4096-clause-laid c =
    three c.args.x _ c.if-x-lt256.false c.if-x-lt4096.true c.digit.ensures c.put_two-p.ensures.laid

pub returns-clause-laid : goal.returns-clause-laid
returns-clause-laid c =
    four c.args.x c.if-x-lt4096.false (omega arith) c.put_two-q.ensures.laid c.put_two-2.ensures.laid
