use native.Mathlib.Omega.{arith}
use Rattle.listing.proofs.Puts.{hundreds, hundreds_fit}
use Rattle.listing.proofs.+put_decimal.Goals as goal

pub put_last-requires : goal.put_last-requires
put_last-requires t c =
    let h = hundreds_fit c.args.n (omega arith) c.put_decimal-p.ensures.laid in omega arith

pub returns-clause-laid : goal.returns-clause-laid
returns-clause-laid t c =
    let n = c.args.n in let k = c.put_decimal-p.ensures.laid in let h = hundreds_fit n (omega arith) k in hundreds n c.if-n-lt100.false k c.put_last.ensures.laid

pub returns-clause-bound : goal.returns-clause-bound
returns-clause-bound t c =
    let n = c.args.n in let k = c.put_decimal-p.ensures.laid in let h = hundreds_fit n (omega arith) k in omega arith
