use mathlib.Core.Path.{sym, ◌∙◌}
use native.Mathlib.Omega.{arith}
use Rattle.decoder.proofs.Views.{whole_odd}
use Rattle.decoder.proofs.Slots.judged.Goals as goal

pub right-requires : goal.right-requires
right-requires c =
    let odd = whole_odd c.args.j (sym c.whole.ensures ∙ c.if-not-whole.false) in (omega arith, omega arith)

pub closing-requires : goal.closing-requires
closing-requires c =
    let odd = whole_odd c.args.j (sym c.whole.ensures ∙ c.if-not-whole.false) in (omega arith, omega arith, omega arith, omega arith)
