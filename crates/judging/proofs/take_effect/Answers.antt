use mathlib.Core.Path.{sym, ◌∙◌}
use Rattle.judging.proofs.Ways.{effect_kept}
use Rattle.judging.proofs.take_effect.Goals as goal

pub returns-then-stays-clause-core : goal.returns-then-stays-clause-core
returns-then-stays-clause-core c =
    let x = c.args in effect_kept x.k.now x.j.verdict x.j.reply x.j.hearing c.requires.reply (sym c.passes.ensures ∙ c.if-passes.true) (sym c.stays.ensures ∙ c.if-stays.true) _ (c.advance.ensures.ruled c.requires.room)
