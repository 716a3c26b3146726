use mathlib.Core.Bool.{false}
use mathlib.Core.Path.{refl, sym, ap, ◌∙◌}
use lib.ListN.{get_or}
use Rattle.diagnosis.specs.Rules.{connected, diagnosed}
use Rattle.diagnosis.specs.declared.Diagnosis.{Diagnosis}
use Rattle.rules.specs.Definitions.Setters.{with_diagnosis}
use Rattle.rules.specs.Definitions.Run.{accept}
use Rattle.rules.specs.Definitions.Answers.{controller}
use Rattle.slots.proofs.Diagnosed.{awake_as}
use Rattle.row.specs.Row.{core_by, core_of}
use Rattle.ordinary.specs.Ways.{Took}
use Rattle.ordinary.proofs.Moving.{step_awake, awake_open}
use Rattle.ordinary.proofs.slot.Goals as goal

pub returns-then-step : goal.returns-then-step
unfolding Took core_of core_by
returns-then-step c =
    let a = c.args in
    let k = (core_of c.args.s.now) in
    let w = step_awake c.moved-step.result.taken a.m.now a.s.now (get_or a.m.now 2 0) c.input_level-v.result c.moved-step.new.s c.moved-step.result.level c.moved-step.result.turns c.if-step.true c.moved-step.ensures in
    let x = diagnosed (get_or a.m.now 2 0) c.received-three.result c.moved-step.result.turns false k.diagnosis in
    sym (awake_open (controller a.m.now k) a.levels w.awake)
    ∙ sym (awake_as (controller a.m.now k) a.m.now (core_of c.moved-step.new.s) a.levels {x = x} c.received-three.ensures (c.connected.ensures ∙ ap (connected (get_or a.m.now 2 0)) c.diagnosis_of.ensures) c.input_level-v.ensures w.state w.level w.turns w.good refl c.transmitted.ensures)
    ∙ (λ i.
    accept c.transmitted.result
    (controller a.m.now
    (sym (c.diagnose.ensures ∙ ap (λ (y : Diagnosis). with_diagnosis (core_of c.moved-step.new.s) (diagnosed (get_or a.m.now 2 0) c.received-three.result c.moved-step.result.turns false y)) w.kept) i)))
