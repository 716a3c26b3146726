use mathlib.Core.Path.{◌∙◌, ap}
use lib.ListN.{get_or}
use Rattle.diagnosis.specs.Rules.{diagnosed}
use Rattle.rules.specs.Definitions.Registers.{diagnosis_control}
use Rattle.slots.proofs.Diagnosed.{undiagnosed_by, awake_as}
use Rattle.slots.proofs.awake_slot.Goals as goal

pub returns : goal.returns
returns c =
    let w = c.take_level-w in
    awake_as _ _ _ _ c.received-three.ensures c.connected.ensures c.input_level-v.ensures w.ensures.state w.ensures.level w.ensures.turns w.ensures.good
    (c.diagnose.ensures ∙ ap (diagnosed (get_or c.args.m.now diagnosis_control 0) c.received-three.result w.result.turns w.result.good) (undiagnosed_by _ _ _ _ w.ensures.state)) c.transmitted.ensures
