use mathlib.Core.Path.{sym, ◌∙◌}
use Rattle.rules.specs.Definitions.Reception.{is_under_way, under_way}
use Rattle.row.specs.Row.{byte_at, core_by, core_of}
use Rattle.ordinary.specs.Ways.{Carries, Judged}
use Rattle.ordinary.proofs.Tests.{listens, carried}
use Rattle.ordinary.proofs.rest_way.Goals as goal

pub returns-then-frame_goes : goal.returns-then-frame_goes
unfolding Judged Carries under_way is_under_way core_of core_by
returns-then-frame_goes c =
    record { listens = listens c.args.s.now c.requires.waits c.requires.rests c.if-s-eq1.false (sym c.goes_on.ensures ∙ c.if-goes_on.true); carries = rw (carried (byte_at c.args.s.now 63) c.if-s-eq0.false) (sym c.frame_goes.ensures ∙ c.if-frame_goes.true) }
