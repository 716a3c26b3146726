use mathlib.Core.Path.{ap}
use Rattle.rules.specs.Definitions.State.{is_active}
use Rattle.row.specs.Row.{mode_of, core_by, core_of}
use Rattle.ordinary.specs.Ways.{Stepped}
use Rattle.ordinary.proofs.Moving.{awake_idle}
use Rattle.ordinary.proofs.moved.Goals as goal

pub returns-in-0 : goal.returns-in-0
unfolding Stepped is_active core_of core_by
returns-in-0 c =
    awake_idle c.args.m.now (core_of c.args.s.now) c.args.control c.args.v (ap mode_of c.in-0.is)
