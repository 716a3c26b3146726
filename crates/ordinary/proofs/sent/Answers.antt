use Prim.Native.Nat.{ℕ}
use mathlib.Core.Bool.{false}
use mathlib.Core.Path.{ap, ◌∙◌}
use lib.Dec.{eqb}
use Rattle.line.specs.Bits.{pick}
use Rattle.diagnosis.specs.Control.{compares_transmission}
use Rattle.rules.specs.Definitions.Registers.{both}
use Rattle.rules.specs.Definitions.Attempt.{level_at}
use Rattle.row.specs.Row.{core_by, core_of}
use Rattle.ordinary.proofs.OwnFrame.{and_both}
use Rattle.ordinary.proofs.sent.Goals as goal

pub returns-clause-turns : goal.returns-clause-turns
unfolding core_of core_by
returns-clause-turns c =
    and_both c.own_dominant-dominant.result (eqb c.args.level 1) ∙ (λ i. both ((c.own_dominant-dominant.ensures ∙ ap (λ (n : ℕ). pick (compares_transmission c.args.control) (eqb (level_at (core_of c.args.s.now).service.effort.frame n) 0) false) c.next_of-k.ensures) i) (eqb c.args.level 1))
