-- A sample is a level: 0 or 1.
use Prim.Native.Nat.{ℕ, ◌/◌, ◌%◌, ◌<◌}
use native.Mathlib.Omega.{arith}
use lib.Dec.{eqb}
use lib.ListN.{get_or}
use Rattle.line.proofs.Laws.{picked}
use Rattle.diagnosis.specs.Rules.{input_level, connected}
use Rattle.rules.specs.Definitions.Registers.{diagnosis_control}
use Rattle.rules.specs.Definitions.Slots.{levels_of, sample_of}
use Rattle.rules.specs.declared.Controller.{Controller}

pub input_small : (levels input : ℕ) → input_level levels input < 2
unfolding input_level
input_small levels input =
    picked (λ (x : ℕ). x < 2) (eqb input 1) (levels / 2 % 2) _ (λ e. omega arith)
    (λ e. picked (λ (x : ℕ). x < 2) (eqb input 2) (levels / 4 % 2) (levels % 2) (λ d. omega arith) (λ d. omega arith))

pub sample_small : (c : Controller) (levels : ℕ) → sample_of c levels < 2
unfolding sample_of
sample_small c levels = input_small (levels_of c levels) (connected (get_or c.memory diagnosis_control 0) c.core.diagnosis)
