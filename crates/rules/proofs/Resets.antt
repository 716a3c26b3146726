-- After a reset a host reads the reset values: those of the memory map as they were written, the others from the state.
use Prim.Native.Nat.{ℕ, ◌≤◌}
use mathlib.Core.List.{List}
use mathlib.Core.Path.{◌≡◌, refl, ◌∙◌}
use native.Mathlib.Omega.{arith}
use lib.ListN.{length, get_or, set, length-set}
use lib.Seq.{get_or-set_same, get_or-set_other}
use Rattle.rules.specs.Definitions.Registers.{read_only, reset_values, reset_report, bit, line_status, retries_byte, interrupt_status}
use Rattle.rules.specs.Definitions.Mailbox.{rows_written, reset_memory}
use Rattle.rules.specs.Definitions.Reception.{at_place, quiet, is_under_way, under_way}
use Rattle.rules.specs.Definitions.Attempt.{at_stage, is_serving, in_service}
use Rattle.rules.specs.Definitions.Service.{resting}
use Rattle.rules.specs.Definitions.State.{is_asleep, is_idle, in_mode, serving, reset_core}
use Rattle.rules.specs.Definitions.Host.{reset_all, byte_read, status_read, line_status_of}
use Rattle.diagnosis.specs.Rules.{undiagnosed, fault_on_data, fault_on_data_bar}
use Rattle.rules.specs.Statements.Claims.{ReadsAs}
use Rattle.rules.specs.declared.Controller.{Controller}

module _ (m : List ℕ) (long : length m ≡ 256) where
  abbrev first : List ℕ
  first = set m 0 0x00

  abbrev second : List ℕ
  second = set first 1 0x02

  abbrev third : List ℕ
  third = set second 2 0x00

  abbrev fourth : List ℕ
  fourth = set third 10 0x80

  at_0 : get_or fourth 0 0 ≡ 0x00
  at_0 =
      get_or-set_other third 10 0 0x80 0 (λ e. omega arith) ∙ get_or-set_other second 2 0 0x00 0 (λ e. omega arith)
      ∙ get_or-set_other first 1 0 0x02 0 (λ e. omega arith) ∙ get_or-set_same m 0 0x00 0 (omega arith)

  at_1 : get_or fourth 1 0 ≡ 0x02
  at_1 =
      get_or-set_other third 10 1 0x80 0 (λ e. omega arith) ∙ get_or-set_other second 2 1 0x00 0 (λ e. omega arith)
      ∙ get_or-set_same first 1 0x02 0 (let l = length-set m 0 0x00 in omega arith)

  at_2 : get_or fourth 2 0 ≡ 0x00
  at_2 =
      get_or-set_other third 10 2 0x80 0 (λ e. omega arith)
      ∙ get_or-set_same second 2 0x00 0 (let l = length-set m 0 0x00 in let k = length-set first 1 0x02 in omega arith)

  at_10 : get_or fourth 10 0 ≡ 0x80
  at_10 =
      get_or-set_same third 10 0x80 0
      (let l = length-set m 0 0x00 in let k = length-set first 1 0x02 in let j = length-set second 2 0x00 in omega arith)

pub reset_read : (c : Controller) → length c.memory ≡ 256 → ReadsAs (reset_all c) reset_values
unfolding reset_values reset_all reset_memory rows_written byte_read read_only status_read line_status_of line_status retries_byte interrupt_status bit is_asleep is_idle in_mode serving in_service is_serving at_stage under_way is_under_way at_place reset_core reset_report resting quiet undiagnosed fault_on_data fault_on_data_bar
reset_read c h = (at_0 c.memory h, (at_1 c.memory h, (at_2 c.memory h, (refl, (refl, (refl, (refl, (refl, (at_10 c.memory h, tt)))))))))

-- channels and mailbox stay
pub reset_leaves : (m : List ℕ) (a : ℕ) → 0x10 ≤ a → get_or (reset_memory m) a 0 ≡ get_or m a 0
unfolding reset_memory rows_written reset_values read_only
reset_leaves m a h =
    get_or-set_other (set (set (set m 0 0x00) 1 0x02) 2 0x00) 10 a 0x80 0 (λ e. omega arith) ∙ get_or-set_other (set (set m 0 0x00) 1 0x02) 2 a 0x00 0 (λ e. omega arith)
    ∙ get_or-set_other (set m 0 0x00) 1 a 0x02 0 (λ e. omega arith) ∙ get_or-set_other m 0 a 0x00 0 (λ e. omega arith)
