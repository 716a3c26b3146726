-- A slot of the diagnosis by its parts.
--   failed == a condition that was found, with its note        alternates == whose turn it is in major error
--   settled, passes == a slot in which nothing but last levels, dominant slots in a row and Sc can change        passed == the state after it
use Rattle.std.specs.Prelude.{ℕ, ◌/◌, Bool, true, false, not, eqb}
use Rattle.line.specs.Bits.{pick}
use Rattle.diagnosis.specs.Control.{divider_runs}
use Rattle.diagnosis.specs.Rules.{with_period, with_condition, with_failure, differ, is_major}
use Rattle.diagnosis.specs.declared.Condition.{Condition}
use Rattle.diagnosis.specs.declared.Period.{Period}
use Rattle.diagnosis.specs.declared.Diagnosis.{Diagnosis}

unfoldable pub failed : Diagnosis → Condition → Diagnosis
failed x c = with_period (with_condition x c x.alternate) (with_failure x.period true)

unfoldable pub alternates : Condition → Condition → Bool → Bool → Bool
alternates before after pulses alternate =
    pick (is_major before) (pick pulses (not alternate) alternate) (pick (is_major after) false alternate)

-- no count of edges changes, and no rule speaks of them
unfoldable pub settled : ℕ → ℕ → Period → Bool
settled before levels p =
    pick (eqb p.connected 4)
    (pick (eqb p.rxd1 p.rxd2) (pick (eqb p.rxd1 4) true (eqb (levels / 2) (before / 2))) false)
    false

-- run: the dominant slots in a row after the slot
unfoldable pub passes : ℕ → ℕ → Bool → ℕ → Diagnosis → Bool
passes control levels turns run x =
    pick (divider_runs control) false
    (pick turns false
    (pick (eqb run 8) false (settled x.levels levels x.period)))

unfoldable pub passed : ℕ → ℕ → Diagnosis → Diagnosis
passed levels run x =
    record {
      condition = x.condition;
      alternate = x.alternate;
      sc = pick (differ levels) true x.sc;
      levels = levels;
      dominant = run;
      period = x.period;
    }
