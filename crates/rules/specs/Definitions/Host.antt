-- Host access: commands, registers, refusals (01, Memory map; Numbers refused).
--   reset_all == reset by pin or GRES        host_written, byte_read == an accepted write and read
--   access_refusals, write_refusals, read_refusals == the refusals in their order, each with its test
use Rattle.std.specs.Prelude.{ℕ, ◌%◌, Bool, not, List, [], ◌∷◌, eqb, ltb, get_or, set}
use Rattle.line.specs.Bits.{pick}
use Rattle.rules.specs.Definitions.Setters.{with_flags, with_report, with_service, with_diagnosis}
use Rattle.rules.specs.Definitions.Registers.{both, diagnosis_control, command, interrupt_reset, interrupt_enable, read_only, write_only, reserved, fixed_bits, asks_reset, asks_sleep, asks_idle, asks_activation, asks_rearbitration, asks_pulse, cleared, line_status, retries_byte, interrupt_status, asserted, line_status_at, transmission_status, last_message_status, last_error_status}
use Rattle.rules.specs.Definitions.Mailbox.{reset_memory}
use Rattle.rules.specs.Definitions.Reception.{under_way}
use Rattle.rules.specs.Definitions.Service.{stopped, settled, memory_ended, report_ended, abort_asked, rear_asked, aborts}
use Rattle.rules.specs.Definitions.State.{in_range, is_asleep, is_idle, serving, reset_core, idle_due, slept, idle_asked, activated}
use Rattle.diagnosis.specs.Control.{rate}
use Rattle.diagnosis.specs.Rules.{pulsed, renewed}
use Rattle.diagnosis.specs.declared.Diagnosis.{Diagnosis}
use Rattle.rules.specs.declared.Service.{Service}
use Rattle.rules.specs.declared.Core.{Core}
use Rattle.rules.specs.declared.Controller.{Controller}
use Rattle.rules.specs.declared.Refusal.{Refusal}
use Rattle.rules.specs.declared.Refusal.TheVariants.{Address, Value, Unwritable, Unreadable, Range, Asleep, FixedBits}

-- "Reset, by pin or GRES, leaves both and resets the rest to idle mode."
unfoldable pub reset_all : Controller → Controller
reset_all c = record { memory = reset_memory c.memory; core = reset_core }

-- ---- commands: "Command order: GRES, SLEEP, IDLE, ACTI; only the first one set acts (house). REAR acts too, unless GRES or SLEEP does"

unfoldable pub resets : ℕ → ℕ → Bool
resets address v = both (eqb address command) (asks_reset v)

unfoldable pub sleeps : ℕ → ℕ → Bool
sleeps address v = both (eqb address command) (asks_sleep v)

unfoldable pub mode_commanded : Core → ℕ → Core
mode_commanded k v = pick (asks_idle v) (idle_asked k) (pick (asks_activation v) (activated k) k)

unfoldable pub rear_commanded : Service → ℕ → Service
rear_commanded s v = pick (asks_rearbitration v) (rear_asked s) s

-- ---- an accepted write

-- a byte is kept as written; commands and interrupt resets act and are not kept. `% 256` changes no address that is accepted: it keeps the place inside the map
unfoldable pub kept_byte : List ℕ → ℕ → ℕ → List ℕ
kept_byte m address v = pick (write_only address) m (set m (address % 256) v)

-- "A write to 0x0B clears the named status bits."
unfoldable pub flags_cleared : Core → ℕ → Core
flags_cleared k v = with_report k (with_flags k.report (cleared k.report.flags v))

unfoldable pub core_written : Core → ℕ → ℕ → Core
core_written k address v = pick (eqb address command) (mode_commanded k v) (pick (eqb address interrupt_reset) (flags_cleared k v) k)

-- what a write asks of the service: REAR, or an abort
unfoldable pub service_asked : Service → ℕ → ℕ → Service
service_asked s address v = pick (eqb address command) (rear_commanded s v) (pick (aborts s address v) (abort_asked s) s)

-- a service asked to stop between attempts ends at once; a waiting idle is then due
unfoldable pub stopped_core : Core → Service → Core
stopped_core k s = idle_due (with_service (with_report k (report_ended (stopped s) k.report s)) (settled (stopped s) s))

-- MSDC: "a SDC pulse for the diagnosis system" (000), "unless GRES or SLEEP acts"; 0x02: "changing the divider .. starts period and counts anew" (02, Req 05)
unfoldable pub diagnosis_written : List ℕ → Diagnosis → ℕ → ℕ → Diagnosis
diagnosis_written m x address v =
    pick (eqb address command) (pick (asks_pulse v) (pulsed (get_or m diagnosis_control 0) x) x)
    (pick (eqb address diagnosis_control) (pick (eqb (rate (get_or m diagnosis_control 0)) (rate v)) x (renewed x)) x)

unfoldable pub byte_written : Controller → ℕ → ℕ → Controller
byte_written c address v =
    record {
      memory = memory_ended (stopped (service_asked c.core.service address v)) (kept_byte c.memory address v) c.core.service.channel;
      core =
          with_diagnosis (stopped_core (core_written c.core address v) (service_asked c.core.service address v))
          (diagnosis_written c.memory c.core.diagnosis address v);
    }

unfoldable pub host_written : Controller → ℕ → ℕ → Controller
host_written c address v =
    pick (resets address v) (reset_all c)
    (pick (sleeps address v) (record { memory = c.memory; core = slept c.core }) (byte_written c address v))

-- ---- an accepted read

unfoldable pub line_status_of : Core → ℕ
line_status_of k = line_status (is_asleep k.activity.mode) (is_idle k.activity.mode) k.diagnosis (serving k.service) (under_way k.reception.place)

unfoldable pub status_read : Core → ℕ → ℕ
status_read k address =
    pick (eqb address line_status_at) (line_status_of k)
    (pick (eqb address transmission_status) (retries_byte k.report.sending)
    (pick (eqb address last_message_status) (retries_byte k.report.message)
    (pick (eqb address last_error_status) k.report.error (interrupt_status k.report.flags))))

-- `% 256` as in kept_byte
unfoldable pub byte_read : Controller → ℕ → ℕ
byte_read c address = pick (read_only address) (status_read c.core address) (get_or c.memory (address % 256) 0)

-- ---- refusals, each with its test, in the order in which they are given: "Order, host access: 6, 7, 1, 2, 3 or 4, 8."

-- 6, 7, 1
unfoldable pub access_refusals : Controller → ℕ → List (Bool × Refusal)
access_refusals c address =
    (not (in_range c), Range)
    ∷ (is_asleep c.core.activity.mode, Asleep)
    ∷ (ltb 255 address, Address)
    ∷ []

-- 2, 3, 8. A value above 255 is refused with 2: `% 256` only makes the last test total
unfoldable pub write_refusals : ℕ → ℕ → List (Bool × Refusal)
write_refusals address value =
    (ltb 255 value, Value)
    ∷ (read_only address, Unwritable)
    ∷ (reserved address, Unwritable)
    ∷ (not (fixed_bits address (value % 256)), FixedBits)
    ∷ []

-- 4
unfoldable pub read_refusals : ℕ → List (Bool × Refusal)
read_refusals address =
    (write_only address, Unreadable)
    ∷ (reserved address, Unreadable)
    ∷ []

-- "The interrupt line is asserted when status and enable share a one."
unfoldable pub interrupt_line : Controller → Bool
interrupt_line c = asserted c.core.report.flags (get_or c.memory interrupt_enable 0)
