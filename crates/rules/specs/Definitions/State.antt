-- The state, its modes and its ranges (01, Memory map; Numbers refused, 6; 02, Req 01 and Req 05).
--   ranges == the numbers of the state, each with its largest value        in_range == each is in its range        reset_core == the state after reset
--   idled, idle_due, slept, idle_asked, activated == the commands IDLE, SLEEP, ACTI
use Rattle.std.specs.Prelude.{ℕ, ◌-◌, Bool, true, false, List, [], ◌∷◌, leb, get_or}
use Rattle.line.specs.Bits.{pick}
use Rattle.line.specs.Frame.{size}
use Rattle.rules.specs.Definitions.Longest.{capacity, most_nibbles}
use Rattle.rules.specs.Definitions.Setters.{with_activity, with_line, with_reception, with_service, with_reply}
use Rattle.diagnosis.specs.Control.{divider}
use Rattle.diagnosis.specs.Rules.{undiagnosed}
use Rattle.rules.specs.Definitions.Registers.{both, diagnosis_control, reset_report}
use Rattle.rules.specs.Definitions.Reception.{unsettled, quiet}
use Rattle.rules.specs.Definitions.Attempt.{in_service}
use Rattle.rules.specs.Definitions.Service.{resting, no_reply}
use Rattle.rules.specs.declared.Service.{Service}
use Rattle.rules.specs.declared.Mode.{Mode}
use Rattle.rules.specs.declared.Mode.TheVariants.{Idle, Active, Asleep}
use Rattle.rules.specs.declared.Activity.{Activity}
use Rattle.rules.specs.declared.Core.{Core}
use Rattle.rules.specs.declared.Controller.{Controller}

-- ---- modes

unfoldable pub is_active : Mode → Bool
is_active Idle = false
is_active Active = true
is_active Asleep = false

unfoldable pub is_asleep : Mode → Bool
is_asleep Idle = false
is_asleep Active = false
is_asleep Asleep = true

unfoldable pub is_idle : Mode → Bool
is_idle Idle = true
is_idle Active = false
is_idle Asleep = false

unfoldable pub in_mode : Mode → Bool → Activity
in_mode mode waiting = record { mode = mode; waiting = waiting }

unfoldable pub serving : Service → Bool
serving s = in_service s.effort.progress

-- ---- number 6: "a state number outside its range"

-- every number of the state that has a range, and its largest value: the rows of docs/STATE.md. Truth values, enums and bytes whose every value is meant have none
-- control is 0x02: "6 also covers a counter beyond its period" (02, Req 05)
unfoldable pub ranges : ℕ → Core → List (ℕ × ℕ)
ranges control k =
    (k.report.sending.count, 15)
    ∷ (k.report.sending.channel, 13)
    ∷ (k.report.message.count, 15)
    ∷ (k.report.message.channel, 13)
    ∷ (k.report.error, 32)
    ∷ (k.line.count, 12)
    ∷ (k.reception.place.at, 9)
    ∷ (k.reception.nibbles, most_nibbles capacity)
    ∷ (k.reception.bits, 15)
    ∷ (k.reception.winner.channel, 13)
    ∷ (k.reception.winner.pointer, 127)
    ∷ (k.reception.winner.length, 31)
    ∷ (k.service.channel, 13)
    ∷ (k.service.effort.frame.n, capacity)
    ∷ (k.service.effort.setting, 15)
    ∷ (k.service.effort.progress.at, size capacity - 1)
    ∷ (k.service.effort.counters.errors.0, 15)
    ∷ (k.reply.channel, 13)
    ∷ (k.reply.at, size capacity - 1)
    ∷ (k.reply.frame.n, capacity)
    ∷ (k.diagnosis.levels, 7)
    ∷ (k.diagnosis.dominant, 8)
    ∷ (k.diagnosis.period.slots, divider control - 1)
    ∷ (k.diagnosis.period.rxd1, 4)
    ∷ (k.diagnosis.period.rxd2, 4)
    ∷ (k.diagnosis.period.connected, 4)
    ∷ []

-- every value of a list is at most its largest
unfoldable pub within : List (ℕ × ℕ) → Bool
within [] = true
within (r ∷ rs) = both (leb r.0 r.1) (within rs)

unfoldable pub in_range : Controller → Bool
in_range c = within (ranges (get_or c.memory diagnosis_control 0) c.core)

-- ---- reset

-- "Reset .. resets the rest to idle mode."
unfoldable pub reset_core : Core
reset_core =
    record { activity = in_mode Idle false; report = reset_report; line = unsettled; reception = quiet; service = resting; reply = no_reply; diagnosis = undiagnosed }

-- ---- IDLE, SLEEP, ACTI

-- "drops a frame under way and makes the next level recessive"
unfoldable pub idled : Core → Core
idled k = with_reply (with_reception (with_activity k (in_mode Idle false)) quiet) no_reply

-- "Idle waits until the service ends; with no service it acts at once"
unfoldable pub idle_due : Core → Core
idle_due k = pick k.activity.waiting (pick (serving k.service) k (idled k)) k

-- "Sleep acts at once": mode, service, frame and level go; registers and flags stay
unfoldable pub slept : Core → Core
slept k = with_reply (with_service (with_reception (with_activity k (in_mode Asleep false)) quiet) resting) no_reply

unfoldable pub idle_asked : Core → Core
idle_asked k = pick (is_active k.activity.mode) (with_activity k (in_mode Active true)) k

-- "ACTI in active mode only cancels a waiting idle (house)"
unfoldable pub activated : Core → Core
activated k =
    pick (is_active k.activity.mode) (with_activity k (in_mode Active false)) (with_line (with_activity k (in_mode Active false)) unsettled)
