-- The state but for the memory map as a row of bytes (docs/STATE.md): core_of == the state that a row says. Every row says one.
--   byte_at == the byte at a place        flag_at, half_at, word_at, frame_at == a truth value, a number of 16 bits, of 32 bits, the bytes of a frame
--   core_by == the state, from the byte at each place
use Rattle.std.specs.Prelude.{ℕ, zero, suc, ◌+◌, ◌*◌, Bool, List, [], ◌∷◌, eqb, get_or}
use Rattle.line.specs.Bits.{pick}
use Rattle.rules.specs.Definitions.Longest.{capacity}
use Rattle.rules.specs.Definitions.Setters.{with_slots, with_counters, with_effort}
use Rattle.row.specs.Places as place
use Rattle.diagnosis.specs.declared.Condition.{Condition}
use Rattle.diagnosis.specs.declared.Condition.TheVariants.{Nominal, DegradedOnData, DegradedOnDataBar, MajorError}
use Rattle.diagnosis.specs.declared.Period.{Period}
use Rattle.diagnosis.specs.declared.Diagnosis.{Diagnosis}
use Rattle.rules.specs.declared.Flags.{Flags}
use Rattle.rules.specs.declared.Retries.{Retries}
use Rattle.rules.specs.declared.Report.{Report}
use Rattle.rules.specs.declared.Winner.{Winner}
use Rattle.rules.specs.declared.Line.{Line}
use Rattle.rules.specs.declared.Phase.{Phase}
use Rattle.rules.specs.declared.Phase.TheVariants.{Quiet, Start, Body, Acknowledge, End}
use Rattle.rules.specs.declared.Place.{Place}
use Rattle.rules.specs.declared.Reception.{Reception}
use Rattle.rules.specs.declared.Coded.{Coded}
use Rattle.rules.specs.declared.Stage.{Stage}
use Rattle.rules.specs.declared.Stage.TheVariants.{Resting, Waiting, Opening, Sending, Receiving}
use Rattle.rules.specs.declared.Progress.{Progress}
use Rattle.rules.specs.declared.Counters.{Counters}
use Rattle.rules.specs.declared.Effort.{Effort}
use Rattle.rules.specs.declared.Service.{Service}
use Rattle.rules.specs.declared.ImmediateReply.{ImmediateReply}
use Rattle.rules.specs.declared.Mode.{Mode}
use Rattle.rules.specs.declared.Mode.TheVariants.{Idle, Active, Asleep}
use Rattle.rules.specs.declared.Activity.{Activity}
use Rattle.rules.specs.declared.Core.{Core}

-- ---- what a byte, or a few, say

abbrev pub byte_at : List ℕ → ℕ → ℕ
byte_at s i = get_or s i 0

-- 1 is true
abbrev pub flag_at : (ℕ → ℕ) → ℕ → Bool
flag_at byte at = eqb (byte at) 1

abbrev pub half_at : (ℕ → ℕ) → ℕ → ℕ
half_at byte at = byte at + byte (at + 1) * 256

abbrev pub word_at : (ℕ → ℕ) → ℕ → ℕ
word_at byte at = byte at + byte (at + 1) * 256 + byte (at + 2) * 65536 + byte (at + 3) * 16777216

abbrev pub bytes_from : ℕ → (ℕ → ℕ) → ℕ → List ℕ
bytes_from zero byte at = []
bytes_from (suc n) byte at = byte at ∷ bytes_from n byte (at + 1)

abbrev pub frame_at : (ℕ → ℕ) → ℕ → List ℕ
frame_at byte at = bytes_from (capacity + 4) byte at

-- the last of each enum stands for every larger byte too
abbrev pub mode_of : ℕ → Mode
mode_of b = pick (eqb b 0) Idle (pick (eqb b 1) Active Asleep)

abbrev pub phase_of : ℕ → Phase
phase_of b = pick (eqb b 0) Quiet (pick (eqb b 1) Start (pick (eqb b 2) Body (pick (eqb b 3) Acknowledge End)))

abbrev pub stage_of : ℕ → Stage
stage_of b = pick (eqb b 0) Resting (pick (eqb b 1) Waiting (pick (eqb b 2) Opening (pick (eqb b 3) Sending Receiving)))

abbrev pub condition_of : ℕ → Condition
condition_of b = pick (eqb b 0) Nominal (pick (eqb b 1) DegradedOnData (pick (eqb b 2) DegradedOnDataBar MajorError))

-- ---- the parts of the state

abbrev pub activity_by : (ℕ → ℕ) → Activity
activity_by byte = record { mode = mode_of (byte place.mode); waiting = flag_at byte place.waiting }

abbrev pub retries_by : (ℕ → ℕ) → ℕ → Retries
retries_by byte at = record { count = byte at; channel = byte (at + 1) }

abbrev pub flags_by : (ℕ → ℕ) → Flags
flags_by byte =
    record {
      rst = flag_at byte place.flags;
      te = flag_at byte (place.flags + 1);
      tok = flag_at byte (place.flags + 2);
      re = flag_at byte (place.flags + 3);
      rok = flag_at byte (place.flags + 4);
      rnok = flag_at byte (place.flags + 5);
    }

abbrev pub report_by : (ℕ → ℕ) → Report
report_by byte = record { sending = retries_by byte place.sending; message = retries_by byte place.message; error = byte place.error; flags = flags_by byte }

abbrev pub line_by : (ℕ → ℕ) → Line
line_by byte = record { good = flag_at byte place.good; count = byte place.count }

abbrev pub place_by : (ℕ → ℕ) → Place
place_by byte = record { phase = phase_of (byte place.phase); at = byte place.slot }

abbrev pub winner_by : (ℕ → ℕ) → Winner
winner_by byte =
    record {
      matched = flag_at byte place.matched;
      channel = byte place.winner_channel;
      no_acknowledge = flag_at byte place.no_acknowledge;
      pointer = byte place.pointer;
      length = byte place.length;
    }

abbrev pub reception_by : (ℕ → ℕ) → Reception
reception_by byte =
    record { place = place_by byte; nibbles = byte place.nibbles; bits = byte place.bits; bytes = frame_at byte place.heard; winner = winner_by byte }

abbrev pub coded_by : (ℕ → ℕ) → ℕ → ℕ → Coded
coded_by byte n at = record { n = byte n; bytes = frame_at byte at }

abbrev pub progress_by : (ℕ → ℕ) → Progress
progress_by byte = record { stage = stage_of (byte place.stage); at = half_at byte place.next }

abbrev pub counters_by : (ℕ → ℕ) → Counters
counters_by byte =
    record { slots = record { 0 = word_at byte place.slots }; lost = record { 0 = word_at byte place.lost }; errors = record { 0 = word_at byte place.errors } }

abbrev pub effort_by : (ℕ → ℕ) → Effort
effort_by byte = record { frame = coded_by byte place.own_data place.own; setting = byte place.setting; progress = progress_by byte; counters = counters_by byte }

abbrev pub service_by : (ℕ → ℕ) → Service
service_by byte = record { channel = byte place.channel; abort = flag_at byte place.abort; rear = flag_at byte place.rear; effort = effort_by byte }

abbrev pub reply_by : (ℕ → ℕ) → ImmediateReply
reply_by byte =
    record { going = flag_at byte place.going; channel = byte place.reply_channel; at = half_at byte place.reply_next; frame = coded_by byte place.reply_data place.reply }

abbrev pub period_by : (ℕ → ℕ) → Period
period_by byte =
    record {
      slots = word_at byte place.period;
      rxd1 = word_at byte place.rxd1;
      rxd2 = word_at byte place.rxd2;
      connected = word_at byte place.connected;
      failure = flag_at byte place.failure;
    }

abbrev pub diagnosis_by : (ℕ → ℕ) → Diagnosis
diagnosis_by byte =
    record {
      condition = condition_of (byte place.condition);
      alternate = flag_at byte place.alternate;
      sc = flag_at byte place.sc;
      levels = byte place.levels;
      dominant = word_at byte place.dominant;
      period = period_by byte;
    }

-- ---- the state

unfoldable pub core_by : (ℕ → ℕ) → Core
core_by byte =
    record {
      activity = activity_by byte;
      report = report_by byte;
      line = line_by byte;
      reception = reception_by byte;
      service = service_by byte;
      reply = reply_by byte;
      diagnosis = diagnosis_by byte;
    }

unfoldable pub core_of : List ℕ → Core
core_of s = core_by (byte_at s)

-- ---- a struct anew, but for what is named

abbrev pub with_count : Line → ℕ → Line
with_count l n = record { good = l.good; count = n }

abbrev pub with_spent : Service → ℕ → Service
with_spent s n = with_effort s (with_counters s.effort (with_slots s.effort.counters (record { 0 = n })))

abbrev pub with_watched : Diagnosis → Bool → ℕ → ℕ → Diagnosis
with_watched x sc levels dominant =
    record { condition = x.condition; alternate = x.alternate; sc = sc; levels = levels; dominant = dominant; period = x.period }
