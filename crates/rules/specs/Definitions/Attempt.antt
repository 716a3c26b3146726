-- An attempt to send: its judgement, slot by slot, and what it spends (01, Sending).
--   sent_slots, level_at == the fixed frame's slots, and the level of slot k        judge_slot == what a sample is for the attempt, or for a reply
--   advance == the effort after it        exhausted == error R + 1
use Rattle.std.specs.Prelude.{ℕ, ◌+◌, ◌*◌, ◌%◌, Bool, true, false, List, eqb, ltb, get_or, take}
use Rattle.line.specs.Bits.{pick}
use Rattle.line.specs.Frame.{slots_of, byte_bits, size}
use Rattle.line.specs.Layout.{part_of, half_of}
use Rattle.line.specs.declared.Part.{Part}
use Rattle.line.specs.declared.Part.TheVariants.{Start, Identifier, Command, Data, Check, EndOfData, Acknowledge, EndOfFrame, After}
use Rattle.line.specs.declared.Half.{Half}
use Rattle.line.specs.declared.Half.TheVariants.{Plain, First, Second}
use Rattle.rules.specs.Definitions.Longest.{capacity}
use Rattle.rules.specs.Definitions.Setters.{with_slots, with_lost, with_errors, with_progress, with_counters}
use Rattle.rules.specs.Definitions.Registers.{both, CV, ACKE, FCSE}
use Rattle.rules.specs.Definitions.Channels.{acknowledge_asked}
use Rattle.rules.specs.Definitions.Mailbox.{asks_reply}
use Rattle.rules.specs.declared.Timeslots.{Timeslots}
use Rattle.rules.specs.declared.Attempts.{Attempts}
use Rattle.rules.specs.declared.Coded.{Coded}
use Rattle.rules.specs.declared.Stage.{Stage}
use Rattle.rules.specs.declared.Stage.TheVariants.{Resting, Waiting, Opening, Sending, Receiving}
use Rattle.rules.specs.declared.Progress.{Progress}
use Rattle.rules.specs.declared.Counters.{Counters}
use Rattle.rules.specs.declared.Effort.{Effort}
use Rattle.rules.specs.declared.Verdict.{Verdict}
use Rattle.rules.specs.declared.Verdict.TheVariants.{Unjudged, Goes, Lost, Failed, Done, Answered}

-- ---- counts: "only stored counts stop at their largest"

abbrev pub largest : ℕ
largest = 4294967295

unfoldable pub more_slots : Timeslots → Timeslots
more_slots t = pick (ltb t.0 largest) (record { 0 = t.0 + 1 }) t

unfoldable pub more_attempts : Attempts → Attempts
more_attempts t = pick (ltb t.0 largest) (record { 0 = t.0 + 1 }) t

unfoldable pub no_counts : Counters
no_counts = record { slots = record { 0 = 0 }; lost = record { 0 = 0 }; errors = record { 0 = 0 } }

-- ---- the stage

unfoldable pub at_stage : Stage → ℕ → Progress
at_stage stage at = record { stage = stage; at = at }

-- "TXG is 1 in a service"
unfoldable pub is_serving : Stage → Bool
is_serving Resting = false
is_serving Waiting = true
is_serving Opening = true
is_serving Sending = true
is_serving Receiving = true

unfoldable pub in_service : Progress → Bool
in_service p = is_serving p.stage

-- between attempts: a first level answered and not yet sampled is no attempt
unfoldable pub is_between : Stage → Bool
is_between Resting = false
is_between Waiting = true
is_between Opening = true
is_between Sending = false
is_between Receiving = false

unfoldable pub between_attempts : Progress → Bool
between_attempts p = is_between p.stage

unfoldable pub is_waiting : Stage → Bool
is_waiting Resting = false
is_waiting Waiting = true
is_waiting Opening = false
is_waiting Sending = false
is_waiting Receiving = false

unfoldable pub waits : Progress → Bool
waits p = is_waiting p.stage

unfoldable pub is_driving : Stage → Bool
is_driving Resting = false
is_driving Waiting = false
is_driving Opening = true
is_driving Sending = true
is_driving Receiving = false

unfoldable pub drives_frame : Progress → Bool
drives_frame p = is_driving p.stage

-- in an attempt whose request another module answers (02, Req 01)
unfoldable pub is_answering : Stage → Bool
is_answering Resting = false
is_answering Waiting = false
is_answering Opening = false
is_answering Sending = false
is_answering Receiving = true

unfoldable pub is_answered : Progress → Bool
is_answered p = is_answering p.stage

-- ---- the fixed frame: "both acknowledge slots recessive". The remainder is there for counts that no state in range has

unfoldable pub sent_slots : Coded → List ℕ
sent_slots x = slots_of (take (31 + 8 * (x.n % (capacity + 1))) (byte_bits x.bytes)) false

unfoldable pub level_at : Coded → ℕ → ℕ
level_at x k = get_or (sent_slots x) k 1

-- "the acknowledge, whose due pattern is RAK's": 10 where RAK asks for it
unfoldable pub due : Coded → ℕ → ℕ
due x k = pick (eqb k (51 + 10 * x.n)) (pick (acknowledge_asked (get_or x.bytes 1 0)) 0 (level_at x k)) (level_at x k)

-- ---- the sender's judgement

-- "a plain bit or first half of a pair"
unfoldable pub open_half : Half → Bool
open_half Plain = true
open_half First = true
open_half Second = false

-- "of identifier, command or data"
unfoldable pub arbitrated : Part → Bool
arbitrated Start = false
arbitrated Identifier = true
arbitrated Command = true
arbitrated Data = true
arbitrated Check = false
arbitrated EndOfData = false
arbitrated Acknowledge = false
arbitrated EndOfFrame = false
arbitrated After = false

unfoldable pub in_check : Part → Bool
in_check Start = false
in_check Identifier = false
in_check Command = false
in_check Data = false
in_check Check = true
in_check EndOfData = false
in_check Acknowledge = false
in_check EndOfFrame = false
in_check After = false

unfoldable pub in_acknowledge : Part → Bool
in_acknowledge Start = false
in_acknowledge Identifier = false
in_acknowledge Command = false
in_acknowledge Data = false
in_acknowledge Check = false
in_acknowledge EndOfData = false
in_acknowledge Acknowledge = true
in_acknowledge EndOfFrame = false
in_acknowledge After = false

-- "Recessive driven and dominant sampled in a plain bit or first half of a pair of identifier, command or data is lost contention .. In the check it is an error, FCSE.
-- Every other difference is an error: CV, or ACKE in the acknowledge"; o is that recessive is driven in a plain bit or first half
unfoldable pub difference_in : Part → Bool → Verdict
difference_in p o =
    pick (both o (arbitrated p)) Lost
    (pick (both o (in_check p)) (Failed FCSE)
    (pick (in_acknowledge p) (Failed ACKE)
    (Failed CV)))

-- a sample unlike the level due, d the level driven
unfoldable pub difference : ℕ → ℕ → ℕ → Verdict
difference n k d = difference_in (part_of n k) (both (eqb d 1) (open_half (half_of n k)))

-- a reply request: R/W 1 and RTR 1
unfoldable pub is_request : Coded → Bool
is_request x = asks_reply (get_or x.bytes 1 0)

-- RTR's first half, counted from 0
abbrev pub rtr_slot : ℕ
rtr_slot = 28

-- "ends in the slot where it is lost, fails or has sent its last". "A requester that sees its recessive RTR driven dominant has not lost contention: the attempt goes on
-- as a reception" (02, Req 01)
unfoldable pub judge_slot : Coded → ℕ → ℕ → Verdict
judge_slot x k v =
    pick (eqb v (due x k)) (pick (ltb (k + 1) (size x.n)) Goes Done)
    (pick (both (eqb k rtr_slot) (is_request x)) Answered (difference x.n k (level_at x k)))

-- ---- what the attempt spends

-- "Each accepted slot of an attempt adds 1 to slots"
unfoldable pub slot_spent : Counters → Counters
slot_spent c = with_slots c (more_slots c.slots)

-- "An attempt lost there adds 1 to C, one that fails there 1 to errors."
unfoldable pub lost_spent : Counters → Counters
lost_spent c = with_lost (slot_spent c) (more_attempts c.lost)

unfoldable pub error_spent : Counters → Counters
error_spent c = with_errors (slot_spent c) (more_attempts c.errors)

unfoldable pub advance : Verdict → Effort → Effort
advance Unjudged e = e
advance Goes e = with_counters (with_progress e (at_stage Sending (e.progress.at + 1))) (slot_spent e.counters)
advance Lost e = with_counters (with_progress e (at_stage Waiting 0)) (lost_spent e.counters)
advance (Failed code) e = with_counters (with_progress e (at_stage Waiting 0)) (error_spent e.counters)
advance Done e = with_counters (with_progress e (at_stage Waiting 0)) (slot_spent e.counters)
advance Answered e = with_counters (with_progress e (at_stage Receiving 0)) (slot_spent e.counters)

-- "After error R + 1"
unfoldable pub exhausted : Effort → Bool
exhausted e = ltb e.setting e.counters.errors.0
