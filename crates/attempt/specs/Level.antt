-- A slot of an attempt by the level driven in it, the frame's n data bytes and its byte 1; and what an attempt is after a sample.
--   due_level, judge_level == `due` and `judge_slot` of the rules, with the level driven given        progress_after, counters_after == the parts that `advance` changes
use Rattle.std.specs.Prelude.{ℕ, ◌+◌, ◌*◌, eqb, ltb}
use Rattle.line.specs.Bits.{pick}
use Rattle.line.specs.Frame.{size}
use Rattle.rules.specs.Definitions.Registers.{both}
use Rattle.rules.specs.Definitions.Channels.{acknowledge_asked}
use Rattle.rules.specs.Definitions.Mailbox.{asks_reply}
use Rattle.rules.specs.Definitions.Attempt.{at_stage, rtr_slot, difference, slot_spent, lost_spent, error_spent}
use Rattle.rules.specs.declared.Stage.TheVariants.{Waiting, Sending, Receiving}
use Rattle.rules.specs.declared.Progress.{Progress}
use Rattle.rules.specs.declared.Counters.{Counters}
use Rattle.rules.specs.declared.Verdict.{Verdict}
use Rattle.rules.specs.declared.Verdict.TheVariants.{Unjudged, Goes, Lost, Failed, Done, Answered}

unfoldable pub due_level : ℕ → ℕ → ℕ → ℕ → ℕ
due_level n low k d = pick (eqb k (51 + 10 * n)) (pick (acknowledge_asked low) 0 d) d

unfoldable pub judge_level : ℕ → ℕ → ℕ → ℕ → ℕ → Verdict
judge_level n low k d v =
    pick (eqb v (due_level n low k d)) (pick (ltb (k + 1) (size n)) Goes Done) (pick (both (eqb k rtr_slot) (asks_reply low)) Answered (difference n k d))

unfoldable pub progress_after : Verdict → Progress → Progress
progress_after Unjudged p = p
progress_after Goes p = at_stage Sending (p.at + 1)
progress_after Lost p = at_stage Waiting 0
progress_after (Failed code) p = at_stage Waiting 0
progress_after Done p = at_stage Waiting 0
progress_after Answered p = at_stage Receiving 0

unfoldable pub counters_after : Verdict → Counters → Counters
counters_after Unjudged c = c
counters_after Goes c = slot_spent c
counters_after Lost c = lost_spent c
counters_after (Failed code) c = error_spent c
counters_after Done c = slot_spent c
counters_after Answered c = slot_spent c
