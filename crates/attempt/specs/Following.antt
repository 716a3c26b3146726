-- The place behind a sample: of an attempt that goes on, the next slot.
--   following == its number        next_place == the same in 16 bits: it stops at its largest        advanced == `advance` of the rules with next_place
use Rattle.std.specs.Prelude.{ℕ, ◌+◌, ltb}
use Rattle.line.specs.Bits.{pick}
use Rattle.rules.specs.Definitions.Setters.{with_progress, with_counters}
use Rattle.rules.specs.Definitions.Attempt.{at_stage, slot_spent, lost_spent, error_spent}
use Rattle.rules.specs.declared.Stage.TheVariants.{Waiting, Sending, Receiving}
use Rattle.rules.specs.declared.Effort.{Effort}
use Rattle.rules.specs.declared.Verdict.{Verdict}
use Rattle.rules.specs.declared.Verdict.TheVariants.{Unjudged, Goes, Lost, Failed, Done, Answered}

unfoldable pub following : Verdict → ℕ → ℕ
following Unjudged at = 0
following Goes at = at + 1
following Lost at = 0
following (Failed code) at = 0
following Done at = 0
following Answered at = 0

unfoldable pub next_place : ℕ → ℕ
next_place at = pick (ltb at 65535) (at + 1) at

unfoldable pub advanced : Verdict → Effort → Effort
advanced Unjudged e = e
advanced Goes e = with_counters (with_progress e (at_stage Sending (next_place e.progress.at))) (slot_spent e.counters)
advanced Lost e = with_counters (with_progress e (at_stage Waiting 0)) (lost_spent e.counters)
advanced (Failed code) e = with_counters (with_progress e (at_stage Waiting 0)) (error_spent e.counters)
advanced Done e = with_counters (with_progress e (at_stage Waiting 0)) (slot_spent e.counters)
advanced Answered e = with_counters (with_progress e (at_stage Receiving 0)) (slot_spent e.counters)
