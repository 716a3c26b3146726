-- A slot by the level driven in it is the rules' slot, and what `advance` changes is place and counts.
use Prim.Native.Nat.{ℕ}
use mathlib.Core.Path.{◌≡◌, refl}
use lib.ListN.{get_or}
use Rattle.rules.specs.Definitions.Setters.{with_progress, with_counters}
use Rattle.rules.specs.Definitions.Attempt.{level_at, due, is_request, judge_slot, advance}
use Rattle.rules.specs.declared.Coded.{Coded}
use Rattle.rules.specs.declared.Effort.{Effort}
use Rattle.rules.specs.declared.Verdict.{Verdict}
use Rattle.rules.specs.declared.Verdict.TheVariants.{Unjudged, Goes, Lost, Failed, Done, Answered}
use Rattle.attempt.specs.Level.{due_level, judge_level, progress_after, counters_after}

pub level_judged : (x : Coded) (k v : ℕ) → judge_level x.n (get_or x.bytes 1 0) k (level_at x k) v ≡ judge_slot x k v
unfolding judge_level due_level judge_slot due is_request
level_judged x k v = refl

pub advance_is : (w : Verdict) (e : Effort) → with_counters (with_progress e (progress_after w e.progress)) (counters_after w e.counters) ≡ advance w e
unfolding progress_after counters_after advance
advance_is Unjudged e = refl
advance_is Goes e = refl
advance_is Lost e = refl
advance_is (Failed code) e = refl
advance_is Done e = refl
advance_is Answered e = refl
