-- The line counted, a slot spent and the diagnosis worked, as the code writes them to the row.
use Prim.Native.Nat.{ℕ, ◌+◌, ◌<◌, ◌≤◌}
use mathlib.Core.Bool.{Bool, true, false, ◌||◌}
use mathlib.Core.Path.{◌≡◌, refl, sym, ap, ◌∙◌}
use lib.Dec.{eqb, ltb}
use borrow.Author.Tests.{lt-ltb, le-ltb}
use Rattle.line.specs.Bits.{pick}
use Rattle.diagnosis.specs.Control.{automatic}
use Rattle.diagnosis.specs.Rules.{input_level, connected, dominant_run, differ, returns, returned, clocked, diagnosed}
use Rattle.diagnosis.specs.declared.Diagnosis.{Diagnosis}
use Rattle.diagnosing.specs.Steady.{passes}
use Rattle.diagnosing.proofs.Passing.{quick}
use Rattle.rules.specs.Definitions.Setters.{with_effort, with_progress, with_counters, with_slots}
use Rattle.rules.specs.Definitions.Reception.{counted}
use Rattle.rules.specs.Definitions.Attempt.{largest, more_slots, slot_spent, at_stage, advance}
use Rattle.rules.specs.Definitions.Slots.{service_judged}
use Rattle.rules.specs.declared.Line.{Line}
use Rattle.rules.specs.declared.Stage.TheVariants.{Sending}
use Rattle.rules.specs.declared.Verdict.TheVariants.{Goes}
use Rattle.rules.specs.declared.Service.{Service}
use Rattle.row.specs.Row.{with_count, with_spent, with_watched}

-- the count alone changes
pub count_alone : (l : Line) (v : ℕ) → with_count l (counted l v).count ≡ counted l v
unfolding counted
count_alone l v = go (eqb v 0) (ltb l.count 12) where
  go : (a b : Bool) →
      with_count l (pick a (with_count l 0) (pick b (with_count l (l.count + 1)) l)).count
      ≡ pick a (with_count l 0) (pick b (with_count l (l.count + 1)) l)
  go true b = refl
  go false true = refl
  go false false = refl

-- ---- a slot spent

abbrev pub moving : Service → Service
moving s = with_effort s (with_progress s.effort (at_stage Sending (s.effort.progress.at + 1)))

pub spent_more : (s : Service) → s.effort.counters.slots.0 < largest → with_spent (moving s) (s.effort.counters.slots.0 + 1) ≡ service_judged Goes s
unfolding service_judged advance slot_spent more_slots
spent_more s h =
    ap
    (λ (b : Bool).
    with_effort s
    (with_counters (with_progress s.effort (at_stage Sending (s.effort.progress.at + 1)))
    (with_slots s.effort.counters (pick b (record { 0 = s.effort.counters.slots.0 + 1 }) s.effort.counters.slots))))
    (sym (lt-ltb _ _ h))

pub spent_most : (s : Service) → largest ≤ s.effort.counters.slots.0 → moving s ≡ service_judged Goes s
unfolding service_judged advance slot_spent more_slots
spent_most s h =
    ap
    (λ (b : Bool).
    with_effort s
    (with_counters (with_progress s.effort (at_stage Sending (s.effort.progress.at + 1)))
    (with_slots s.effort.counters (pick b (record { 0 = s.effort.counters.slots.0 + 1 }) s.effort.counters.slots))))
    (sym (le-ltb _ _ h))

-- ---- the diagnosis of a slot that ends no good frame

pub unreturned : (control levels : ℕ) (turns : Bool) (x : Diagnosis) → clocked control levels turns x ≡ diagnosed control levels turns false x
unfolding diagnosed returns
unreturned control levels turns x = go (automatic control) where
  go : (b : Bool) → clocked control levels turns x ≡ pick (pick b false false) (returned (clocked control levels turns x)) (clocked control levels turns x)
  go true = refl
  go false = refl

pub steady : (control levels v : ℕ) (turns : Bool) (x : Diagnosis) {run : ℕ} {b d : Bool} →
    v ≡ input_level levels (connected control x) → run ≡ dominant_run v x.dominant → b ≡ passes control levels turns run x → b ≡ true → d ≡ differ levels →
    with_watched x (d || x.sc) levels run ≡ diagnosed control levels turns false x
steady control levels v turns x i r e t w = quick control levels turns x refl i r e t w ∙ unreturned control levels turns x
