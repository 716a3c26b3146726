-- What a slot leaves of the diagnosis, part by part.
--   seen == counts and levels after the slot, before its rules speak        finding == what they find
--   levels_after, dominant_after, sc_after, condition_after, period_after == the parts after a slot
use Prim.Native.Nat.{ℕ, ◌+◌}
use mathlib.Core.Bool.{Bool, true, false}
use mathlib.Core.Path.{◌≡◌, refl, ap, ◌∙◌}
use Rattle.line.specs.Bits.{pick}
use Rattle.diagnosis.specs.Control.{divider_runs, compares_transmission}
use Rattle.diagnosis.specs.Rules.{with_slots, with_failure, with_period, new_period, input_level, differ, connected, dominant_run, edges_counted, watched, found, speaks, condition_found, noted, condition_pulsed, renewed, pulse, turned, completes, ticked, returns, returned, judged, clocked, diagnosed}
use Rattle.diagnosis.specs.declared.Condition.{Condition}
use Rattle.diagnosis.specs.declared.Condition.TheVariants.{Nominal}
use Rattle.diagnosis.specs.declared.Finding.{Finding}
use Rattle.diagnosis.specs.declared.Period.{Period}
use Rattle.diagnosis.specs.declared.Diagnosis.{Diagnosis}

-- a part that both ways of a test leave
kept : {A : Type 0} (f : Diagnosis → A) (t : Bool) (x y : Diagnosis) (z : A) → f x ≡ z → f y ≡ z → f (pick t x y) ≡ z
kept f true x y z p q = p
kept f false x y z p q = q

-- a part that they leave each in its own way
split : {A : Type 0} (f : Diagnosis → A) (t : Bool) (x y : Diagnosis) (a b : A) → f x ≡ a → f y ≡ b → f (pick t x y) ≡ pick t a b
split f true x y a b p q = p
split f false x y a b p q = q

module _ (control levels : ℕ) (turns ended : Bool) (x : Diagnosis) where
  abbrev pub seen : Diagnosis
  seen = watched (connected control x) levels x

  abbrev pub finding : Finding
  finding = found (pick turns (compares_transmission control) false) seen

  -- the counts of the period, with a note of the finding
  abbrev pub counts : Period
  counts = with_failure (edges_counted x.levels levels (connected control x) x.period) (pick (speaks finding) true x.period.failure)

  levels_clocked : (clocked control levels turns x).levels ≡ levels
  unfolding clocked judged noted watched turned ticked pulse renewed
  levels_clocked = kept (λ d. d.levels) (completes control _) _ _ levels refl (kept (λ d. d.levels) (divider_runs control) _ _ levels refl refl)

  pub levels_after : (diagnosed control levels turns ended x).levels ≡ levels
  unfolding diagnosed returned
  levels_after = kept (λ d. d.levels) (returns control ended) _ _ levels levels_clocked levels_clocked

  dominant_clocked : (clocked control levels turns x).dominant ≡ dominant_run (input_level levels (connected control x)) x.dominant
  unfolding clocked judged noted watched turned ticked pulse renewed
  dominant_clocked = kept (λ d. d.dominant) (completes control _) _ _ _ refl (kept (λ d. d.dominant) (divider_runs control) _ _ _ refl refl)

  pub dominant_after : (diagnosed control levels turns ended x).dominant ≡ dominant_run (input_level levels (connected control x)) x.dominant
  unfolding diagnosed returned
  dominant_after = kept (λ d. d.dominant) (returns control ended) _ _ _ dominant_clocked dominant_clocked

  sc_clocked : (clocked control levels turns x).sc ≡ pick (differ levels) true x.sc
  unfolding clocked judged noted watched turned ticked pulse renewed
  sc_clocked = kept (λ d. d.sc) (completes control _) _ _ _ refl (kept (λ d. d.sc) (divider_runs control) _ _ _ refl refl)

  pub sc_after : (diagnosed control levels turns ended x).sc ≡ pick (returns control ended) false (pick (differ levels) true x.sc)
  unfolding diagnosed returned
  sc_after = split (λ d. d.sc) (returns control ended) _ _ _ _ refl sc_clocked

  abbrev noting : Diagnosis
  noting = noted finding seen

  abbrev ticking : Diagnosis
  ticking = pick (divider_runs control) (with_period noting (with_slots noting.period (noting.period.slots + 1))) noting

  same_completes : completes control noting.period ≡ completes control x.period
  unfolding completes noted watched edges_counted
  same_completes = refl

  abbrev found_so : Condition
  found_so = condition_found finding x.condition

  ticking_condition : ticking.condition ≡ found_so
  unfolding noted watched
  ticking_condition = kept (λ d. d.condition) (divider_runs control) (with_period noting (with_slots noting.period (noting.period.slots + 1))) noting found_so refl refl

  pulse_condition : (pulse control noting).condition ≡ condition_pulsed control counts found_so
  unfolding pulse renewed noted watched edges_counted
  pulse_condition = refl

  condition_clocked : (clocked control levels turns x).condition ≡ pick (completes control x.period) (condition_pulsed control counts found_so) found_so
  unfolding clocked judged turned ticked
  condition_clocked =
      split (λ d. d.condition) (completes control noting.period) (pulse control noting) ticking (condition_pulsed control counts found_so) found_so pulse_condition ticking_condition
      ∙ ap (λ (b : Bool). pick b (condition_pulsed control counts found_so) found_so) same_completes

  pub condition_after : (diagnosed control levels turns ended x).condition
      ≡ pick (returns control ended) Nominal (pick (completes control x.period) (condition_pulsed control counts (condition_found finding x.condition)) (condition_found finding x.condition))
  unfolding diagnosed returned
  condition_after = split (λ d. d.condition) (returns control ended) _ _ _ _ refl condition_clocked

  ticking_period : ticking.period ≡ pick (divider_runs control) (with_slots counts (x.period.slots + 1)) counts
  unfolding noted watched edges_counted
  ticking_period =
      split (λ d. d.period) (divider_runs control) (with_period noting (with_slots noting.period (noting.period.slots + 1))) noting (with_slots counts (x.period.slots + 1)) counts refl refl

  pulse_period : (pulse control noting).period ≡ new_period
  unfolding pulse renewed
  pulse_period = refl

  period_clocked : (clocked control levels turns x).period
      ≡ pick (completes control x.period) new_period (pick (divider_runs control) (with_slots counts (x.period.slots + 1)) counts)
  unfolding clocked judged turned ticked
  period_clocked =
      split (λ d. d.period) (completes control noting.period) (pulse control noting) ticking new_period _ pulse_period ticking_period
      ∙ ap (λ (b : Bool). pick b new_period (pick (divider_runs control) (with_slots counts (x.period.slots + 1)) counts)) same_completes

  pub period_after : (diagnosed control levels turns ended x).period
      ≡ pick (completes control x.period) new_period (pick (divider_runs control) (with_slots counts (x.period.slots + 1)) counts)
  unfolding diagnosed returned
  period_after = kept (λ d. d.period) (returns control ended) _ _ _ period_clocked period_clocked
