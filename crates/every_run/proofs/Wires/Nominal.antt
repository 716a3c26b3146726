-- With equal levels on all three inputs, four edges in every period and no eight dominant samples in a row the diagnosis stays nominal with Sc 0.
--   Calmed == what such a run keeps        calm_slot, calm_pulsed, calm_renewed == it is kept
use Prim.Native.Nat.{ℕ, ◌+◌, ◌≤◌, ◌<◌, min}
use mathlib.Core.Bool.{Bool, true, false}
use mathlib.Core.Path.{◌≡◌, refl, sym, ap, ◌∙◌}
use native.Mathlib.Omega.{arith}
use lib.Dec.{eqb}
use Rattle.line.specs.Bits.{pick}
use Rattle.line.proofs.Laws.{pick_same, picked}
use Rattle.diagnosis.specs.Control.{divider_runs, compares_transmission}
use Rattle.diagnosis.specs.Rules.{with_slots, new_period, input_level, differ, connected, edges_counted, watched, found, speaks, condition_found, condition_pulsed, renewed, pulse, turned, pulsed, completes, returns, diagnosed}
use Rattle.diagnosis.proofs.After.{counts, sc_after, condition_after, period_after}
use Rattle.diagnosis.proofs.Findings.{async_equal, found_alike, pulsed_nominal}
use Rattle.diagnosis.specs.declared.Condition.{Condition}
use Rattle.diagnosis.specs.declared.Condition.TheVariants.{Nominal}
use Rattle.diagnosis.specs.declared.Finding.{Finding}
use Rattle.diagnosis.specs.declared.Finding.TheVariants.{Nothing}
use Rattle.diagnosis.specs.declared.Period.{Period}
use Rattle.diagnosis.specs.declared.Diagnosis.{Diagnosis}
use Rattle.every_run.specs.Wires.{Wires, renewed_w, edges_w, watched_w, ends_period, ticked_w, Equal, dominant, recessive}
use Rattle.every_run.proofs.Wires.Counted.{Same, completes_same, rxd1_seen, rxd2_seen, selected_seen, dominant_seen}

pub record Calmed (x : Diagnosis) (w : Wires) : Type 0 where
  pub condition : x.condition ≡ Nominal
  pub sc : x.sc ≡ false
  pub failure : x.period.failure ≡ false
  pub rxd1 : w.rxd1 ≡ w.selected
  pub rxd2 : w.rxd2 ≡ w.selected
  pub equal : Equal w.levels

-- ---- equal levels

all_dominant : (i : ℕ) → input_level 0 i ≡ 0
unfolding input_level
all_dominant i = picked (λ (n : ℕ). n ≡ 0) (eqb i 1) _ _ (λ e. refl) (λ e. picked (λ (n : ℕ). n ≡ 0) (eqb i 2) _ _ (λ d. refl) (λ d. refl))

all_recessive : (i : ℕ) → input_level 7 i ≡ 1
unfolding input_level
all_recessive i = picked (λ (n : ℕ). n ≡ 1) (eqb i 1) _ _ (λ e. refl) (λ e. picked (λ (n : ℕ). n ≡ 1) (eqb i 2) _ _ (λ d. refl) (λ d. refl))

level_alike : {a : ℕ} → Equal a → (i j : ℕ) → input_level a i ≡ input_level a j
level_alike dominant i j = all_dominant i ∙ sym (all_dominant j)
level_alike recessive i j = all_recessive i ∙ sym (all_recessive j)

edges_alike : {a b : ℕ} → Equal a → Equal b → (i j m : ℕ) → edges_w a b i m ≡ edges_w a b j m
unfolding edges_w
edges_alike p q i j m = rw (level_alike q i j, level_alike p i j)

not_different : {a : ℕ} → Equal a → differ a ≡ false
unfolding differ
not_different dominant = refl
not_different recessive = refl

-- ---- a slot

module _ (k levels : ℕ) (turns ended : Bool) (x : Diagnosis) (w : Wires) (s : Same k x w) (q : Calmed x w) (alike : Equal levels)
    (below : (watched_w (connected k x) levels w).dominant < 8) (edges : ends_period k w ≡ true → 4 ≤ (watched_w (connected k x) levels w).selected) where
  abbrev input : ℕ
  input = connected k x

  abbrev seen_w : Wires
  seen_w = watched_w input levels w

  abbrev seen : Diagnosis
  seen = watched input levels x

  abbrev compares : Bool
  compares = pick turns (compares_transmission k) false

  first : seen_w.rxd1 ≡ seen_w.selected
  unfolding watched_w
  first = ap (edges_w w.levels levels 1) q.rxd1 ∙ edges_alike q.equal alike 1 input w.selected

  second : seen_w.rxd2 ≡ seen_w.selected
  unfolding watched_w
  second = ap (edges_w w.levels levels 2) q.rxd2 ∙ edges_alike q.equal alike 2 input w.selected

  below_eight : seen.dominant < 8
  unfolding watched
  below_eight = let e = dominant_seen k levels turns ended x w s in omega arith

  same_edges : seen.period.rxd1 ≡ seen.period.rxd2
  unfolding watched edges_counted
  same_edges = rxd1_seen k levels turns ended x w s ∙ ap (λ (n : ℕ). min n 4) (first ∙ sym second) ∙ sym (rxd2_seen k levels turns ended x w s)

  same_levels : input_level seen.levels 1 ≡ input_level seen.levels 2
  unfolding watched
  same_levels = level_alike alike 1 2

  nothing : found compares seen ≡ Nothing
  nothing = found_alike compares seen below_eight same_levels ∙ async_equal seen.period same_edges

  four : ends_period k w ≡ true → (counts k levels turns ended x).connected ≡ 4
  unfolding edges_counted
  four e = let h = edges e in let z = selected_seen k levels turns ended x w s in omega arith

  still_nominal : (diagnosed k levels turns ended x).condition ≡ Nominal
  unfolding condition_found
  still_nominal =
      condition_after k levels turns ended x
      ∙ ap (λ (c : Condition). pick (returns k ended) Nominal (pick (completes k x.period) (condition_pulsed k (counts k levels turns ended x) c) c)) (ap (λ (f : Finding). condition_found f x.condition) nothing ∙ q.condition)
      ∙ ap (λ (b : Bool). pick (returns k ended) Nominal (pick b (condition_pulsed k (counts k levels turns ended x) Nominal) Nominal)) (completes_same k levels turns ended x w s)
      ∙ go (ends_period k w) refl
    where
      go : (b : Bool) → ends_period k w ≡ b → pick (returns k ended) Nominal (pick b (condition_pulsed k (counts k levels turns ended x) Nominal) Nominal) ≡ Nominal
      go true e = rw (pulsed_nominal k (counts k levels turns ended x) (four e)) (pick_same (returns k ended) Nominal)
      go false e = pick_same (returns k ended) Nominal

  still_sc : (diagnosed k levels turns ended x).sc ≡ false
  still_sc = sc_after k levels turns ended x ∙ rw (not_different alike, q.sc) (pick_same (returns k ended) false)

  still_failure : (diagnosed k levels turns ended x).period.failure ≡ false
  unfolding new_period
  still_failure = ap (λ (p : Period). p.failure) (period_after k levels turns ended x) ∙ go (completes k x.period) (divider_runs k)
    where
      counted_failure : (counts k levels turns ended x).failure ≡ false
      counted_failure = rw nothing (unfold speaks in q.failure)

      go : (b r : Bool) → (pick b new_period (pick r (with_slots (counts k levels turns ended x) (x.period.slots + 1)) (counts k levels turns ended x))).failure ≡ false
      go true r = refl
      go false true = counted_failure
      go false false = counted_failure

  abbrev More : Wires
  More = record { levels = seen_w.levels; rxd1 = seen_w.rxd1; rxd2 = seen_w.rxd2; selected = seen_w.selected; slots = seen_w.slots + 1; dominant = seen_w.dominant }

  pub calm_slot : Calmed (diagnosed k levels turns ended x) (ticked_w k seen_w)
  calm_slot =
      record {
        condition = still_nominal;
        sc = still_sc;
        failure = still_failure;
        rxd1 = unfold ticked_w renewed_w in ticked_first (ends_period k seen_w) (divider_runs k);
        rxd2 = unfold ticked_w renewed_w in ticked_second (ends_period k seen_w) (divider_runs k);
        equal = unfold ticked_w renewed_w in ticked_equal (ends_period k seen_w) (divider_runs k);
      }
    where
      ticked_first : (b r : Bool) → (pick b (renewed_w seen_w) (pick r More seen_w)).rxd1 ≡ (pick b (renewed_w seen_w) (pick r More seen_w)).selected
      ticked_first true r = unfold renewed_w in refl
      ticked_first false true = first
      ticked_first false false = first

      ticked_second : (b r : Bool) → (pick b (renewed_w seen_w) (pick r More seen_w)).rxd2 ≡ (pick b (renewed_w seen_w) (pick r More seen_w)).selected
      ticked_second true r = unfold renewed_w in refl
      ticked_second false true = second
      ticked_second false false = second

      ticked_equal : (b r : Bool) → Equal (pick b (renewed_w seen_w) (pick r More seen_w)).levels
      ticked_equal true r = unfold renewed_w watched_w in alike
      ticked_equal false true = unfold watched_w in alike
      ticked_equal false false = unfold watched_w in alike

-- ---- a pulse by hand, and other SDC bits

pub calm_renewed : (x : Diagnosis) (w : Wires) → Calmed x w → Calmed (renewed x) (renewed_w w)
unfolding renewed new_period renewed_w
calm_renewed x w q = record { condition = q.condition; sc = q.sc; failure = refl; rxd1 = refl; rxd2 = refl; equal = q.equal }

pub calm_pulsed : (k : ℕ) (x : Diagnosis) (w : Wires) → Same k x w → 4 ≤ w.selected → Calmed x w → Calmed (pulsed k x) (renewed_w w)
unfolding pulsed turned pulse renewed new_period renewed_w
calm_pulsed k x w s h q =
    record {
      condition = ap (condition_pulsed k x.period) q.condition ∙ pulsed_nominal k x.period (let e = s.selected in omega arith);
      sc = q.sc;
      failure = refl;
      rxd1 = refl;
      rxd2 = refl;
      equal = q.equal;
    }
