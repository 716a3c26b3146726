-- A wire that stands still while the other shows four edges in one period is found, and the automatic selection then listens to the other.
use Prim.Native.Nat.{ℕ, ◌≤◌, ◌<◌}
use mathlib.Core.Bool.{Bool, true, false, not, false≢true}
use mathlib.Core.Path.{◌≡◌, refl, sym, ap, subst, ◌∙◌}
use native.Mathlib.Omega.{arith}
use Rattle.line.specs.Bits.{pick}
use Rattle.line.proofs.Laws.{pick_same}
use Rattle.diagnosis.specs.Control.{automatic, compares_transmission}
use Rattle.diagnosis.specs.Rules.{input_level, automatic_input, connected, edges_counted, watched, found, asynchronous, condition_found, returns, diagnosed}
use Rattle.diagnosis.proofs.After.{condition_after}
use Rattle.diagnosis.proofs.Findings.{async_data, async_data_bar, found_edges, automatic_connected, no_return}
use Rattle.diagnosis.specs.declared.Condition.{Condition}
use Rattle.diagnosis.specs.declared.Condition.TheVariants.{DegradedOnData, DegradedOnDataBar}
use Rattle.diagnosis.specs.declared.Finding.{Finding}
use Rattle.diagnosis.specs.declared.Finding.TheVariants.{Data, DataBar}
use Rattle.diagnosis.specs.declared.Diagnosis.{Diagnosis}
use Rattle.rules.specs.Definitions.Registers.{both}
use Rattle.rules.specs.Definitions.State.{is_active, is_asleep}
use Rattle.rules.specs.Definitions.Slots.{levels_of, sample_of, ended, diagnosis_after, diagnosed_slot, active_slot, resting_slot}
use Rattle.rules.specs.Definitions.Run.{answered, rested_slot, next}
use Rattle.every_run.specs.Tally.{none}
use Rattle.every_run.specs.Wires.{Wires, watched_w, ends_period, control, watched_in, diagnosis_of, Counts, Alone, Degraded, Finds}
use Rattle.every_run.proofs.Steps.{Step, refusal, went, rested, refused_not, accepted_next}
use Rattle.every_run.proofs.Wires.Counted.{Same, completes_same, rxd1_seen, rxd2_seen, dominant_seen}
use Rattle.rules.specs.declared.Controller.{Controller}
use Rattle.rules.specs.declared.Event.TheVariants.{Slot}

pub same_of : (c : Controller) (w : Wires) → Counts c w → Same (control c) (diagnosis_of c) w
same_of c w n = record { levels = n.levels; rxd1 = n.rxd1; rxd2 = n.rxd2; selected = n.selected; dominant = n.dominant; slots = n.slots; within = n.within }

-- ---- the rules of a slot in which no other speaks

module _ (k levels : ℕ) (turns ended : Bool) (x : Diagnosis) (w : Wires) (s : Same k x w) (un : compares_transmission k ≡ false) (below : (watched_w (connected k x) levels w).dominant < 8)
    (on : ends_period k w ≡ false) (stays : returns k ended ≡ false) where
  abbrev seen : Diagnosis
  seen = watched (connected k x) levels x

  abbrev compares : Bool
  compares = pick turns (compares_transmission k) false

  below_eight : seen.dominant < 8
  unfolding watched
  below_eight = let e = dominant_seen k levels turns ended x w s in omega arith

  finds : found compares seen ≡ asynchronous seen.period
  finds = found_edges compares seen below_eight (rw un (pick_same turns false))

  condition_is : (f : Finding) → asynchronous seen.period ≡ f → (diagnosed k levels turns ended x).condition ≡ condition_found f x.condition
  condition_is f e = condition_after k levels turns ended x ∙ rw (stays, completes_same k levels turns ended x w s, on, finds, e)

  pub on_data : 4 ≤ (watched_w (connected k x) levels w).rxd2 → (watched_w (connected k x) levels w).rxd1 ≡ 0 → (diagnosed k levels turns ended x).condition ≡ DegradedOnDataBar
  unfolding watched edges_counted condition_found
  on_data a b =
      condition_is Data
      (async_data seen.period (let e = rxd2_seen k levels turns ended x w s in omega arith) (let e = rxd1_seen k levels turns ended x w s in omega arith))

  pub on_data_bar : 4 ≤ (watched_w (connected k x) levels w).rxd1 → (watched_w (connected k x) levels w).rxd2 ≡ 0 → (diagnosed k levels turns ended x).condition ≡ DegradedOnData
  unfolding watched edges_counted condition_found
  on_data_bar a b =
      condition_is DataBar
      (async_data_bar seen.period (let e = rxd1_seen k levels turns ended x w s in omega arith) (let e = rxd2_seen k levels turns ended x w s in omega arith))

-- ---- a slot of the controller

-- where the diagnosis counts, it is `diagnosed` of the raw levels
module _ (c : Controller) (l : ℕ) where
  pub active_diagnosis : (P : Diagnosis → Type 0) → ((turns : Bool) → P (diagnosed (control c) (levels_of c l) turns (ended c (sample_of c l)) (diagnosis_of c))) → P (active_slot c l).core.diagnosis
  unfolding active_slot diagnosed_slot diagnosis_after
  active_diagnosis P h = h _

  pub resting_diagnosis : (P : Diagnosis → Type 0) → is_asleep c.core.activity.mode ≡ false → P (diagnosed (control c) (levels_of c l) false false (diagnosis_of c)) → P (resting_slot c l).core.diagnosis
  unfolding resting_slot diagnosed_slot diagnosis_after
  resting_diagnosis P e h = rw e h

no_ri : (a b e : Bool) → a ≡ true → both a (both (not b) e) ≡ false → pick b false e ≡ false
no_ri true true e h q = refl
no_ri true false e h q = q
no_ri false b e h q = absurd (false≢true h)

module _ (c : Controller) (w : Wires) (l : ℕ) (n : Counts c w) (a : Alone c w l) where
  abbrev Left : Diagnosis → Type 0
  Left d = (4 ≤ (watched_in c w l).rxd2 → (watched_in c w l).rxd1 ≡ 0 → d.condition ≡ DegradedOnDataBar) × (4 ≤ (watched_in c w l).rxd1 → (watched_in c w l).rxd2 ≡ 0 → d.condition ≡ DegradedOnData)

  left_by : (turns e : Bool) → returns (control c) e ≡ false → Left (diagnosed (control c) (levels_of c l) turns e (diagnosis_of c))
  left_by turns e r =
      let s = same_of c w n in (
        on_data (control c) (levels_of c l) turns e (diagnosis_of c) w s a.uncompared a.below_eight a.goes_on r,
        on_data_bar (control c) (levels_of c l) turns e (diagnosis_of c) w s a.uncompared a.below_eight a.goes_on r,
      )

  slot_left : Step c (Slot l) → Left (next c (Slot l)).core.diagnosis
  slot_left (refusal why h) = absurd (false≢true (sym (refused_not c none (Slot l) why h) ∙ a.taken))
  slot_left (went b h) =
      let q : next c (Slot l) ≡ active_slot c l = unfold answered in accepted_next c none (Slot l) _ (active_slot c l) h in
      subst (λ (d : Controller). Left d.core.diagnosis) (sym q)
      (active_diagnosis c l Left (λ turns. left_by turns (ended c (sample_of c l)) (unfold returns in no_ri (is_active c.core.activity.mode) (automatic (control c)) (ended c (sample_of c l)) b a.no_return)))
  slot_left (rested b h) =
      let q : next c (Slot l) ≡ resting_slot c l = unfold rested_slot in accepted_next c none (Slot l) _ (resting_slot c l) h in
      subst (λ (d : Controller). Left d.core.diagnosis) (sym q) (resting_diagnosis c l Left a.awake (left_by false false (no_return (control c))))

-- what the automatic selection listens to
listens_to : (d : Controller) (x : Condition) (input : ℕ) → (diagnosis_of d).condition ≡ x → automatic_input x (diagnosis_of d).alternate ≡ input → Degraded d x input
unfolding sample_of
listens_to d x input e i =
    record {
      condition = e;
      listens = λ a levels.
          let q : connected (control d) (diagnosis_of d) ≡ input = automatic_connected (control d) (diagnosis_of d) a ∙ ap (λ (y : Condition). automatic_input y (diagnosis_of d).alternate) e ∙ i in
          ap (input_level (levels_of d levels)) q;
    }

pub slot_finds : (c : Controller) (w : Wires) (l : ℕ) → Counts c w → Step c (Slot l) → Finds c w l
slot_finds c w l n s =
    record {
      fault_on_data = λ a p q. listens_to (next c (Slot l)) DegradedOnDataBar 2 ((slot_left c w l n a s).0 p q) (unfold automatic_input in refl);
      fault_on_data_bar = λ a p q. listens_to (next c (Slot l)) DegradedOnData 1 ((slot_left c w l n a s).1 p q) (unfold automatic_input in refl);
    }
