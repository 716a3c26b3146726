-- The three-wire diagnosis over every run (000, Diagnosis System; 02, Req 05).
--   Wires == the claims' own record of the raw levels: edges, slots and dominant samples in a row, without a largest value        next_w == it after an event
--   Counts == the counts of the controller are those        Finds == a wire that stands still is found        Calm, Sound == with equal levels and enough edges it stays nominal
--   DiagnosisOver, NominalOver == what holds of a list of events, from a controller and a record on        Diagnosed == the claim, entire
-- Beside the events, whether each was accepted, the mode and the memory map the record is given the input selected as a slot begins (`connected`), by the rules' definition;
-- nothing that the controller has counted. That the selection is the one of the observer's own diagnosis is a claim of Sending.antt (`diagnosis` in Agrees, `sampled`).
use Rattle.std.specs.Prelude.{ℕ, ◌+◌, ◌%◌, ◌≤◌, ◌<◌, min, Bool, true, false, not, List, [], ◌∷◌, ◌≡◌, eqb, get_or}
use Rattle.line.specs.Bits.{pick}
use Rattle.diagnosis.specs.Control.{rate, divider, automatic, compares_transmission, divider_runs}
use Rattle.diagnosis.specs.Rules.{input_level, connected}
use Rattle.diagnosis.specs.declared.Condition.{Condition}
use Rattle.diagnosis.specs.declared.Condition.TheVariants.{Nominal, DegradedOnData, DegradedOnDataBar}
use Rattle.diagnosis.specs.declared.Diagnosis.{Diagnosis}
use Rattle.rules.specs.Definitions.Registers.{both, either, diagnosis_control, command, asks_pulse}
use Rattle.rules.specs.Definitions.State.{is_active, is_asleep}
use Rattle.rules.specs.Definitions.Slots.{levels_of, sample_of, ended}
use Rattle.rules.specs.Definitions.Host.{resets, sleeps}
use Rattle.rules.specs.Definitions.Run.{fresh, next}
use Rattle.every_run.specs.Observer.{accepted}
use Rattle.rules.specs.declared.Controller.{Controller}
use Rattle.rules.specs.declared.Event.{Event}
use Rattle.rules.specs.declared.Event.TheVariants.{Reset, Write, Read, Slot}

-- ---- the record

-- the levels of the last slot; of the period so far the edges on RxD1, on RxD2 and on the input selected in each slot, and its slots; the dominant samples in a row
pub record Wires : Type 0 where
  pub levels : ℕ
  pub rxd1 : ℕ
  pub rxd2 : ℕ
  pub selected : ℕ
  pub slots : ℕ
  pub dominant : ℕ

-- "recessive before the first after reset" (02)
unfoldable pub new_wires : Wires
new_wires = record { levels = 0b111; rxd1 = 0; rxd2 = 0; selected = 0; slots = 0; dominant = 0 }

-- "starts period and counts anew"
unfoldable pub renewed_w : Wires → Wires
renewed_w w = record { levels = w.levels; rxd1 = 0; rxd2 = 0; selected = 0; slots = 0; dominant = w.dominant }

-- one more where the level of the input is unlike the last slot's
unfoldable pub edges_w : ℕ → ℕ → ℕ → ℕ → ℕ
edges_w before levels input n = pick (eqb (input_level levels input) (input_level before input)) n (n + 1)

-- a slot with levels, of which the input's is the sample
unfoldable pub watched_w : ℕ → ℕ → Wires → Wires
watched_w input levels w =
    record {
      levels = levels;
      rxd1 = edges_w w.levels levels 1 w.rxd1;
      rxd2 = edges_w w.levels levels 2 w.rxd2;
      selected = edges_w w.levels levels input w.selected;
      slots = w.slots;
      dominant = pick (eqb (input_level levels input) 0) (w.dominant + 1) 0;
    }

-- the slot completes the period: with it there are as many as the divider says
unfoldable pub ends_period : ℕ → Wires → Bool
ends_period control w = both (divider_runs control) (eqb (w.slots + 1) (divider control))

unfoldable pub ticked_w : ℕ → Wires → Wires
ticked_w control w =
    pick (ends_period control w) (renewed_w w)
    (pick (divider_runs control) (record { levels = w.levels; rxd1 = w.rxd1; rxd2 = w.rxd2; selected = w.selected; slots = w.slots + 1; dominant = w.dominant }) w)

-- a pulse by hand, or other SDC bits; m is the memory map before the write
unfoldable pub anew_by : List ℕ → ℕ → ℕ → Bool
anew_by m address v =
    either (both (eqb address command) (asks_pulse v)) (both (eqb address diagnosis_control) (not (eqb (rate (get_or m diagnosis_control 0)) (rate v))))

abbrev pub control : Controller → ℕ
control c = get_or c.memory diagnosis_control 0

-- the record once a slot's levels are counted, before the divider
abbrev pub watched_in : Controller → Wires → ℕ → Wires
watched_in c w levels = watched_w (connected (control c) c.core.diagnosis) (levels_of c levels) w

unfoldable pub follow_w : Controller → Wires → Event → Wires
follow_w c w Reset = new_wires
follow_w c w (Write address value) =
    pick (resets address (value % 256)) new_wires
    (pick (sleeps address (value % 256)) w (pick (anew_by c.memory address (value % 256)) (renewed_w w) w))
follow_w c w (Read address) = w
follow_w c w (Slot levels) = pick (is_asleep c.core.activity.mode) w (ticked_w (control c) (watched_in c w levels))

-- a refused event counts nothing
unfoldable pub next_w : Controller → Wires → Event → Wires
next_w c w e = pick (accepted c e) (follow_w c w e) w

-- ---- the counts

abbrev pub diagnosis_of : Controller → Diagnosis
diagnosis_of c = c.core.diagnosis

pub record Counts (c : Controller) (w : Wires) : Type 0 where
  pub levels : (diagnosis_of c).levels ≡ w.levels
  pub rxd1 : (diagnosis_of c).period.rxd1 ≡ min w.rxd1 4
  pub rxd2 : (diagnosis_of c).period.rxd2 ≡ min w.rxd2 4
  pub selected : (diagnosis_of c).period.connected ≡ min w.selected 4
  pub dominant : (diagnosis_of c).dominant ≡ min w.dominant 8
  pub slots : (diagnosis_of c).period.slots ≡ w.slots
  -- a period has no more slots than the divider
  pub within : w.slots < divider (control c)

-- ---- a wire that stands still

-- a slot in which no other rule speaks: no transmission comparison, no eight dominant samples, no pulse, no RI
pub record Alone (c : Controller) (w : Wires) (levels : ℕ) : Type 0 where
  pub taken : accepted c (Slot levels) ≡ true
  pub awake : is_asleep c.core.activity.mode ≡ false
  pub uncompared : compares_transmission (control c) ≡ false
  pub below_eight : (watched_in c w levels).dominant < 8
  pub goes_on : ends_period (control c) w ≡ false
  pub no_return : both (is_active c.core.activity.mode) (both (not (automatic (control c))) (ended c (sample_of c levels))) ≡ false

-- the condition, and what the automatic selection then listens to
pub record Degraded (c : Controller) (x : Condition) (input : ℕ) : Type 0 where
  pub condition : (diagnosis_of c).condition ≡ x
  pub listens : automatic (control c) ≡ true → (levels : ℕ) → sample_of c levels ≡ input_level (levels_of c levels) input

-- "If four edges are detected on one input and no edges on the other during the same period, the second input is considered faulty": in the slot of the fourth edge, and in each
-- further one
pub record Finds (c : Controller) (w : Wires) (levels : ℕ) : Type 0 where
  pub fault_on_data : Alone c w levels → 4 ≤ (watched_in c w levels).rxd2 → (watched_in c w levels).rxd1 ≡ 0 → Degraded (next c (Slot levels)) DegradedOnDataBar 2
  pub fault_on_data_bar : Alone c w levels → 4 ≤ (watched_in c w levels).rxd1 → (watched_in c w levels).rxd2 ≡ 0 → Degraded (next c (Slot levels)) DegradedOnData 1

abbrev pub FindsIn : Controller → Wires → Event → Type 0
FindsIn c w Reset = Unit {0}
FindsIn c w (Write address value) = Unit {0}
FindsIn c w (Read address) = Unit {0}
FindsIn c w (Slot levels) = Finds c w levels

abbrev pub DiagnosisOver : Controller → Wires → List Event → Type 0
DiagnosisOver c w [] = Counts c w
DiagnosisOver c w (e ∷ es) = Counts c w × FindsIn c w e × DiagnosisOver (next c e) (next_w c w e) es

-- ---- it stays nominal

-- all three inputs have the same level
pub data Equal : ℕ → Type 0 where
  dominant : Equal 0b000
  recessive : Equal 0b111

-- an event that gives no reason for a failure: equal levels, no eight dominant samples in a row, four edges in the period that a pulse ends
pub record CalmSlot (c : Controller) (w : Wires) (levels : ℕ) : Type 0 where
  pub equal : Equal (levels_of c levels)
  pub below_eight : (watched_in c w levels).dominant < 8
  pub edges : ends_period (control c) w ≡ true → 4 ≤ (watched_in c w levels).selected

abbrev pub Calm : Controller → Wires → Event → Type 0
Calm c w Reset = Unit {0}
Calm c w (Write address value) = accepted c (Write address value) ≡ true → both (eqb address command) (asks_pulse (value % 256)) ≡ true → 4 ≤ w.selected
Calm c w (Read address) = Unit {0}
Calm c w (Slot levels) = accepted c (Slot levels) ≡ true → is_asleep c.core.activity.mode ≡ false → CalmSlot c w levels

-- Sa, Sb and Sc are 0
pub record Sound (c : Controller) : Type 0 where
  pub condition : (diagnosis_of c).condition ≡ Nominal
  pub sc : (diagnosis_of c).sc ≡ false

-- as long as every event is calm
abbrev pub NominalOver : Controller → Wires → List Event → Type 0
NominalOver c w [] = Sound c
NominalOver c w (e ∷ es) = Sound c × (Calm c w e → NominalOver (next c e) (next_w c w e) es)

-- the claim, entire
pub record Diagnosed : Type 0 where
  pub every : (es : List Event) → DiagnosisOver fresh new_wires es
  pub nominal : (es : List Event) → NominalOver fresh new_wires es
