-- An event is refused, and changes nothing; or it is accepted, and the controller after it is known.
use Prim.Native.Nat.{ℕ, ◌%◌}
use mathlib.Core.Bool.{Bool, true, false}
use mathlib.Core.List.{List, [], ◌∷◌}
use mathlib.Core.Path.{◌≡◌, refl, ap, ◌∙◌}
use lib.Dec.{eqb}
use Rattle.line.specs.Bits.{pick}
use Rattle.line.proofs.Laws.{picked}
use Rattle.diagnosis.specs.declared.Diagnosis.{Diagnosis}
use Rattle.rules.specs.Definitions.Setters.{with_diagnosis}
use Rattle.rules.specs.Definitions.State.{is_active, is_asleep}
use Rattle.rules.specs.Definitions.Slots.{sample_of, sampled_slot, diagnosed_slot, active_slot, resting_slot}
use Rattle.rules.specs.Definitions.Answers.{number}
use Rattle.rules.specs.Definitions.Host.{reset_all, host_written, byte_read}
use Rattle.rules.specs.Definitions.Run.{refuse, accept, unless_refused, pin_reset, host_write, host_read, answered, rested_slot, slot, step, next}
use Rattle.every_run.specs.Tally.{Tally}
use Rattle.every_run.specs.Observer.{accepted}
use Rattle.every_run.proofs.Sending.Beside.{seen_in, follow_t, seen_t, next_t}
use Rattle.rules.specs.declared.Controller.{Controller}
use Rattle.rules.specs.declared.Answer.{Answer}
use Rattle.rules.specs.declared.Refusal.{Refusal}
use Rattle.rules.specs.declared.Refusal.TheVariants.{Address, Value, Unwritable, Unreadable, Levels, Range, Asleep, FixedBits}
use Rattle.rules.specs.declared.Event.{Event}
use Rattle.rules.specs.declared.Event.TheVariants.{Reset, Write, Read, Slot}

-- ---- the answer of a call is one of its refusals, or that of the accepted call

pub data Call (c : Controller) (a x : Answer) : Type 0 where
  refused : (why : Refusal) → x ≡ refuse c why → Call c a x
  taken : x ≡ a → Call c a x

pub call_of : (c : Controller) (rs : List (Bool × Refusal)) (a : Answer) → Call c a (unless_refused c rs a)
unfolding unless_refused
call_of c [] a = taken refl
call_of c (r ∷ rs) a =
    picked (Call c a) r.0 (refuse c r.1) (unless_refused c rs a) (λ e. refused r.1 refl) (λ e. call_of c rs a)

-- a refusal's number is not zero
not_zero : (why : Refusal) → eqb (number why) 0 ≡ false
unfolding number
not_zero Address = refl
not_zero Value = refl
not_zero Unwritable = refl
not_zero Unreadable = refl
not_zero Levels = refl
not_zero Range = refl
not_zero Asleep = refl
not_zero FixedBits = refl

-- ---- so is an event

pub data Step (c : Controller) : Event → Type 0 where
  refusal : {e : Event} (why : Refusal) → step c e ≡ refuse c why → Step c e
  reset : step c Reset ≡ accept 0 (reset_all c) → Step c Reset
  wrote : {a v : ℕ} → step c (Write a v) ≡ accept 0 (host_written c a (v % 256)) → Step c (Write a v)
  gave : {a : ℕ} (value : ℕ) → step c (Read a) ≡ accept value c → Step c (Read a)
  went : {l : ℕ} → is_active c.core.activity.mode ≡ true → step c (Slot l) ≡ answered (active_slot c l) → Step c (Slot l)
  rested : {l : ℕ} → is_active c.core.activity.mode ≡ false → step c (Slot l) ≡ rested_slot (resting_slot c l) → Step c (Slot l)

module _ (c : Controller) where
  step_called : (e : Event) (a : Answer) → (step c e ≡ a → Step c e) → Call c a (step c e) → Step c e
  step_called e a yes' (refused why h) = refusal {e = e} why h
  step_called e a yes' (taken h) = yes' h

  reset_step : Step c Reset
  reset_step = step_called Reset (accept 0 (reset_all c)) reset (unfold step pin_reset in call_of c _ _)

  write_step : (a v : ℕ) → Step c (Write a v)
  write_step a v = step_called (Write a v) (accept 0 (host_written c a (v % 256))) (λ h. wrote {a = a} {v = v} h) (unfold step host_write in call_of c _ _)

  read_step : (a : ℕ) → Step c (Read a)
  read_step a = step_called (Read a) (accept (byte_read c a) c) (λ h. gave {a = a} (byte_read c a) h) (unfold step host_read in call_of c _ _)

  slot_step : (l : ℕ) → Step c (Slot l)
  slot_step l = step_called (Slot l) (pick (is_active c.core.activity.mode) (answered (active_slot c l)) (rested_slot (resting_slot c l))) (go (is_active c.core.activity.mode) refl) (unfold step slot in call_of c _ _)
    where
      go : (a : Bool) → is_active c.core.activity.mode ≡ a → step c (Slot l) ≡ pick a (answered (active_slot c l)) (rested_slot (resting_slot c l)) → Step c (Slot l)
      go true e h = went {l = l} e h
      go false e h = rested {l = l} e h

  pub step_of : (e : Event) → Step c e
  step_of Reset = reset_step
  step_of (Write a v) = write_step a v
  step_of (Read a) = read_step a
  step_of (Slot l) = slot_step l

-- ---- an active slot: what the sample does, and the diagnosis beside it

abbrev pub with_diagnosis_c : Controller → Diagnosis → Controller
with_diagnosis_c d x = record { memory = d.memory; core = with_diagnosis d.core x }

pub active_is : (c : Controller) (l : ℕ) → active_slot c l ≡ with_diagnosis_c (sampled_slot c (sample_of c l)) (active_slot c l).core.diagnosis
unfolding active_slot diagnosed_slot
active_is c l = refl

-- ---- a slot with no sample: nothing changes but the diagnosis, and asleep not even that

pub resting_cases : (P : Controller → Type 0) (c : Controller) (l : ℕ) → P c → P (diagnosed_slot c l c false false) → P (resting_slot c l)
unfolding resting_slot
resting_cases P c l x y = picked P (is_asleep c.core.activity.mode) c (diagnosed_slot c l c false false) (λ e. x) (λ e. y)

pub resting_is : (c : Controller) (l : ℕ) → resting_slot c l ≡ with_diagnosis_c c (resting_slot c l).core.diagnosis
unfolding diagnosed_slot
resting_is c l = resting_cases (λ (d : Controller). d ≡ with_diagnosis_c c d.core.diagnosis) c l refl refl

-- ---- the tally over each

module _ (c : Controller) (t : Tally) where
  pub refused_next : (e : Event) (why : Refusal) → step c e ≡ refuse c why → next c e ≡ c
  unfolding next refuse
  refused_next e why h = ap (λ (x : Answer). x.next) h

  pub refused_not : (e : Event) (why : Refusal) → step c e ≡ refuse c why → accepted c e ≡ false
  unfolding accepted refuse
  refused_not e why h = rw h (not_zero why)

  pub refused_seen : (e : Event) (why : Refusal) → step c e ≡ refuse c why → seen_t c t e ≡ t
  unfolding seen_t
  refused_seen e why h = rw (refused_not e why h)

  pub refused_tally : (e : Event) (why : Refusal) → step c e ≡ refuse c why → next_t c t e ≡ t
  unfolding next_t
  refused_tally e why h = rw (refused_not e why h)

  pub accepted_so : (e : Event) (value : ℕ) (d : Controller) → step c e ≡ accept value d → accepted c e ≡ true
  unfolding accepted accept
  accepted_so e value d h = rw h

  pub accepted_next : (e : Event) (value : ℕ) (d : Controller) → step c e ≡ accept value d → next c e ≡ d
  unfolding next accept
  accepted_next e value d h = ap (λ (x : Answer). x.next) h

  -- an active slot, and one with no sample
  pub went_next : (l : ℕ) → step c (Slot l) ≡ answered (active_slot c l) → next c (Slot l) ≡ with_diagnosis_c (sampled_slot c (sample_of c l)) (active_slot c l).core.diagnosis
  unfolding answered
  went_next l h =
      let n : next c (Slot l) ≡ active_slot c l = accepted_next (Slot l) _ (active_slot c l) h in
      n ∙ active_is c l

  pub rested_next : (l : ℕ) → step c (Slot l) ≡ rested_slot (resting_slot c l) → next c (Slot l) ≡ with_diagnosis_c c (resting_slot c l).core.diagnosis
  unfolding rested_slot
  rested_next l h =
      let n : next c (Slot l) ≡ resting_slot c l = accepted_next (Slot l) _ (resting_slot c l) h in
      n ∙ resting_is c l

  pub accepted_seen : (e : Event) (value : ℕ) (d : Controller) → step c e ≡ accept value d → seen_t c t e ≡ seen_in c t e
  unfolding seen_t
  accepted_seen e value d h = rw (accepted_so e value d h)

  pub accepted_tally : (e : Event) (value : ℕ) (d : Controller) → step c e ≡ accept value d → next_t c t e ≡ follow_t c t e
  unfolding next_t
  accepted_tally e value d h = rw (accepted_so e value d h)
