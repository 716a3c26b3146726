-- The three-wire diagnosis over every list of events.
use Prim.Native.Nat.{ℕ, ◌%◌, ◌≤◌}
use mathlib.Core.Bool.{Bool, true, false, not, false≢true}
use mathlib.Core.List.{List, [], ◌∷◌}
use mathlib.Core.Path.{◌≡◌, refl, sym, ap, subst, ◌∙◌}
use native.Mathlib.Omega.{arith}
use borrow.Author.Tests.{eqb-true, eqb-false}
use lib.Dec.{eqb}
use lib.ListN.{get_or}
use Rattle.line.specs.Bits.{pick}
use Rattle.diagnosis.specs.Control.{rate}
use Rattle.diagnosis.specs.Rules.{new_period, undiagnosed, pulsed, renewed, diagnosed}
use Rattle.diagnosis.proofs.Findings.{divider_positive}
use Rattle.diagnosis.specs.declared.Diagnosis.{Diagnosis}
use Rattle.rules.specs.Definitions.Registers.{both, either, diagnosis_control, command, asks_pulse}
use Rattle.rules.specs.Definitions.Channels.{base}
use Rattle.rules.specs.Definitions.State.{is_active, is_asleep, reset_core, slept}
use Rattle.rules.specs.Definitions.Slots.{levels_of, sample_of, ended, active_slot, resting_slot}
use Rattle.rules.specs.Definitions.Host.{reset_all, resets, sleeps, kept_byte, diagnosis_written, byte_written, host_written}
use Rattle.rules.specs.Definitions.Run.{fresh, answered, rested_slot, next}
use Rattle.every_run.specs.Tally.{none}
use Rattle.every_run.specs.Observer.{accepted}
use Rattle.every_run.specs.Wires.{Wires, new_wires, renewed_w, ticked_w, anew_by, control, watched_in, follow_w, next_w, diagnosis_of, Counts, FindsIn, DiagnosisOver, recessive, CalmSlot, Calm, Sound, NominalOver, Diagnosed}
use Rattle.every_run.proofs.Steps.{Step, refusal, reset, wrote, gave, went, rested, step_of, active_is, resting_is, refused_next, refused_not, accepted_next, accepted_so}
use Rattle.every_run.proofs.Ranges.Counting.{control_slot, kept_other, kept_same, address_small}
use Rattle.every_run.proofs.OwnFrames.EveryRun.{ended_elsewhere}
use Rattle.every_run.proofs.Wires.Counted.{Same, same_slot, same_renewed, same_pulsed, same_rate}
use Rattle.every_run.proofs.Wires.Found.{active_diagnosis, resting_diagnosis, slot_finds}
use Rattle.every_run.proofs.Wires.Nominal.{Calmed, calm_slot, calm_renewed, calm_pulsed}
use Rattle.rules.specs.declared.Mode.{Mode}
use Rattle.rules.specs.declared.Mode.TheVariants.{Idle, Active, Asleep}
use Rattle.rules.specs.declared.Controller.{Controller}
use Rattle.rules.specs.declared.Event.{Event}
use Rattle.rules.specs.declared.Event.TheVariants.{Reset, Write, Read, Slot}

-- ---- controller and record belong together; calm: the run so far gave no reason for a failure

record Kept (k : ℕ) (x : Diagnosis) (w : Wires) (calm : Bool) : Type 0 where
  same : Same k x w
  calmed : calm ≡ true → Calmed x w

abbrev KeptIn : Controller → Wires → Bool → Type 0
KeptIn c w calm = Kept (control c) (diagnosis_of c) w calm

counts_of : (c : Controller) (w : Wires) {calm : Bool} → KeptIn c w calm → Counts c w
counts_of c w k =
    let s = k.same in
    record { levels = s.levels; rxd1 = s.rxd1; rxd2 = s.rxd2; selected = s.selected; dominant = s.dominant; slots = s.slots; within = s.within }

sound_of : (c : Controller) (w : Wires) → KeptIn c w true → Sound c
sound_of c w k = let q = k.calmed refl in record { condition = q.condition; sc = q.sc }

-- ---- reset

reset_kept : (c : Controller) (calm : Bool) → KeptIn (reset_all c) new_wires calm
unfolding reset_all reset_core undiagnosed new_period new_wires
reset_kept c calm =
    record {
      same = record { levels = refl; rxd1 = refl; rxd2 = refl; selected = refl; dominant = refl; slots = refl; within = divider_positive _ };
      calmed = λ e. record { condition = refl; sc = refl; failure = refl; rxd1 = refl; rxd2 = refl; equal = recessive };
    }

-- ---- a slot: what the diagnosis is after it

module _ (c : Controller) (w : Wires) (calm : Bool) (l : ℕ) (k : KeptIn c w calm) (q : calm ≡ true → CalmSlot c w l) where
  counted : (turns e : Bool) → Kept (control c) (diagnosed (control c) (levels_of c l) turns e (diagnosis_of c)) (ticked_w (control c) (watched_in c w l)) calm
  counted turns e =
      record {
        same = same_slot (control c) (levels_of c l) turns e (diagnosis_of c) w k.same;
        calmed = λ h. calm_slot (control c) (levels_of c l) turns e (diagnosis_of c) w k.same (k.calmed h) (q h).equal (q h).below_eight (q h).edges;
      }

  active_kept : KeptIn (active_slot c l) (ticked_w (control c) (watched_in c w l)) calm
  active_kept =
      subst (λ (n : ℕ). Kept n (active_slot c l).core.diagnosis (ticked_w (control c) (watched_in c w l)) calm)
      (sym (ap (λ (d : Controller). control d) (active_is c l) ∙ control_slot diagnosis_control (omega arith) c (sample_of c l)))
      (active_diagnosis c l (λ (d : Diagnosis). Kept (control c) d (ticked_w (control c) (watched_in c w l)) calm) (λ turns. counted turns (ended c (sample_of c l))))

  resting_kept : is_asleep c.core.activity.mode ≡ false → KeptIn (resting_slot c l) (ticked_w (control c) (watched_in c w l)) calm
  resting_kept e =
      subst (λ (n : ℕ). Kept n (resting_slot c l).core.diagnosis (ticked_w (control c) (watched_in c w l)) calm)
      (sym (ap (λ (d : Controller). control d) (resting_is c l)))
      (resting_diagnosis c l (λ (d : Diagnosis). Kept (control c) d (ticked_w (control c) (watched_in c w l)) calm) e (counted false false))

-- asleep nothing moves
asleep_kept : (c : Controller) (w : Wires) (calm : Bool) (l : ℕ) → is_asleep c.core.activity.mode ≡ true → KeptIn c w calm → KeptIn (resting_slot c l) w calm
unfolding resting_slot
asleep_kept c w calm l e k = rw e k

-- ---- a write

either_first : (a b : Bool) → a ≡ true → either a b ≡ true
either_first true b e = refl
either_first false b e = absurd (false≢true e)

module _ (m : List ℕ) (a v : ℕ) (small : a ≤ 255) (x : Diagnosis) (w : Wires) (calm : Bool) (k : Kept (get_or m diagnosis_control 0) x w calm)
    (q : calm ≡ true → both (eqb a command) (asks_pulse v) ≡ true → 4 ≤ w.selected) where
  abbrev now : ℕ
  now = get_or m diagnosis_control 0

  abbrev Left : Diagnosis → Wires → Type 0
  Left y u = Kept (get_or (kept_byte m a v) diagnosis_control 0) y u calm

  elsewhere : {y : Diagnosis} {u : Wires} → (a ≡ diagnosis_control → ⊥) → Kept now y u calm → Left y u
  elsewhere {y} {u} n h = subst (λ (j : ℕ). Kept j y u calm) (sym (kept_other m a v small n)) h

  hand : both (eqb a command) (asks_pulse v) ≡ true → Kept now (pulsed now x) (renewed_w w) calm
  hand e = record { same = same_pulsed now x w k.same; calmed = λ h. calm_pulsed now x w k.same (q h e) (k.calmed h) }

  anew : (j : ℕ) → Kept j (renewed x) (renewed_w w) calm
  anew j = record { same = same_renewed now j x w (divider_positive j) k.same; calmed = λ h. calm_renewed x w (k.calmed h) }

  same_bits : rate now ≡ rate v → Kept v x w calm
  same_bits e = record { same = same_rate now v x w e k.same; calmed = k.calmed }

  written_in : (p : Bool) → eqb a command ≡ p → (r : Bool) → eqb a diagnosis_control ≡ r → (t : Bool) → asks_pulse v ≡ t → (u : Bool) → eqb (rate now) (rate v) ≡ u
      → Left (pick p (pick t (pulsed now x) x) (pick r (pick u x (renewed x)) x)) (pick (either (both p t) (both r (not u))) (renewed_w w) w)
  written_in true e true d t i u j = absurd (let y = eqb-true a command e in let z = eqb-true a diagnosis_control d in omega arith)
  written_in true e false d true i u j = elsewhere (eqb-false a diagnosis_control d) (hand (rw (e, i)))
  written_in true e false d false i u j = elsewhere (eqb-false a diagnosis_control d) k
  written_in false e true d t i true j =
      kept_same m a v small (λ (n : ℕ). Kept n x w calm) (eqb-true a diagnosis_control d) (same_bits (eqb-true (rate now) (rate v) j)) k
  written_in false e true d t i false j = anew _
  written_in false e false d t i u j = elsewhere (eqb-false a diagnosis_control d) k

  written_kept : Left (diagnosis_written m x a v) (pick (anew_by m a v) (renewed_w w) w)
  unfolding diagnosis_written anew_by
  written_kept = written_in (eqb a command) refl (eqb a diagnosis_control) refl (asks_pulse v) refl (eqb (rate now) (rate v)) refl

module _ (c : Controller) (w : Wires) (calm : Bool) (a v : ℕ) (small : a ≤ 255) (k : KeptIn c w calm) (q : calm ≡ true → both (eqb a command) (asks_pulse v) ≡ true → 4 ≤ w.selected) where
  byte_kept : KeptIn (byte_written c a v) (pick (anew_by c.memory a v) (renewed_w w) w) calm
  unfolding byte_written
  byte_kept =
      subst (λ (n : ℕ). Kept n (diagnosis_written c.memory (diagnosis_of c) a v) (pick (anew_by c.memory a v) (renewed_w w) w) calm)
      (sym (ended_elsewhere _ (kept_byte c.memory a v) c.core.service.channel diagnosis_control (λ e. unfold base in omega arith)))
      (written_kept c.memory a v small (diagnosis_of c) w calm k q)

  host_kept : KeptIn (host_written c a v) (pick (resets a v) new_wires (pick (sleeps a v) w (pick (anew_by c.memory a v) (renewed_w w) w))) calm
  unfolding host_written
  host_kept = go (resets a v) (sleeps a v)
    where
      go : (x y : Bool) → KeptIn (pick x (reset_all c) (pick y (record { memory = c.memory; core = slept c.core }) (byte_written c a v))) (pick x new_wires (pick y w (pick (anew_by c.memory a v) (renewed_w w) w))) calm
      go true y = reset_kept c calm
      go false true = unfold slept in k
      go false false = byte_kept

-- ---- every event

not_asleep : (m : Mode) → is_active m ≡ true → is_asleep m ≡ false
unfolding is_active is_asleep
not_asleep Idle e = refl
not_asleep Active e = refl
not_asleep Asleep e = absurd (false≢true e)

module _ (c : Controller) (w : Wires) (calm : Bool) (k : KeptIn c w calm) where
  moved : (e : Event) (d : Controller) (u : Wires) → next c e ≡ d → next_w c w e ≡ u → KeptIn d u calm → KeptIn (next c e) (next_w c w e) calm
  moved e d u n m h = rw (n, m) h

  followed : (e : Event) → accepted c e ≡ true → next_w c w e ≡ follow_w c w e
  unfolding next_w
  followed e y = rw y

  refused : (e : Event) → accepted c e ≡ false → next_w c w e ≡ w
  unfolding next_w
  refused e y = rw y

  slot_follows : (l : ℕ) → is_asleep c.core.activity.mode ≡ false → follow_w c w (Slot l) ≡ ticked_w (control c) (watched_in c w l)
  unfolding follow_w
  slot_follows l e = rw e

  sleep_follows : (l : ℕ) → is_asleep c.core.activity.mode ≡ true → follow_w c w (Slot l) ≡ w
  unfolding follow_w
  sleep_follows l e = rw e

  abbrev written : ℕ → ℕ → Wires
  written a v = pick (resets a v) new_wires (pick (sleeps a v) w (pick (anew_by c.memory a v) (renewed_w w) w))

  kept_step : (e : Event) → (calm ≡ true → Calm c w e) → Step c e → KeptIn (next c e) (next_w c w e) calm
  kept_step e q (refusal why h) = moved e c w (refused_next c none e why h) (refused e (refused_not c none e why h)) k
  kept_step Reset q (reset h) =
      moved Reset (reset_all c) new_wires (accepted_next c none Reset 0 (reset_all c) h) (followed Reset (accepted_so c none Reset 0 (reset_all c) h) ∙ unfold follow_w in refl) (reset_kept c calm)
  kept_step (Write a v) q (wrote h) =
      let d : Controller = host_written c a (v % 256) in
      let y : accepted c (Write a v) ≡ true = accepted_so c none (Write a v) 0 d h in
      moved (Write a v) d (written a (v % 256)) (accepted_next c none (Write a v) 0 d h) (followed (Write a v) y ∙ unfold follow_w in refl)
      (host_kept c w calm a (v % 256) (address_small c a v d h) k (λ e p. q e y p))
  kept_step (Read a) q (gave value h) = moved (Read a) c w (accepted_next c none (Read a) value c h) (followed (Read a) (accepted_so c none (Read a) value c h) ∙ unfold follow_w in refl) k
  kept_step (Slot l) q (went b h) =
      let d : Controller = active_slot c l in
      let n : next c (Slot l) ≡ d = unfold answered in accepted_next c none (Slot l) _ d h in
      let y : accepted c (Slot l) ≡ true = unfold answered in accepted_so c none (Slot l) _ d h in
      let awake : is_asleep c.core.activity.mode ≡ false = not_asleep c.core.activity.mode b in
      moved (Slot l) d (ticked_w (control c) (watched_in c w l)) n (followed (Slot l) y ∙ slot_follows l awake) (active_kept c w calm l k (λ e. q e y awake))
  kept_step (Slot l) q (rested b h) =
      let d : Controller = resting_slot c l in
      let n : next c (Slot l) ≡ d = unfold rested_slot in accepted_next c none (Slot l) _ d h in
      let y : accepted c (Slot l) ≡ true = unfold rested_slot in accepted_so c none (Slot l) _ d h in
      go (is_asleep c.core.activity.mode) refl d n y (λ e. resting_kept c w calm l k (λ z. q z y e) e) (λ e. asleep_kept c w calm l e k)
    where
      go : (x : Bool) → is_asleep c.core.activity.mode ≡ x → (d : Controller) → next c (Slot l) ≡ d → accepted c (Slot l) ≡ true
          → (is_asleep c.core.activity.mode ≡ false → KeptIn d (ticked_w (control c) (watched_in c w l)) calm) → (is_asleep c.core.activity.mode ≡ true → KeptIn d w calm)
          → KeptIn (next c (Slot l)) (next_w c w (Slot l)) calm
      go true e d n y awake asleep = moved (Slot l) d w n (followed (Slot l) y ∙ sleep_follows l e) (asleep e)
      go false e d n y awake asleep = moved (Slot l) d (ticked_w (control c) (watched_in c w l)) n (followed (Slot l) y ∙ slot_follows l e) (awake e)

  kept_next : (e : Event) → (calm ≡ true → Calm c w e) → KeptIn (next c e) (next_w c w e) calm
  kept_next e q = kept_step e q (step_of c e)

  finds_in : (e : Event) → FindsIn c w e
  finds_in Reset = tt
  finds_in (Write a v) = tt
  finds_in (Read a) = tt
  finds_in (Slot l) = slot_finds c w l (counts_of c w k) (step_of c (Slot l))

diagnosis_from : (c : Controller) (w : Wires) → KeptIn c w false → (es : List Event) → DiagnosisOver c w es
diagnosis_from c w k [] = counts_of c w k
diagnosis_from c w k (e ∷ es) = (counts_of c w k, finds_in c w false k e, diagnosis_from (next c e) (next_w c w e) (kept_next c w false k e (λ h. absurd (false≢true h))) es)

nominal_from : (c : Controller) (w : Wires) → KeptIn c w true → (es : List Event) → NominalOver c w es
nominal_from c w k [] = sound_of c w k
nominal_from c w k (e ∷ es) = (sound_of c w k, λ q. nominal_from (next c e) (next_w c w e) (kept_next c w true k e (λ h. q)) es)

fresh_kept : (calm : Bool) → KeptIn fresh new_wires calm
unfolding fresh
fresh_kept calm = reset_kept _ calm

pub diagnosed_every : Diagnosed
diagnosed_every = record { every = diagnosis_from fresh new_wires (fresh_kept false); nominal = nominal_from fresh new_wires (fresh_kept true) }
