-- The diagnosis of every reached controller counts within its period (02, Req 05: "6 also covers a counter beyond its period"); so no reached controller is refused with number 6.
--   Counting == what every reached controller keeps        counting_next, counting_after == it is kept        never_six == every number is in range, and never_refused_six
--   control_slot == no slot changes a control register
use Prim.Native.Nat.{ℕ, zero, suc, ◌+◌, ◌-◌, ◌%◌, ◌≤◌, ◌<◌}
use mathlib.Core.Bool.{Bool, true, false, not}
use mathlib.Core.List.{List, [], ◌∷◌}
use mathlib.Core.Path.{◌≡◌, refl, sym, ap, subst, ◌∙◌}
use native.Mathlib.Omega.{arith}
use native.Mathlib.Nat.{mod-eq_of_lt}
use borrow.Author.Tests.{ltb-false, eqb-true, eqb-false}
use lib.Dec.{eqb, ltb}
use lib.ListN.{get_or, set}
use lib.Seq.{get_or-set_other}
use Rattle.line.specs.Bits.{pick}
use Rattle.line.proofs.Laws.{picked}
use Rattle.diagnosis.specs.Control.{rate}
use Rattle.diagnosis.specs.Rules.{pulsed, renewed}
use Rattle.diagnosis.proofs.Limits as diagnosis
use Rattle.diagnosis.specs.declared.Diagnosis.{Diagnosis}
use Rattle.diagnosis.proofs.Limits.{diagnosed_limits, pulsed_limits, renewed_limits, undiagnosed_limits, rate_limits}
use Rattle.rules.specs.Definitions.Registers.{diagnosis_control, command, line_control, write_only, inverts_receive, received, asks_pulse}
use Rattle.rules.specs.Definitions.Channels.{base}
use Rattle.rules.specs.Definitions.Mailbox.{mailbox_at, laid_from, stored, retagged, marked_cher, marked_chrx}
use Rattle.rules.specs.Definitions.Reception.{data_count}
use Rattle.rules.specs.Definitions.Delivery.{memory_stored, memory_delivered}
use Rattle.rules.specs.Definitions.State.{in_range, is_asleep, reset_core, slept}
use Rattle.rules.specs.Definitions.Slots.{role_in, delivers, ending, memory_judged, levels_of, sample_of, judged_slot, sampled_slot, diagnosis_after, diagnosed_slot, active_slot, resting_slot}
use Rattle.rules.specs.Definitions.Host.{reset_all, resets, sleeps, kept_byte, diagnosis_written, byte_written, host_written, access_refusals}
use Rattle.rules.specs.Definitions.Answers.{number}
use Rattle.rules.specs.Definitions.Run.{fresh, refuse, accept, unless_refused, host_write, answered, rested_slot, step, next, after}
use Rattle.every_run.specs.Tally.{none}
use Rattle.every_run.proofs.Steps.{Step, refusal, reset, wrote, gave, went, rested, step_of, resting_cases, refused_next, accepted_next}
use Rattle.every_run.proofs.Ranges.Limits.{Fine, limits_in_range}
use Rattle.every_run.proofs.Ranges.Reach.{fine_after, in_range_other}
use Rattle.every_run.proofs.OwnFrames.EveryRun.{ended_elsewhere, replied_elsewhere}
use Rattle.rules.specs.declared.Reception.{Reception}
use Rattle.rules.specs.declared.Hearing.{Hearing}
use Rattle.rules.specs.declared.Delivery.{Delivery}
use Rattle.rules.specs.declared.Delivery.TheVariants as delivery
use Rattle.rules.specs.declared.Verdict.{Verdict}
use Rattle.rules.specs.declared.Core.{Core}
use Rattle.rules.specs.declared.Controller.{Controller}
use Rattle.rules.specs.declared.Answer.{Answer}
use Rattle.rules.specs.declared.Refusal.TheVariants.{Range, Asleep, Address}
use Rattle.rules.specs.declared.Event.{Event}
use Rattle.rules.specs.declared.Event.TheVariants.{Reset, Write, Read, Slot}

-- ---- no slot changes a control register

module _ (a : ℕ) (low : a < 16) where
  control_laid : (bs m : List ℕ) (p k : ℕ) → get_or (laid_from m p k bs) a 0 ≡ get_or m a 0
  unfolding laid_from mailbox_at
  control_laid [] m p k = refl
  control_laid (b ∷ bs) m p k = control_laid bs (set m (mailbox_at p k) b) p (k + 1) ∙ get_or-set_other m (mailbox_at p k) a b 0 (λ e. omega arith)

  control_chrx : (m : List ℕ) (c : ℕ) → get_or (marked_chrx m c) a 0 ≡ get_or m a 0
  unfolding marked_chrx base
  control_chrx m c = get_or-set_other m (base c + 3) a _ 0 (λ e. omega arith)

  control_tag : (m : List ℕ) (c x y : ℕ) → get_or (retagged m c x y) a 0 ≡ get_or m a 0
  unfolding retagged base
  control_tag m c x y = get_or-set_other (set m (base c) x) (base c + 1) a _ 0 (λ e. omega arith) ∙ get_or-set_other m (base c) a x 0 (λ e. omega arith)

  control_stored : (m : List ℕ) (r : Reception) → get_or (memory_stored m r) a 0 ≡ get_or m a 0
  unfolding memory_stored stored
  control_stored m r =
      control_chrx (retagged _ r.winner.channel (get_or r.bytes 0 0) (get_or r.bytes 1 0)) r.winner.channel
      ∙ control_tag (stored m r.winner.pointer r.winner.length r.bytes (data_count r.nibbles)) r.winner.channel (get_or r.bytes 0 0) (get_or r.bytes 1 0)
      ∙ control_laid _ m r.winner.pointer 0

  control_cher : (m : List ℕ) (c : ℕ) → get_or (marked_cher m c) a 0 ≡ get_or m a 0
  unfolding marked_cher base
  control_cher m c = get_or-set_other m (base c + 3) a _ 0 (λ e. omega arith)

  control_delivered : (d : Delivery) (m : List ℕ) (r : Reception) → get_or (memory_delivered d m r) a 0 ≡ get_or m a 0
  unfolding memory_delivered
  control_delivered delivery.Nothing m r = refl
  control_delivered delivery.Stored m r = control_stored m r
  control_delivered delivery.Overflowed m r = control_cher m r.winner.channel
  control_delivered delivery.Spoiled m r = control_cher m r.winner.channel

  control_judged : (m : List ℕ) (k : Core) (w q : Verdict) (h : Hearing) → get_or (memory_judged m k w q h) a 0 ≡ get_or m a 0
  unfolding memory_judged
  control_judged m k w q h =
      replied_elsewhere q _ k.reply.channel a (λ e. unfold base in omega arith)
      ∙ ended_elsewhere (ending k w h) _ k.service.channel a (λ e. unfold base in omega arith)
      ∙ control_delivered (delivers (role_in k) h k.reception) m k.reception

  pub control_slot : (c : Controller) (v : ℕ) → get_or (sampled_slot c v).memory a 0 ≡ get_or c.memory a 0
  unfolding sampled_slot judged_slot
  control_slot c v = control_judged c.memory c.core _ _ _

-- ---- what is kept

pub Counting : Controller → Type 0
Counting c = diagnosis.Limits (get_or c.memory diagnosis_control 0) c.core.diagnosis

levels_small : (c : Controller) (l : ℕ) → levels_of c l ≤ 7
unfolding levels_of received
levels_small c l =
    picked (λ (x : ℕ). x ≤ 7) (inverts_receive (get_or c.memory line_control 0)) (7 - l % 8) (l % 8) (λ e. omega arith) (λ e. omega arith)

active_counting : (c : Controller) (l : ℕ) → Counting c → Counting (active_slot c l)
unfolding Counting active_slot diagnosed_slot diagnosis_after
active_counting c l k =
    subst (λ (control : ℕ). diagnosis.Limits control (active_slot c l).core.diagnosis) (sym (control_slot diagnosis_control (omega arith) c (sample_of c l)))
    (diagnosed_limits (get_or c.memory diagnosis_control 0) (levels_of c l) _ _ c.core.diagnosis (levels_small c l) k)

resting_counting : (c : Controller) (l : ℕ) → Counting c → Counting (resting_slot c l)
unfolding Counting diagnosed_slot diagnosis_after
resting_counting c l k =
    resting_cases Counting c l k (diagnosed_limits (get_or c.memory diagnosis_control 0) (levels_of c l) false false c.core.diagnosis (levels_small c l) k)

reset_counting : (c : Controller) → Counting (reset_all c)
unfolding Counting reset_all reset_core
reset_counting c = undiagnosed_limits _

-- ---- a write

-- a byte that is set is the new one, or there is no such place
set_either : (P : ℕ → Type 0) (m : List ℕ) (i v : ℕ) → P v → P (get_or m i 0) → P (get_or (set m i v) i 0)
set_either P [] i v a b = b
set_either P (x ∷ m) zero v a b = a
set_either P (x ∷ m) (suc i) v a b = set_either P m i v a b

module _ (m : List ℕ) (a v : ℕ) (small : a ≤ 255) where
  abbrev now : ℕ
  now = get_or m diagnosis_control 0

  place : a % 256 ≡ a
  place = mod-eq_of_lt (omega arith)

  -- another address leaves 0x02
  pub kept_other : (a ≡ diagnosis_control → ⊥) → get_or (kept_byte m a v) diagnosis_control 0 ≡ now
  unfolding kept_byte
  kept_other n =
      picked (λ (x : List ℕ). get_or x diagnosis_control 0 ≡ now) (write_only a) m (set m (a % 256) v) (λ e. refl)
      (λ e. get_or-set_other m (a % 256) diagnosis_control v 0 (λ d. n (sym place ∙ sym d)))

  pub kept_same : (P : ℕ → Type 0) → a ≡ diagnosis_control → P v → P now → P (get_or (kept_byte m a v) diagnosis_control 0)
  unfolding kept_byte
  kept_same P e p q =
      picked (λ (x : List ℕ). P (get_or x diagnosis_control 0)) (write_only a) m (set m (a % 256) v) (λ d. q)
      (λ d. subst (λ (i : ℕ). P (get_or (set m i v) diagnosis_control 0)) (sym (place ∙ e)) (set_either P m diagnosis_control v p q))

  written_limits : (x : Diagnosis) → diagnosis.Limits now x → diagnosis.Limits (get_or (kept_byte m a v) diagnosis_control 0) (diagnosis_written m x a v)
  unfolding diagnosis_written
  written_limits x l =
      picked Q (eqb a command) (pick (asks_pulse v) (pulsed now x) x) _
      (λ e. there (λ d. omega (arith, eqb-true)) (picked (diagnosis.Limits now) (asks_pulse v) (pulsed now x) x (λ d. pulsed_limits now x l) (λ d. l)))
      (λ e. picked Q (eqb a diagnosis_control) (pick (eqb (rate now) (rate v)) x (renewed x)) x
      (λ d. picked Q (eqb (rate now) (rate v)) x (renewed x)
      (λ r. kept_same (λ (n : ℕ). diagnosis.Limits n x) (eqb-true a diagnosis_control d) (rate_limits now v x (eqb-true (rate now) (rate v) r) l) l)
      (λ r. renewed_limits _ now x l))
      (λ d. there (eqb-false a diagnosis_control d) l))
    where
      Q : Diagnosis → Type 0
      Q y = diagnosis.Limits (get_or (kept_byte m a v) diagnosis_control 0) y

      there : {y : Diagnosis} → (a ≡ diagnosis_control → ⊥) → diagnosis.Limits now y → Q y
      there {y} n l = subst (λ (control : ℕ). diagnosis.Limits control y) (sym (kept_other n)) l

byte_counting : (c : Controller) (a v : ℕ) → a ≤ 255 → Counting c → Counting (byte_written c a v)
unfolding Counting byte_written
byte_counting c a v h k =
    subst (λ (control : ℕ). diagnosis.Limits control (diagnosis_written c.memory c.core.diagnosis a v)) (sym (ended_elsewhere _ (kept_byte c.memory a v) c.core.service.channel diagnosis_control (λ e. unfold base in omega arith)))
    (written_limits c.memory a v h c.core.diagnosis k)

slept_counting : (c : Controller) → Counting c → Counting (record { memory = c.memory; core = slept c.core })
unfolding Counting slept
slept_counting c k = k

written_counting : (c : Controller) (a v : ℕ) → a ≤ 255 → Counting c → Counting (host_written c a v)
unfolding host_written
written_counting c a v h k =
    picked Counting (resets a v) (reset_all c) _ (λ e. reset_counting c)
    (λ e. picked Counting (sleeps a v) _ (byte_written c a v) (λ d. slept_counting c k) (λ d. byte_counting c a v h k))

-- an accepted write has an address of the map
not_refused : (c : Controller) (x y z : Bool) (rest : Answer) → (pick x (refuse c Range) (pick y (refuse c Asleep) (pick z (refuse c Address) rest))).refused ≡ 0 → z ≡ false
unfolding refuse number
not_refused c true y z rest h = absurd (omega arith)
not_refused c false true z rest h = absurd (omega arith)
not_refused c false false true rest h = absurd (omega arith)
not_refused c false false false rest h = refl

pub address_small : (c : Controller) (a v : ℕ) (d : Controller) → step c (Write a v) ≡ accept 0 d → a ≤ 255
unfolding step host_write unless_refused access_refusals accept
address_small c a v d e =
    ltb-false 255 a (not_refused c (not (in_range c)) (is_asleep c.core.activity.mode) (ltb 255 a) _ (ap (λ (x : Answer). x.refused) e))

-- ---- every event

counting_step : (c : Controller) (e : Event) → Counting c → Step c e → Counting (next c e)
counting_step c e k (refusal why h) = subst Counting (sym (refused_next c none e why h)) k
counting_step c Reset k (reset h) = subst Counting (sym (accepted_next c none Reset 0 (reset_all c) h)) (reset_counting c)
counting_step c (Write a v) k (wrote h) =
    subst Counting (sym (accepted_next c none (Write a v) 0 (host_written c a (v % 256)) h)) (written_counting c a (v % 256) (address_small c a v _ h) k)
counting_step c (Read a) k (gave value h) = subst Counting (sym (accepted_next c none (Read a) value c h)) k
counting_step c (Slot l) k (went a h) =
    let n : next c (Slot l) ≡ active_slot c l = unfold answered in accepted_next c none (Slot l) _ (active_slot c l) h in
    subst Counting (sym n) (active_counting c l k)
counting_step c (Slot l) k (rested a h) =
    let n : next c (Slot l) ≡ resting_slot c l = unfold rested_slot in accepted_next c none (Slot l) _ (resting_slot c l) h in
    subst Counting (sym n) (resting_counting c l k)

pub counting_next : (c : Controller) (e : Event) → Counting c → Counting (next c e)
counting_next c e k = counting_step c e k (step_of c e)

pub counting_fresh : Counting fresh
unfolding fresh
counting_fresh = reset_counting _

counting_from : (c : Controller) (es : List Event) → Counting c → Counting (after c es)
unfolding after
counting_from c [] k = k
counting_from c (e ∷ es) k = counting_from (next c e) es (counting_next c e k)

pub counting_after : (es : List Event) → Counting (after fresh es)
counting_after es = counting_from fresh es counting_fresh

-- ---- number 6

pub kept_in_range : (c : Controller) → Fine c → Counting c → in_range c ≡ true
kept_in_range c f k = limits_in_range c f.limits (unfold Counting in k)

pub never_six : (es : List Event) → in_range (after fresh es) ≡ true
never_six es = kept_in_range (after fresh es) (fine_after es) (counting_after es)

pub never_refused_six : (es : List Event) (e : Event) → (step (after fresh es) e).refused ≡ 6 → ⊥
never_refused_six es e = in_range_other (after fresh es) e (never_six es)
