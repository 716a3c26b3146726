-- Interrupts.antt, the six bits: the flags after every event, and what turns one of them to 1.
--   slot_rst, .. == each bit after a slot        interrupts == the claim, entire
use Prim.Native.Nat.{ℕ, ◌+◌, ◌/◌, ◌%◌, ◌≤◌}
use mathlib.Core.Bool.{Bool, true, false, not, false≢true}
use mathlib.Core.List.{List}
use mathlib.Core.Path.{◌≡◌, refl, ap, ◌∙◌, sym}
use native.Mathlib.Omega.{arith}
use borrow.Author.Tests.{eqb-true, eq-eqb, ltb-true, lt-ltb, le-ltb}
use lib.Dec.{eqb, ltb}
use lib.ListN.{get_or}
use Rattle.line.specs.Bits.{pick}
use Rattle.line.proofs.Laws.{pick_same}
use Rattle.rules.specs.Definitions.Setters.{with_activity, with_report, with_line, with_service}
use Rattle.rules.specs.Definitions.Longest.{longest_of}
use Rattle.rules.specs.Definitions.Registers.{both, has_bit, command, interrupt_enable, interrupt_reset, asks_reset, asks_idle, asks_activation, cleared, reset_report}
use Rattle.rules.specs.Definitions.Channels.{acknowledge_asked}
use Rattle.rules.specs.Statements.Bits.{bit_at}
use Rattle.rules.specs.Definitions.Reception.{under_way, unsettled}
use Rattle.rules.specs.Definitions.Hearing.{hear_in, hear_frame}
use Rattle.rules.specs.Definitions.Delivery.{delivered, delivery_to, delivery_of}
use Rattle.rules.specs.Definitions.Attempt.{largest, more_attempts, at_stage, between_attempts, is_between, is_answered, is_answering, slot_spent, lost_spent, error_spent, advance, exhausted}
use Rattle.rules.specs.Definitions.Service.{stopped, ending_of, settled, report_ended, fulfils, own_frame}
use Rattle.rules.specs.Definitions.State.{is_active, in_mode, reset_core, slept, idle_asked, activated}
use Rattle.rules.specs.Definitions.Slots.{role_in, reply_verdict, heard_as, heard, delivers, verdict_as, verdict, service_judged, ending, report_after, memory_judged, core_judged, sample_of, judged_slot, sampled_slot, active_slot}
use Rattle.rules.specs.Definitions.Host.{reset_all, resets, sleeps, mode_commanded, flags_cleared, core_written, service_asked, stopped_core, byte_written, host_written}
use Rattle.rules.specs.Definitions.Run.{fresh, accept, answered, step, next, after}
use Rattle.every_run.proofs.Ranges.Limits.{Fine}
use Rattle.rules.proofs.Logic.{both_true, clash, not_true, unless_false, left}
use Rattle.every_run.proofs.Judged as judgement
use Rattle.every_run.proofs.Judged.{went, lost, broke, done, Tried, unjudged, awaited, judged}
use Rattle.every_run.proofs.Ranges.Bytes.{at_below}
use Rattle.every_run.proofs.Ranges.Reach.{verdict_tried, fine_after}
use Rattle.every_run.specs.Tally.{none}
use Rattle.every_run.proofs.Sending.Follow.{idle_report, is_exhausted, te_judged}
use Rattle.every_run.proofs.Observer.Flags.{ended_flags, flags_ended, flags_follow, ended_same, is_sent, is_done, is_failed, ended_tok, ended_te, raised_by, after_rst, after_tok, after_re, after_rok, after_rnok}
use Rattle.every_run.specs.Observer.{is_stored, accepted}
use Rattle.every_run.proofs.Steps as steps
use Rattle.every_run.proofs.Steps.{Step, step_of, with_diagnosis_c, rested_next, refused_next, refused_not, accepted_next}
use Rattle.every_run.specs.OwnFrames.{verdict_in, reply_verdict_in}
use Rattle.every_run.specs.Settled.{marks_cher}
use Rattle.every_run.proofs.Sending.Demand3.{never_fulfils}
use Rattle.every_run.proofs.Roles.{quiet_phase, RoleIs, sends, asks, replying, receives, rests, role_is}
use Rattle.every_run.proofs.OwnFrames.Steady.{effort_asked}
use Rattle.every_run.proofs.OwnFrames.EveryRun.{slot_sampled}
use Rattle.every_run.specs.Interrupts.{flags_of, Sampled, Received, hearing_in, fitting_in, rak, IsReset, by_pin, by_command, Exhausts, exhausts, LastError, last, Completes, completes, replied, Spoils, fault, overflow, broken, Stores, stores, Raised, Interrupts}
use Rattle.every_run.proofs.Interrupts.Line as line
use Rattle.rules.specs.declared.Flags.{Flags}
use Rattle.rules.specs.declared.Report.{Report}
use Rattle.rules.specs.declared.Phase.TheVariants.{Quiet}
use Rattle.rules.specs.declared.Reception.{Reception}
use Rattle.rules.specs.declared.Hearing.{Hearing}
use Rattle.rules.specs.declared.Hearing.TheVariants.{Silent, Follows, Fault, Good}
use Rattle.rules.specs.declared.Delivery.{Delivery}
use Rattle.rules.specs.declared.Delivery.TheVariants.{Nothing, Stored, Overflowed, Spoiled}
use Rattle.rules.specs.declared.Effort.{Effort}
use Rattle.rules.specs.declared.Service.{Service}
use Rattle.rules.specs.declared.Verdict.{Verdict}
use Rattle.rules.specs.declared.Verdict.TheVariants.{Unjudged, Goes, Lost, Failed, Done, Answered}
use Rattle.rules.specs.declared.Ending.{Ending}
use Rattle.rules.specs.declared.Ending.TheVariants.{Going, Sent, Exhausted, Aborted, Rearbitrated, Fulfilled}
use Rattle.rules.specs.declared.Stage.{Stage}
use Rattle.rules.specs.declared.Stage.TheVariants.{Resting, Waiting, Opening, Sending, Receiving}
use Rattle.rules.specs.declared.Progress.{Progress}
use Rattle.rules.specs.declared.Role.{Role}
use Rattle.rules.specs.declared.Role.TheVariants.{Nobody, Receiver, Sender, Asker, Replier}
use Rattle.rules.specs.declared.Mode.TheVariants.{Active}
use Rattle.rules.specs.declared.Core.{Core}
use Rattle.rules.specs.declared.Controller.{Controller}
use Rattle.rules.specs.declared.Event.{Event}
use Rattle.rules.specs.declared.Event.TheVariants.{Reset, Write, Read, Slot}

-- ---- the flags after a slot

unfoldable pub asked : Reception → Bool
asked r = acknowledge_asked (get_or r.bytes 1 0)

abbrev pub verdict_of : Controller → ℕ → Verdict
verdict_of c v = verdict c.core v

abbrev pub reply_of : Controller → ℕ → Verdict
reply_of c v = reply_verdict (role_in c.core) c.core v

abbrev pub heard_by : Controller → ℕ → Hearing
heard_by c v = heard c.core (verdict_of c v) v

abbrev pub ending_in : Controller → ℕ → Ending
ending_in c v = ending c.core (verdict_of c v) (heard_by c v)

abbrev pub delivery_in : Controller → ℕ → Delivery
delivery_in c v = delivers (role_in c.core) (heard_by c v) c.core.reception

module _ (c : Controller) (v : ℕ) where
  abbrev flags : Flags
  flags = (sampled_slot c v).core.report.flags

  abbrev w : Verdict
  w = verdict_of c v

  abbrev q : Verdict
  q = reply_of c v

  flags_sampled : flags ≡ (report_after c.core w q (heard_by c v)).flags
  unfolding sampled_slot judged_slot core_judged
  flags_sampled = let m : List ℕ = memory_judged c.memory c.core w q (heard_by c v) in flags_follow m (core_judged m c.core w q (heard_by c v) v)

  pub slot_rst : flags.rst ≡ (flags_of c).rst
  slot_rst = ap (λ (f : Flags). f.rst) flags_sampled ∙ after_rst c.core w q (heard_by c v)

  pub slot_tok : flags.tok ≡ pick (is_done q) true (pick (is_sent (ending_in c v)) true (flags_of c).tok)
  slot_tok = ap (λ (f : Flags). f.tok) flags_sampled ∙ after_tok c.core w q (heard_by c v) ∙ sym (raised_by (is_done q) (is_sent (ending_in c v)) (flags_of c).tok)

  pub slot_te : flags.te ≡ pick (is_exhausted (ending_in c v)) true (flags_of c).te
  slot_te = ap (λ (f : Flags). f.te) flags_sampled ∙ te_judged c.core w q (heard_by c v)

  pub slot_re : flags.re ≡ pick (is_failed q) true (pick (marks_cher (delivery_in c v)) true (flags_of c).re)
  slot_re = ap (λ (f : Flags). f.re) flags_sampled ∙ after_re c.core w q (heard_by c v) ∙ sym (raised_by (is_failed q) (marks_cher (delivery_in c v)) (flags_of c).re)

  pub slot_rok : flags.rok ≡ pick (both (is_stored (delivery_in c v)) (asked c.core.reception)) true (flags_of c).rok
  unfolding asked
  slot_rok = ap (λ (f : Flags). f.rok) flags_sampled ∙ after_rok c.core w q (heard_by c v)

  pub slot_rnok : flags.rnok ≡ pick (both (is_stored (delivery_in c v)) (not (asked c.core.reception))) true (flags_of c).rnok
  unfolding asked
  slot_rnok = ap (λ (f : Flags). f.rnok) flags_sampled ∙ after_rnok c.core w q (heard_by c v)

-- ---- the flags after a write

pub mode_flags : (k : Core) (v : ℕ) → (mode_commanded k v).report.flags ≡ k.report.flags
unfolding mode_commanded idle_asked activated
mode_flags k v =
    left (λ (x : Core). x.report.flags) (asks_idle v) (idle_asked k) (pick (asks_activation v) (activated k) k) k.report.flags
    (left (λ (x : Core). x.report.flags) (is_active k.activity.mode) (with_activity k (in_mode Active true)) k k.report.flags refl refl)
    (left (λ (x : Core). x.report.flags) (asks_activation v) (activated k) k k.report.flags
    (left (λ (x : Core). x.report.flags) (is_active k.activity.mode) (with_activity k (in_mode Active false)) (with_line (with_activity k (in_mode Active false)) unsettled) k.report.flags refl refl)
    refl)

pub stopped_flags : (k : Core) (s : Service) → (stopped_core k s).report.flags ≡ ended_flags (stopped s) k.report.flags
unfolding stopped_core
stopped_flags k s =
    ap (λ (x : Report). x.flags) (idle_report (with_service (with_report k (report_ended (stopped s) k.report s)) (settled (stopped s) s))) ∙ flags_ended (stopped s) k.report s

accepted_so : (c : Controller) (e : Event) (value : ℕ) (d : Controller) → step c e ≡ accept value d → accepted c e ≡ true
unfolding accepted accept
accepted_so c e value d h = rw h

-- a bit that was 0 and is 1 after a test: the test passed
passed : (t : Bool) {b : Bool} → b ≡ false → pick t true b ≡ true → t ≡ true
passed true e h = refl
passed false e h = absurd (false≢true (sym e ∙ h))

-- and after two: one of them did
one_passed : {A : Type 0} (s t : Bool) {b : Bool} → b ≡ false → pick s true (pick t true b) ≡ true → (s ≡ true → A) → (t ≡ true → A) → A
one_passed true t e h p q = p refl
one_passed false t e h p q = q (passed t e h)

reset_flags : (g : Flags → Bool) (c : Controller) → g (flags_of (reset_all c)) ≡ true → g reset_report.flags ≡ true
unfolding reset_all reset_core
reset_flags g c h = h

-- ---- what turns a bit g of the flags from 0 to 1

module _ (g : Flags → Bool) (c : Controller) (Cause : Event → Type 0)
    (at_pin : g reset_report.flags ≡ true → accepted c Reset ≡ true → Cause Reset)
    (at-command : (a v : ℕ) → g reset_report.flags ≡ true → accepted c (Write a v) ≡ true → resets a (v % 256) ≡ true → Cause (Write a v))
    (clears : (f : Flags) (v : ℕ) → g f ≡ false → g (cleared f v) ≡ false)
    (ends : (a v : ℕ) (f : Flags) → g (ended_flags (stopped (service_asked c.core.service a v)) f) ≡ g f)
    (at_slot : (l : ℕ) → Sampled c l → g (flags_of c) ≡ false → g (sampled_slot c (sample_of c l)).core.report.flags ≡ true → Cause (Slot l)) where
  core_clear : (a v : ℕ) → g (flags_of c) ≡ false → g (core_written c.core a v).report.flags ≡ false
  unfolding core_written flags_cleared
  core_clear a v e =
      left (λ (x : Core). g x.report.flags) (eqb a command) (mode_commanded c.core v) (pick (eqb a interrupt_reset) (flags_cleared c.core v) c.core) false
      (ap g (mode_flags c.core v) ∙ e)
      (left (λ (x : Core). g x.report.flags) (eqb a interrupt_reset) (flags_cleared c.core v) c.core false (clears (flags_of c) v e) e)

  byte_clear : (a v : ℕ) → g (flags_of c) ≡ false → g (byte_written c a v).core.report.flags ≡ false
  unfolding byte_written
  byte_clear a v e =
      ap g (stopped_flags (core_written c.core a v) (service_asked c.core.service a v)) ∙ ends a v (core_written c.core a v).report.flags ∙ core_clear a v e

  write_only : (a v : ℕ) → accepted c (Write a v) ≡ true → g (flags_of c) ≡ false → g (host_written c a (v % 256)).core.report.flags ≡ true → Cause (Write a v)
  unfolding host_written
  write_only a v i e = go (resets a (v % 256)) refl (sleeps a (v % 256))
    where
      go : (x : Bool) → resets a (v % 256) ≡ x → (y : Bool)
          → g (pick x (reset_all c) (pick y (record { memory = c.memory; core = slept c.core }) (byte_written c a (v % 256)))).core.report.flags ≡ true → Cause (Write a v)
      go true d y h = at-command a v (reset_flags g c h) i d
      go false d true h = clash e (unfold slept in h)
      go false d false h = clash (byte_clear a (v % 256) e) h

  only_by : (e : Event) → g (flags_of c) ≡ false → g (flags_of (next c e)) ≡ true → Cause e
  only_by e b h = go e (step_of c e) h
    where
      same : (e : Event) → next c e ≡ c → g (flags_of (next c e)) ≡ true → Cause e
      same e n h = clash b (sym (ap (λ (x : Controller). g (flags_of x)) n) ∙ h)

      same_flags : (e : Event) → flags_of (next c e) ≡ flags_of c → g (flags_of (next c e)) ≡ true → Cause e
      same_flags e n h = clash b (sym (ap g n) ∙ h)

      go : (e : Event) → Step c e → g (flags_of (next c e)) ≡ true → Cause e
      go e (steps.refusal n h) i = same e (refused_next c none e n h) i
      go Reset (steps.reset h) i =
          let n : next c Reset ≡ reset_all c = accepted_next c none Reset 0 (reset_all c) h in
          let x : g (flags_of (reset_all c)) ≡ true = sym (ap (λ (x : Controller). g (flags_of x)) n) ∙ i in
          at_pin (reset_flags g c x) (accepted_so c Reset 0 (reset_all c) h)
      go (Write a v) (steps.wrote h) i =
          let n : next c (Write a v) ≡ host_written c a (v % 256) = accepted_next c none (Write a v) 0 (host_written c a (v % 256)) h in
          write_only a v (accepted_so c (Write a v) 0 (host_written c a (v % 256)) h) b (sym (ap (λ (x : Controller). g (flags_of x)) n) ∙ i)
      go (Read a) (steps.gave value h) i = same (Read a) (accepted_next c none (Read a) value c h) i
      go (Slot l) (steps.went a h) i =
          let s : Sampled c l = record { taken = unfold answered in accepted_so c (Slot l) _ (active_slot c l) h; active = a } in
          let n : next c (Slot l) ≡ with_diagnosis_c (sampled_slot c (sample_of c l)) (active_slot c l).core.diagnosis = slot_sampled c l s.taken a in
          at_slot l s b (sym (ap (λ (x : Controller). g (flags_of x)) n) ∙ i)
      go (Slot l) (steps.rested a h) i =
          same_flags (Slot l) (ap flags_of (rested_next c none l h)) i

-- ---- a write ends no service but an aborted or rearbitrated one

stopped_sent : (s : Service) → is_sent (stopped s) ≡ false
unfolding stopped is_sent
stopped_sent s = go (between_attempts s.effort.progress) (exhausted s.effort) s.abort s.rear
  where
    go : (a b d e : Bool) → is_sent (pick a (pick b Exhausted (pick d Aborted (pick e Rearbitrated Going))) Going) ≡ false
    go true true d e = refl
    go true false true e = refl
    go true false false true = refl
    go true false false false = refl
    go false b d e = refl

stopped_exhausted : (s : Service) → exhausted s.effort ≡ false → is_exhausted (stopped s) ≡ false
unfolding stopped is_exhausted
stopped_exhausted s h = rw h (go (between_attempts s.effort.progress) s.abort s.rear)
  where
    go : (a d e : Bool) → is_exhausted (pick a (pick false Exhausted (pick d Aborted (pick e Rearbitrated Going))) Going) ≡ false
    go true true e = refl
    go true false true = refl
    go true false false = refl
    go false d e = refl

-- ---- RST

asks_so : (v : ℕ) → bit_at v 7 ≡ 1 → asks_reset (v % 256) ≡ true
unfolding asks_reset
asks_so v e = eq-eqb (v % 256 / 128 % 2) 1 (omega arith)

asks_bit : (v : ℕ) → asks_reset (v % 256) ≡ true → bit_at v 7 ≡ 1
unfolding asks_reset
asks_bit v e = let d : v % 256 / 128 % 2 ≡ 1 = eqb-true (v % 256 / 128 % 2) 1 e in omega arith

reset_raised : (c : Controller) (e : Event) → IsReset c e → (flags_of (next c e)).rst ≡ true
reset_raised c Reset (by_pin i) = go (step_of c Reset)
  where
    go : Step c Reset → (flags_of (next c Reset)).rst ≡ true
    go (steps.refusal n h) = clash (refused_not c none Reset n h) i
    go (steps.reset h) = ap (λ (x : Controller). (flags_of x).rst) (accepted_next c none Reset 0 (reset_all c) h) ∙ (unfold reset_all reset_core reset_report in refl)
reset_raised c (Write a v) (by_command i p q) = go (step_of c (Write a v))
  where
    at_once : host_written c a (v % 256) ≡ reset_all c
    at_once = unfold host_written resets in rw (eq-eqb a command p, asks_so v q)

    go : Step c (Write a v) → (flags_of (next c (Write a v))).rst ≡ true
    go (steps.refusal n h) = clash (refused_not c none (Write a v) n h) i
    go (steps.wrote h) = ap (λ (x : Controller). (flags_of x).rst) (accepted_next c none (Write a v) 0 (host_written c a (v % 256)) h ∙ at_once) ∙ (unfold reset_all reset_core reset_report in refl)
reset_raised c (Read _) x = elim x [ ]
reset_raised c (Slot _) x = elim x [ ]

reset_bit : (a v : ℕ) → resets a (v % 256) ≡ true → (a ≡ 0x03) × (bit_at v 7 ≡ 1)
unfolding resets
reset_bit a v e = let b = both_true (eqb a command) (asks_reset (v % 256)) e in (eqb-true a command b.0, asks_bit v b.1)

rst_by : (c : Controller) → Raised (λ f. f.rst) IsReset c
rst_by c =
    record {
      raised = reset_raised c;
      only =
          only_by (λ f. f.rst) c (IsReset c) (λ x i. by_pin i) (λ a v x i d. let r = reset_bit a v d in by_command i r.0 r.1)
          (λ f v e. unfold cleared in unless_false f.rst (has_bit v 7) e)
          (λ a v f. ended_same (λ f. f.rst) (λ f. refl) (λ f. refl) (stopped (service_asked c.core.service a v)) f)
          (λ l s e h. clash e (sym (slot_rst c (sample_of c l)) ∙ h));
    }

-- ---- a slot that is judged for the attempt ends no service as fulfilled

unfoldable is_judged : Verdict → Bool
is_judged Unjudged = false
is_judged Goes = true
is_judged Lost = true
is_judged (Failed code) = true
is_judged Done = true
is_judged Answered = true

asks_between : (p : Progress) → is_answered p ≡ true → between_attempts p ≡ false
unfolding is_answered between_attempts
asks_between p e = go p.stage e
  where
    go : (x : Stage) → is_answering x ≡ true → is_between x ≡ false
    go Resting e = absurd (false≢true (unfold is_answering in e))
    go Waiting e = absurd (false≢true (unfold is_answering in e))
    go Opening e = absurd (false≢true (unfold is_answering in e))
    go Sending e = absurd (false≢true (unfold is_answering in e))
    go Receiving e = unfold is_between in refl

judged_fulfils : (k : Core) (v : ℕ) (h : Hearing) → is_judged (verdict k v) ≡ true → fulfils (delivers (role_in k) h k.reception) k.reception k.service ≡ false
unfolding verdict
judged_fulfils k v h n = go (role_is k.service.effort.progress k.reply.going k.reception.place) n
  where
    go : {x : Role} → RoleIs k.service.effort.progress k.reply.going k.reception.place x → is_judged (verdict_as x k v) ≡ true
        → fulfils (delivers x h k.reception) k.reception k.service ≡ false
    go (sends d) n = unfold delivers fulfils in refl
    go (asks d a) n = unfold delivers in never_fulfils (delivery_of h k.reception) k.reception k.service (asks_between k.service.effort.progress a)
    go (replying d a y) n = absurd (false≢true (unfold verdict_as is_judged in n))
    go (receives d a y u) n = absurd (false≢true (unfold verdict_as is_judged in n))
    go (rests d a y u) n = absurd (false≢true (unfold verdict_as is_judged in n))

judged_ending : (k : Core) (v : ℕ) (h : Hearing) (w : Verdict) → verdict k v ≡ w → is_judged w ≡ true → ending k (verdict k v) h ≡ ending_of w (service_judged w k.service)
unfolding ending
judged_ending k v h w e n =
    ap (λ (b : Bool). pick b Fulfilled (ending_of (verdict k v) (service_judged (verdict k v) k.service))) (judged_fulfils k v h (ap is_judged e ∙ n))
    ∙ ap (λ (x : Verdict). ending_of x (service_judged x k.service)) e

-- ---- TOK

-- no other verdict ends a service as sent
sent_done : (w : Verdict) (s : Service) → is_sent (ending_of w s) ≡ true → w ≡ Done
unfolding ending_of
sent_done Unjudged s h = clash (stopped_sent s) h
sent_done Goes s h = clash (stopped_sent s) h
sent_done Lost s h = clash (stopped_sent s) h
sent_done (Failed code) s h = clash (stopped_sent s) h
sent_done Done s h = refl
sent_done Answered s h = clash (stopped_sent s) h

ending_done : (k : Core) (w : Verdict) (h : Hearing) → is_sent (ending k w h) ≡ true → w ≡ Done
unfolding ending
ending_done k w h = go (fulfils (delivers (role_in k) h k.reception) k.reception k.service)
  where
    go : (b : Bool) → is_sent (pick b Fulfilled (ending_of w (service_judged w k.service))) ≡ true → w ≡ Done
    go true e = absurd (false≢true (unfold is_sent in e))
    go false e = sent_done w (service_judged w k.service) e

whole_done : (q : Verdict) → is_done q ≡ true → q ≡ Done
unfolding is_done
whole_done Unjudged e = absurd (false≢true e)
whole_done Goes e = absurd (false≢true e)
whole_done Lost e = absurd (false≢true e)
whole_done (Failed code) e = absurd (false≢true e)
whole_done Done e = refl
whole_done Answered e = absurd (false≢true e)

not_at_reset : {A : Type 0} → false ≡ true → A
not_at_reset e = absurd (false≢true e)

completes_raised : (c : Controller) (e : Event) → Completes c e → (flags_of (next c e)).tok ≡ true
completes_raised c (Slot l) (completes s d) =
    let v : ℕ = sample_of c l in
    let p : is_sent (ending_in c v) ≡ true = ap is_sent (judged_ending c.core v (heard_by c v) Done d (unfold is_judged in refl)) ∙ (unfold ending_of is_sent in refl) in
    ap (λ (x : Controller). (flags_of x).tok) (slot_sampled c l s.taken s.active) ∙ slot_tok c v
    ∙ ap (λ (b : Bool). pick (is_done (reply_of c v)) true (pick b true (flags_of c).tok)) p ∙ pick_same (is_done (reply_of c v)) true
completes_raised c (Slot l) (replied s d) =
    let v : ℕ = sample_of c l in
    ap (λ (x : Controller). (flags_of x).tok) (slot_sampled c l s.taken s.active) ∙ slot_tok c v
    ∙ ap (λ (q : Verdict). pick (is_done q) true (pick (is_sent (ending_in c v)) true (flags_of c).tok)) d ∙ (unfold is_done in refl)
completes_raised c Reset x = elim x [ ]
completes_raised c (Write _ _) x = elim x [ ]
completes_raised c (Read _) x = elim x [ ]

completes_slot : (c : Controller) (l : ℕ) → Sampled c l → (flags_of c).tok ≡ false → (sampled_slot c (sample_of c l)).core.report.flags.tok ≡ true → Completes c (Slot l)
completes_slot c l s e h =
    let v : ℕ = sample_of c l in
    one_passed (is_done (reply_of c v)) (is_sent (ending_in c v)) e (sym (slot_tok c v) ∙ h) (λ p. replied s (whole_done (reply_of c v) p))
    (λ p. completes s (ending_done c.core (verdict_of c v) (heard_by c v) p))

tok_by : (c : Controller) → Raised (λ f. f.tok) Completes c
unfolding reset_report
tok_by c =
    record {
      raised = completes_raised c;
      only =
          only_by (λ f. f.tok) c (Completes c) (λ x i. not_at_reset x) (λ a v x i d. not_at_reset x)
          (λ f v e. unfold cleared in unless_false f.tok (has_bit v 3) e)
          (λ a v f. ended_tok (stopped (service_asked c.core.service a v)) f ∙ ap (λ (b : Bool). pick b true f.tok) (stopped_sent (service_asked c.core.service a v)))
          (completes_slot c);
    }

-- ---- TE, where errors are at most R between events

exhausted_is : (x : Ending) → is_exhausted x ≡ true → x ≡ Exhausted
unfolding is_exhausted
exhausted_is Going h = not_at_reset h
exhausted_is Sent h = not_at_reset h
exhausted_is Exhausted h = refl
exhausted_is Aborted h = not_at_reset h
exhausted_is Rearbitrated h = not_at_reset h
exhausted_is Fulfilled h = not_at_reset h

few_errors : (e : Effort) → e.counters.errors.0 ≤ e.setting → exhausted e ≡ false
unfolding exhausted
few_errors e h = le-ltb e.setting e.counters.errors.0 h

exhausts_raised : (c : Controller) (e : Event) → Exhausts c e → (flags_of (next c e)).te ≡ true
unfolding is_exhausted
exhausts_raised c (Slot l) (exhausts s d) =
    let v : ℕ = sample_of c l in
    ap (λ (x : Controller). (flags_of x).te) (slot_sampled c l s.taken s.active) ∙ slot_te c v
    ∙ ap (λ (x : Ending). pick (is_exhausted x) true (flags_of c).te) d
exhausts_raised c Reset x = elim x [ ]
exhausts_raised c (Write _ _) x = elim x [ ]
exhausts_raised c (Read _) x = elim x [ ]

exhausts_slot : (c : Controller) (l : ℕ) → Sampled c l → (flags_of c).te ≡ false → (sampled_slot c (sample_of c l)).core.report.flags.te ≡ true → Exhausts c (Slot l)
exhausts_slot c l s e h =
    let v : ℕ = sample_of c l in
    exhausts s (exhausted_is (ending_in c v) (passed (is_exhausted (ending_in c v)) e (sym (slot_te c v) ∙ h)))

te_by : (c : Controller) → Fine c → Raised (λ f. f.te) Exhausts c
unfolding reset_report
te_by c q =
    record {
      raised = exhausts_raised c;
      only =
          only_by (λ f. f.te) c (Exhausts c) (λ x i. not_at_reset x) (λ a v x i d. not_at_reset x)
          (λ f v e. unfold cleared in unless_false f.te (has_bit v 4) e)
          (λ a v f. ended_te (stopped (service_asked c.core.service a v)) f
          ∙ ap (λ (b : Bool). pick b true f.te) (stopped_exhausted (service_asked c.core.service a v) (ap exhausted (effort_asked c.core.service a v) ∙ few_errors c.core.service.effort q.retries)))
          (exhausts_slot c);
    }

-- error R + 1

data IsLast (e : Effort) : Verdict → Type 0 where
  is_last : (code : ℕ) → e.counters.errors.0 ≡ e.setting → IsLast e (Failed code)

more_errors : (e : Effort) → e.counters.errors.0 ≤ 15 → (more_attempts e.counters.errors).0 ≡ e.counters.errors.0 + 1
unfolding more_attempts
more_errors e h = rw (lt-ltb e.counters.errors.0 largest (omega arith))

module _ (s : Service) (few : s.effort.counters.errors.0 ≤ s.effort.setting) (small : s.effort.counters.errors.0 ≤ 15) where
  failed_exhausted : (code : ℕ) → exhausted (advance (Failed code) s.effort) ≡ ltb s.effort.setting (s.effort.counters.errors.0 + 1)
  unfolding exhausted advance error_spent
  failed_exhausted code = ap (λ (x : ℕ). ltb s.effort.setting x) (more_errors s.effort small)

  failed_ending : (code : ℕ) → is_exhausted (ending_of (Failed code) (service_judged (Failed code) s)) ≡ exhausted (advance (Failed code) s.effort)
  unfolding ending_of service_judged stopped is_exhausted advance at_stage between_attempts is_between
  failed_ending code = go (exhausted (advance (Failed code) s.effort)) s.abort s.rear
    where
      go : (a b d : Bool) → is_exhausted (pick a Exhausted (pick b Aborted (pick d Rearbitrated Going))) ≡ a
      go true b d = refl
      go false true d = refl
      go false false true = refl
      go false false false = refl

  lost_not : is_exhausted (ending_of Lost (service_judged Lost s)) ≡ false
  unfolding ending_of service_judged advance lost_spent slot_spent
  lost_not = stopped_exhausted (service_judged Lost s) (few_errors (service_judged Lost s).effort few)

  failed_last : (code : ℕ) → is_exhausted (ending_of (Failed code) (service_judged (Failed code) s)) ≡ true → IsLast s.effort (Failed code)
  failed_last code h =
      let l = ltb-true s.effort.setting (s.effort.counters.errors.0 + 1) (sym (failed_exhausted code) ∙ sym (failed_ending code) ∙ h) in
      is_last code (omega arith)

  unjudged_not : is_exhausted (ending_of Unjudged (service_judged Unjudged s)) ≡ false
  unfolding ending_of service_judged advance
  unjudged_not = stopped_exhausted s (few_errors s.effort few)

  answered_not : is_exhausted (ending_of Answered (service_judged Answered s)) ≡ false
  unfolding ending_of service_judged advance at_stage stopped between_attempts is_between is_exhausted
  answered_not = refl

  done_not : is_exhausted (ending_of Done (service_judged Done s)) ≡ false
  unfolding ending_of is_exhausted
  done_not = refl

  last_sound : {v : ℕ} {w : Verdict} → Tried s.effort v w → is_exhausted (ending_of w (service_judged w s)) ≡ true → IsLast s.effort w
  last_sound unjudged h = clash unjudged_not h
  last_sound (awaited judgement.on) h = clash answered_not h
  last_sound (awaited (judgement.broken code g)) h = failed_last code h
  last_sound (awaited judgement.fulfilled) h = clash done_not h
  last_sound (judged (went e g)) h =
      clash {b = is_exhausted (ending_of Goes (service_judged Goes s))} (unfold ending_of service_judged advance at_stage stopped between_attempts is_between is_exhausted in refl) h
  last_sound (judged (lost a b i)) h = clash lost_not h
  last_sound (judged (broke code g)) h = failed_last code h
  last_sound (judged done) h = clash done_not h
  last_sound (judged (judgement.answered a b i)) h = clash answered_not h

  last_complete : (code : ℕ) → s.effort.counters.errors.0 ≡ s.effort.setting → ending_of (Failed code) (service_judged (Failed code) s) ≡ Exhausted
  last_complete code e =
      exhausted_is (ending_of (Failed code) (service_judged (Failed code) s))
      (failed_ending code ∙ failed_exhausted code ∙ lt-ltb s.effort.setting (s.effort.counters.errors.0 + 1) (omega arith))

ended_so : (k : Core) (w : Verdict) (h : Hearing) → ending k w h ≡ Exhausted → is_exhausted (ending_of w (service_judged w k.service)) ≡ true
unfolding ending is_exhausted
ended_so k w h d = go (fulfils (delivers (role_in k) h k.reception) k.reception k.service) (ap is_exhausted d)
  where
    go : (b : Bool) → is_exhausted (pick b Fulfilled (ending_of w (service_judged w k.service))) ≡ true → is_exhausted (ending_of w (service_judged w k.service)) ≡ true
    go true e = absurd (false≢true (unfold is_exhausted in e))
    go false e = e

module _ (c : Controller) (f : Fine c) where
  few : c.core.service.effort.counters.errors.0 ≤ c.core.service.effort.setting
  few = f.retries

  small : c.core.service.effort.counters.errors.0 ≤ 15
  small = f.limits.service.effort.errors

  last_named : (l : ℕ) → Sampled c l → {w : Verdict} → verdict_in c l ≡ w → IsLast c.core.service.effort w → LastError c (Slot l)
  last_named l s p (is_last code e) = last code s p e

  te_sound : (e : Event) → Exhausts c e → LastError c e
  te_sound (Slot l) (exhausts s d) =
      let v : ℕ = sample_of c l in
      last_named l s refl (last_sound c.core.service few small (verdict_tried c.core v) (ended_so c.core (verdict_of c v) (heard_by c v) d))
  te_sound Reset x = elim x [ ]
  te_sound (Write _ _) x = elim x [ ]
  te_sound (Read _) x = elim x [ ]

  te_complete : (e : Event) → LastError c e → Exhausts c e
  te_complete (Slot l) (last code s p e) =
      let v : ℕ = sample_of c l in
      exhausts s (judged_ending c.core v (heard_by c v) (Failed code) p (unfold is_judged in refl) ∙ last_complete c.core.service few small code e)
  te_complete Reset x = elim x [ ]
  te_complete (Write _ _) x = elim x [ ]
  te_complete (Read _) x = elim x [ ]

-- ---- what a frame delivers

silent_nothing : (r : Reception) → delivery_of Silent r ≡ Nothing
unfolding delivery_of delivery_to
silent_nothing r = pick_same r.winner.matched Nothing

nobody_nothing : (h : Hearing) (r : Reception) → delivers Nobody h r ≡ Nothing
unfolding delivers
nobody_nothing h r = refl

-- by the receiver's judgement alone, where the frame under way is not the model's own
module _ (c : Controller) (v : ℕ) where
  quiet_heard : c.core.reception.place.phase ≡ Quiet → hear_frame c.core.reception (longest_of c.core) v ≡ Silent
  unfolding hear_frame hear_in
  quiet_heard e = rw e

  other_delivery : own_frame (role_in c.core) ≡ false → delivery_in c v ≡ delivery_of (hear_frame c.core.reception (longest_of c.core) v) c.core.reception
  unfolding heard
  other_delivery o = go (role_is c.core.service.effort.progress c.core.reply.going c.core.reception.place) o
    where
      go : {x : Role} → RoleIs c.core.service.effort.progress c.core.reply.going c.core.reception.place x → own_frame x ≡ false
          → delivers x (heard_as x c.core (verdict_of c v) v) c.core.reception ≡ delivery_of (hear_frame c.core.reception (longest_of c.core) v) c.core.reception
      go (sends d) o = not_at_reset (sym (unfold own_frame in o))
      go (asks d a) o = unfold delivers heard_as in refl
      go (replying d a y) o = not_at_reset (sym (unfold own_frame in o))
      go (receives d a y u) o = unfold delivers heard_as in refl
      go (rests d a y u) o =
          let e : hear_frame c.core.reception (longest_of c.core) v ≡ Silent = quiet_heard (quiet_phase c.core.reception.place.phase (unfold under_way in u)) in
          nobody_nothing (heard_as Nobody c.core (verdict_of c v) v) c.core.reception ∙ sym (ap (λ (h : Hearing). delivery_of h c.core.reception) e ∙ silent_nothing c.core.reception)

own_nothing : (x : Role) (h : Hearing) (r : Reception) → own_frame x ≡ true → delivers x h r ≡ Nothing
unfolding delivers own_frame
own_nothing Nobody h r e = refl
own_nothing Receiver h r e = not_at_reset e
own_nothing Sender h r e = refl
own_nothing Asker h r e = not_at_reset e
own_nothing Replier h r e = refl

own_delivery : (c : Controller) (v : ℕ) → own_frame (role_in c.core) ≡ true → delivery_in c v ≡ Nothing
own_delivery c v d = own_nothing (role_in c.core) (heard_by c v) c.core.reception d

-- a delivery that does something is another module's frame, matched
module _ (c : Controller) (l : ℕ) (s : Sampled c l) (t : Delivery → Bool) (idle : t Nothing ≡ false) where
  abbrev v : ℕ
  v = sample_of c l

  took : t (delivery_in c v) ≡ true → Received c l × (t (delivery_to (hearing_in c l) c.core.reception) ≡ true)
  unfolding delivery_of
  took h = go (own_frame (role_in c.core)) refl c.core.reception.winner.matched refl
    where
      go : (a : Bool) → own_frame (role_in c.core) ≡ a → (b : Bool) → c.core.reception.winner.matched ≡ b → Received c l × (t (delivery_to (hearing_in c l) c.core.reception) ≡ true)
      go true e b d = clash idle (sym (ap t (own_delivery c v e)) ∙ h)
      go false e false d =
          let n : delivery_in c v ≡ Nothing = other_delivery c v e ∙ ap (λ (x : Bool). pick x (delivery_to (hearing_in c l) c.core.reception) Nothing) d in
          clash idle (sym (ap t n) ∙ h)
      go false e true d =
          let n : delivery_in c v ≡ delivery_to (hearing_in c l) c.core.reception = other_delivery c v e ∙ ap (λ (x : Bool). pick x (delivery_to (hearing_in c l) c.core.reception) Nothing) d in
          (record { sampled = s; other = e; matched = d }, sym (ap t n) ∙ h)

taken_in : (c : Controller) (l : ℕ) → Received c l → {h : Hearing} → hearing_in c l ≡ h → delivery_in c (sample_of c l) ≡ delivery_to h c.core.reception
unfolding delivery_of
taken_in c l r e =
    other_delivery c (sample_of c l) r.other
    ∙ ap (λ (x : Bool). pick x (delivery_to (hearing_in c l) c.core.reception) Nothing) r.matched
    ∙ ap (λ (x : Hearing). delivery_to x c.core.reception) e

-- ---- RE

spoiled_raised : (c : Controller) (l : ℕ) → Sampled c l → marks_cher (delivery_in c (sample_of c l)) ≡ true → (flags_of (next c (Slot l))).re ≡ true
spoiled_raised c l s d =
    let v : ℕ = sample_of c l in
    ap (λ (x : Controller). (flags_of x).re) (slot_sampled c l s.taken s.active) ∙ slot_re c v
    ∙ ap (λ (b : Bool). pick (is_failed (reply_of c v)) true (pick b true (flags_of c).re)) d ∙ pick_same (is_failed (reply_of c v)) true

spoils_raised : (c : Controller) (e : Event) → Spoils c e → (flags_of (next c e)).re ≡ true
spoils_raised c (Slot l) (fault code r d) =
    let x : delivery_in c (sample_of c l) ≡ Spoiled = taken_in c l r d ∙ (unfold delivery_to in refl) in
    spoiled_raised c l r.sampled (ap marks_cher x ∙ (unfold marks_cher in refl))
spoils_raised c (Slot l) (overflow r d n) =
    let x : delivery_in c (sample_of c l) ≡ Overflowed = taken_in c l r d ∙ (unfold delivery_to delivered in rw n) in
    spoiled_raised c l r.sampled (ap marks_cher x ∙ (unfold marks_cher in refl))
spoils_raised c (Slot l) (broken code s d) =
    let v : ℕ = sample_of c l in
    ap (λ (x : Controller). (flags_of x).re) (slot_sampled c l s.taken s.active) ∙ slot_re c v
    ∙ ap (λ (q : Verdict). pick (is_failed q) true (pick (marks_cher (delivery_in c v)) true (flags_of c).re)) d ∙ (unfold is_failed in refl)
spoils_raised c Reset x = elim x [ ]
spoils_raised c (Write _ _) x = elim x [ ]
spoils_raised c (Read _) x = elim x [ ]

spoils_heard : (c : Controller) (l : ℕ) → Received c l → (h : Hearing) → hearing_in c l ≡ h → marks_cher (delivery_to h c.core.reception) ≡ true → Spoils c (Slot l)
unfolding delivery_to delivered
spoils_heard c l r Silent e d = not_at_reset (unfold marks_cher in d)
spoils_heard c l r Follows e d = not_at_reset (unfold marks_cher in d)
spoils_heard c l r (Fault code) e d = fault code r e
spoils_heard c l r Good e d = overflow r e (go (fitting_in c) d)
  where
    go : (b : Bool) → marks_cher (pick b Stored Overflowed) ≡ true → b ≡ false
    go true d = not_at_reset (unfold marks_cher in d)
    go false d = refl

spoils_reply : (c : Controller) (l : ℕ) → Sampled c l → (q : Verdict) → reply_verdict_in c l ≡ q → is_failed q ≡ true → Spoils c (Slot l)
unfolding is_failed
spoils_reply c l s Unjudged e d = not_at_reset d
spoils_reply c l s Goes e d = not_at_reset d
spoils_reply c l s Lost e d = not_at_reset d
spoils_reply c l s (Failed code) e d = broken code s e
spoils_reply c l s Done e d = not_at_reset d
spoils_reply c l s Answered e d = not_at_reset d

spoils_slot : (c : Controller) (l : ℕ) → Sampled c l → (flags_of c).re ≡ false → (sampled_slot c (sample_of c l)).core.report.flags.re ≡ true → Spoils c (Slot l)
spoils_slot c l s e h =
    let v : ℕ = sample_of c l in
    one_passed (is_failed (reply_of c v)) (marks_cher (delivery_in c v)) e (sym (slot_re c v) ∙ h) (λ p. spoils_reply c l s (reply_of c v) refl p)
    (λ p. let t = took c l s marks_cher (unfold marks_cher in refl) p in spoils_heard c l t.0 (hearing_in c l) refl t.1)

re_by : (c : Controller) → Raised (λ f. f.re) Spoils c
unfolding reset_report
re_by c =
    record {
      raised = spoils_raised c;
      only =
          only_by (λ f. f.re) c (Spoils c) (λ x i. not_at_reset x) (λ a v x i d. not_at_reset x)
          (λ f v e. unfold cleared in unless_false f.re (has_bit v 2) e)
          (λ a v f. ended_same (λ f. f.re) (λ f. refl) (λ f. refl) (stopped (service_asked c.core.service a v)) f)
          (spoils_slot c);
    }

-- ---- ROK and RNOK

stored_in : (c : Controller) (l : ℕ) → Received c l → hearing_in c l ≡ Good → fitting_in c ≡ true → delivery_in c (sample_of c l) ≡ Stored
unfolding delivery_to delivered
stored_in c l r d n = taken_in c l r d ∙ rw n

stored_heard : (c : Controller) (l : ℕ) (a : Bool) → rak c ≡ a → Received c l → (h : Hearing) → hearing_in c l ≡ h → is_stored (delivery_to h c.core.reception) ≡ true → Stores a c (Slot l)
unfolding delivery_to delivered
stored_heard c l a q r Silent e d = not_at_reset (unfold is_stored in d)
stored_heard c l a q r Follows e d = not_at_reset (unfold is_stored in d)
stored_heard c l a q r (Fault code) e d = not_at_reset (unfold is_stored in d)
stored_heard c l a q r Good e d = stores r e (go (fitting_in c) d) q
  where
    go : (b : Bool) → is_stored (pick b Stored Overflowed) ≡ true → b ≡ true
    go true d = refl
    go false d = not_at_reset (unfold is_stored in d)

stored_slot : (c : Controller) (l : ℕ) (a : Bool) → rak c ≡ a → Sampled c l → is_stored (delivery_in c (sample_of c l)) ≡ true → Stores a c (Slot l)
stored_slot c l a q s h = let t = took c l s is_stored (unfold is_stored in refl) h in stored_heard c l a q t.0 (hearing_in c l) refl t.1

rok_raised : (c : Controller) (e : Event) → Stores true c e → (flags_of (next c e)).rok ≡ true
unfolding asked is_stored
rok_raised c (Slot l) (stores r d n q) =
    let v : ℕ = sample_of c l in
    ap (λ (x : Controller). (flags_of x).rok) (slot_sampled c l r.sampled.taken r.sampled.active) ∙ slot_rok c v
    ∙ ap (λ (y : Delivery). pick (both (is_stored y) (rak c)) true (flags_of c).rok) (stored_in c l r d n) ∙ ap (λ (b : Bool). pick b true (flags_of c).rok) q
rok_raised c Reset x = elim x [ ]
rok_raised c (Write _ _) x = elim x [ ]
rok_raised c (Read _) x = elim x [ ]

rnok_raised : (c : Controller) (e : Event) → Stores false c e → (flags_of (next c e)).rnok ≡ true
unfolding asked is_stored
rnok_raised c (Slot l) (stores r d n q) =
    let v : ℕ = sample_of c l in
    ap (λ (x : Controller). (flags_of x).rnok) (slot_sampled c l r.sampled.taken r.sampled.active) ∙ slot_rnok c v
    ∙ ap (λ (y : Delivery). pick (both (is_stored y) (not (rak c))) true (flags_of c).rnok) (stored_in c l r d n) ∙ ap (λ (b : Bool). pick (not b) true (flags_of c).rnok) q
rnok_raised c Reset x = elim x [ ]
rnok_raised c (Write _ _) x = elim x [ ]
rnok_raised c (Read _) x = elim x [ ]

rok_by : (c : Controller) → Raised (λ f. f.rok) (Stores true) c
unfolding reset_report asked
rok_by c =
    record {
      raised = rok_raised c;
      only =
          only_by (λ f. f.rok) c (Stores true c) (λ x i. not_at_reset x) (λ a v x i d. not_at_reset x)
          (λ f v e. unfold cleared in unless_false f.rok (has_bit v 1) e)
          (λ a v f. ended_same (λ f. f.rok) (λ f. refl) (λ f. refl) (stopped (service_asked c.core.service a v)) f)
          (λ l s e h.
          let b = both_true (is_stored (delivery_in c (sample_of c l))) (rak c) (passed (both (is_stored (delivery_in c (sample_of c l))) (rak c)) e (sym (slot_rok c (sample_of c l)) ∙ h)) in
          stored_slot c l true b.1 s b.0);
    }

rnok_by : (c : Controller) → Raised (λ f. f.rnok) (Stores false) c
unfolding reset_report asked
rnok_by c =
    record {
      raised = rnok_raised c;
      only =
          only_by (λ f. f.rnok) c (Stores false c) (λ x i. not_at_reset x) (λ a v x i d. not_at_reset x)
          (λ f v e. unfold cleared in unless_false f.rnok (has_bit v 0) e)
          (λ a v f. ended_same (λ f. f.rnok) (λ f. refl) (λ f. refl) (stopped (service_asked c.core.service a v)) f)
          (λ l s e h.
          let b = both_true (is_stored (delivery_in c (sample_of c l))) (not (rak c)) (passed (both (is_stored (delivery_in c (sample_of c l))) (not (rak c))) e (sym (slot_rnok c (sample_of c l)) ∙ h)) in
          stored_slot c l false (not_true (rak c) b.1) s b.0);
    }

-- ---- the claim, entire

pub interrupts : Interrupts
interrupts =
    record {
      asserted = line.line_shared;
      shared = line.shared_line;
      reached = λ es. at_below (fine_after es).memory interrupt_enable;
      status_read = line.status_is_read;
      enable_read = line.enable_is_read;
      places = line.places;
      rst = rst_by;
      te = λ es. te_by (after fresh es) (fine_after es);
      te_sound = λ es. te_sound (after fresh es) (fine_after es);
      te_complete = λ es. te_complete (after fresh es) (fine_after es);
      tok = tok_by;
      re = re_by;
      rok = rok_by;
      rnok = rnok_by;
    }
