-- Controller and log over every event: idle, choice and start, a host write, a slot.
--   Logs == they belong together: next_logs
use Prim.Native.Nat.{ℕ, ◌%◌, ◌<◌, ◌≤◌}
use mathlib.Core.Bool.{Bool, true, false, false≢true, not}
use mathlib.Core.List.{List}
use mathlib.Core.Path.{◌≡◌, refl, ap, ◌∙◌, sym, subst}
use native.Mathlib.Omega.{arith}
use borrow.Author.Tests.{le-ltb, eqb-true}
use lib.Dec.{eqb}
use lib.ListN.{get_or}
use Rattle.std.specs.Prelude.{Option, None, Some}
use Rattle.line.specs.Bits.{pick, Below}
use Rattle.line.specs.Frame.{Fits}
use Rattle.line.proofs.Laws.{picked}
use Rattle.rules.specs.Definitions.Setters.{with_report, with_service}
use Rattle.rules.specs.Definitions.Longest.{capacity, longest_of}
use Rattle.rules.specs.Definitions.Registers.{both, transmit_control, retry_setting, autonomous}
use Rattle.rules.specs.Definitions.Channels.{lowest_ready}
use Rattle.rules.specs.Definitions.Reception.{at_place, quiet, is_under_way, under_way, behind, in_body, is_body, free, start_ended}
use Rattle.every_run.proofs.Receiving.InvariantLaws.{invariant_under_way}
use Rattle.rules.specs.Definitions.Attempt.{at_stage, between_attempts, is_between, drives_frame, is_driving, no_counts, in_service, is_serving, waits, is_waiting, exhausted, is_answered, is_answering}
use Rattle.rules.specs.Definitions.Service.{resting, stopped, settled, report_sending, report_ended, chosen, choice_of, choose, opened, started, no_reply, fulfils}
use Rattle.rules.specs.Definitions.State.{is_active, serving, reset_core, idled, idle_due, slept}
use Rattle.rules.specs.Definitions.Slots.{heard, ending, memory_judged, core_judged, chooses, choice_made, start_made, follows_on, sample_of, judged_slot, sampled_slot, active_slot, resting_slot, role_in, reply_verdict, heard_as, delivers, verdict_as, verdict}
use Rattle.rules.specs.Definitions.Host.{reset_all, resets, sleeps, core_written, service_asked, stopped_core, byte_written, host_written}
use Rattle.rules.specs.Definitions.Run.{accept, rested_slot, step, next}
use Rattle.rules.specs.Definitions.Run as run
use Rattle.every_run.specs.Tally.{Stand, away, between, opening, inside, Tally, is_away, answered}
use Rattle.every_run.specs.Observer.{accepted}
use Rattle.every_run.proofs.Sending.Join.{made, service_in, service_of}
use Rattle.every_run.proofs.Steps.{Step, refusal, reset, wrote, gave, went, rested, with_diagnosis_c, went_next, rested_next, refused_next, refused_not, accepted_next}
use Rattle.every_run.proofs.Sending.Demand3.{Joined}
use Rattle.rules.proofs.Samples.{sample_small}
use Rattle.every_run.proofs.Roles.{role_sender}
use Rattle.every_run.proofs.OwnFrames.Steady.{stopped_settled, opened_still, effort_asked, written_reply, written_reception}
use Rattle.every_run.specs.Receiving.{Log, no_log, sampled_log, log_in, log_next}
use Rattle.every_run.proofs.Receiving.OwnAttempt.{Own, Placed, in_code}
use Rattle.every_run.proofs.Receiving.Log.{At, Stands, apart, closing, driving, receiving, resting_going, sampled_stands, starting, Away, asking, replying, replied, resting_away, placed_later, body_is, settled_by}
use Rattle.rules.specs.declared.Report.{Report}
use Rattle.rules.specs.declared.Line.{Line}
use Rattle.rules.specs.declared.Phase.TheVariants.{Body}
use Rattle.rules.specs.declared.Reception.{Reception}
use Rattle.rules.specs.declared.Stage.{Stage}
use Rattle.rules.specs.declared.Stage.TheVariants as stage
use Rattle.rules.specs.declared.Stage.TheVariants.{Resting, Waiting, Opening, Sending}
use Rattle.rules.specs.declared.Progress.{Progress}
use Rattle.rules.specs.declared.ImmediateReply.{ImmediateReply}
use Rattle.rules.specs.declared.Verdict.{Verdict}
use Rattle.rules.specs.declared.Hearing.{Hearing}
use Rattle.rules.specs.declared.Effort.{Effort}
use Rattle.rules.specs.declared.Service.{Service}
use Rattle.rules.specs.declared.Ending.{Ending}
use Rattle.rules.specs.declared.Ending.TheVariants.{Going, Sent, Exhausted, Aborted, Rearbitrated, Fulfilled}
use Rattle.rules.specs.declared.Core.{Core}
use Rattle.rules.specs.declared.Controller.{Controller}
use Rattle.rules.specs.declared.Event.{Event}
use Rattle.rules.specs.declared.Event.TheVariants.{Reset, Write, Read, Slot}

abbrev StandsIn : Log → Core → Type 0
StandsIn l k = Stands (longest_of k) k.service k.reply k.reception l

-- ---- a waiting idle that has come due

idle_drives : (x : Stage) → is_serving x ≡ false → is_driving x ≡ false
unfolding is_serving is_driving
idle_drives Resting e = refl
idle_drives Waiting e = refl
idle_drives Opening e = absurd (false≢true (sym e))
idle_drives Sending e = absurd (false≢true (sym e))
idle_drives stage.Receiving e = refl

idle_answers : (x : Stage) → is_serving x ≡ false → is_answering x ≡ false
unfolding is_serving is_answering
idle_answers Resting e = refl
idle_answers Waiting e = refl
idle_answers Opening e = refl
idle_answers Sending e = refl
idle_answers stage.Receiving e = absurd (false≢true (sym e))

no_service_away : (p : Progress) → is_serving p.stage ≡ false → Away p
no_service_away p e = record { drives = unfold drives_frame in idle_drives p.stage e; answers = unfold is_answered in idle_answers p.stage e }

silent_reply : no_reply.going ≡ false
unfolding no_reply
silent_reply = refl

quiet_not : under_way quiet.place ≡ false
unfolding quiet at_place under_way is_under_way
quiet_not = refl

module _ (l : Log) (k : Core) (a : StandsIn l k) where
  idled_stands : serving k.service ≡ false → StandsIn l (idled k)
  unfolding idled serving in_service
  idled_stands e = record { going = a.going; stage = apart (no_service_away k.service.effort.progress e) silent_reply quiet_not }

  idle_stands : StandsIn l (idle_due k)
  unfolding idle_due
  idle_stands =
      picked (StandsIn l) k.activity.waiting _ k (λ e. picked (StandsIn l) (serving k.service) k (idled k) (λ d. a) (λ d. idled_stands d)) (λ e. a)

-- ---- the choice

chosen_away : (m : List ℕ) (x : Option ℕ) → Away (choice_of m x).effort.progress
unfolding choice_of
chosen_away m None = resting_away
chosen_away m (Some c) = record { drives = unfold chosen at_stage drives_frame is_driving in refl; answers = unfold chosen at_stage is_answered is_answering in refl }

chosen_going : (m : List ℕ) (x : Option ℕ) → stopped (choice_of m x) ≡ Going
unfolding choice_of
chosen_going m None = resting_going
chosen_going m (Some c) = unfold chosen resting at_stage stopped between_attempts is_between exhausted no_counts in rw (le-ltb (retry_setting (get_or m transmit_control 0)) 0 (omega arith))

free_to_choose : (a b u : Bool) → both a (both (not b) (not u)) ≡ true → u ≡ false
free_to_choose true true u e = absurd (false≢true e)
free_to_choose true false true e = absurd (false≢true e)
free_to_choose true false false e = refl
free_to_choose false b u e = absurd (false≢true e)

-- with no frame under way there is no reply
quiet_reply : {longest : ℕ} {e : Effort} {y : ImmediateReply} {r : Reception} {l : Log} → At longest e y r l → under_way r.place ≡ false → y.going ≡ false
quiet_reply (apart d g u) q = g
quiet_reply (receiving d g f) q = g
quiet_reply (asking d a g f) q = g
quiet_reply (starting d g z u) q = g
quiet_reply (driving d g f p h) q = g
quiet_reply (closing d g b h) q = g
quiet_reply {r = r} {l = l} (replying d g o f p i h) q = absurd (false≢true (sym q ∙ invariant_under_way r l.samples f.invariant))
quiet_reply (replied d g k h) q = absurd (false≢true (sym q ∙ k.under))

chosen_stands : (l : Log) (m : List ℕ) (k : Core) (x : Report) → k.reply.going ≡ false → under_way k.reception.place ≡ false → StandsIn l (with_service (with_report k x) (choose m (longest_of k)))
unfolding choose
chosen_stands l m k x g u = record { going = chosen_going m (lowest_ready m (longest_of k)); stage = apart (chosen_away m (lowest_ready m (longest_of k))) g u }

chooses_quiet : (k : Core) → chooses k ≡ true → under_way k.reception.place ≡ false
unfolding chooses
chooses_quiet k e = free_to_choose (is_active k.activity.mode) (serving k.service) (under_way k.reception.place) e

choice_stands : (l : Log) (m : List ℕ) (k : Core) → StandsIn l k → StandsIn l (choice_made m k)
unfolding choice_made
choice_stands l m k a =
    picked (StandsIn l) (chooses k) _ k
    (λ e. picked (StandsIn l) (serving (choose m (longest_of k))) _ k (λ d. chosen_stands l m k (report_sending k.report (choose m (longest_of k))) (quiet_reply a.stage (chooses_quiet k e)) (chooses_quiet k e)) (λ d. a))
    (λ e. a)

-- ---- the start

waits_apart : (p : Stage) → is_waiting p ≡ true → is_driving p ≡ true → ⊥
unfolding is_waiting is_driving
waits_apart Resting e d = absurd (false≢true e)
waits_apart Waiting e d = absurd (false≢true d)
waits_apart Opening e d = absurd (false≢true e)
waits_apart Sending e d = absurd (false≢true e)
waits_apart stage.Receiving e d = absurd (false≢true e)

waits_asks : (p : Stage) → is_waiting p ≡ true → is_answering p ≡ true → ⊥
unfolding is_waiting is_answering
waits_asks Resting e d = absurd (false≢true e)
waits_asks Waiting e d = absurd (false≢true d)
waits_asks Opening e d = absurd (false≢true e)
waits_asks Sending e d = absurd (false≢true e)
waits_asks stage.Receiving e d = absurd (false≢true e)

-- a clean start sequence has just ended
pub record StartTaken (r : Reception) : Type 0 where
  pub at : r.place.at ≡ 0
  pub nibbles : r.nibbles ≡ 0
  pub phase : r.place.phase ≡ Body

start_taken : (r : Reception) → start_ended r ≡ true → StartTaken r
unfolding start_ended behind in_body
start_taken r e = go (is_body r.place.phase) refl (eqb r.nibbles 0) refl e
  where
    go : (a : Bool) → is_body r.place.phase ≡ a → (b : Bool) → eqb r.nibbles 0 ≡ b → both a (both b (eqb r.place.at 0)) ≡ true → StartTaken r
    go true x true y e = record { at = eqb-true r.place.at 0 e; nibbles = eqb-true r.nibbles 0 y; phase = body_is r.place.phase x }
    go true x false y e = absurd (false≢true e)
    go false x b y e = absurd (false≢true e)

start_under_way : (r : Reception) → start_ended r ≡ true → under_way r.place ≡ true
unfolding under_way
start_under_way r e = rw (start_taken r e).phase (unfold is_under_way in refl)

-- not where a reply goes on
later_start : (r : Reception) → start_ended r ≡ true → 1 ≤ r.nibbles → ⊥
later_start r e h = omega (arith, (start_taken r e).nibbles)

module _ {longest : ℕ} (l : Log) (s : Service) (y : ImmediateReply) (r : Reception) (a : Stands longest s y r l) (w : waits s.effort.progress ≡ true) where
  joins : start_ended r ≡ true → Stands longest (opened s 10) y r l
  joins e = record { going = opened_still s 10 w ∙ a.going; stage = go a.stage }
    where
      placed : Placed s.effort.frame 10 r
      placed = let t = start_taken r e in in_code t.phase (omega (arith, t.nibbles, t.at)) (omega (arith, t.at)) (λ d. absurd (omega (arith, t.at)))

      driven : drives_frame s.effort.progress ≡ true → ⊥
      driven d = unfold waits drives_frame in waits_apart s.effort.progress.stage w d

      asked : is_answered s.effort.progress ≡ true → ⊥
      asked d = unfold waits is_answered in waits_asks s.effort.progress.stage w d

      go : At longest s.effort y r l → At longest (opened s 10).effort y r l
      go (apart d g u) = absurd (false≢true (sym u ∙ start_under_way r e))
      go (receiving d g f) = unfold opened at_stage in driving (unfold drives_frame is_driving in refl) g f placed (omega arith)
      go (asking d i g f) = absurd (asked i)
      go (starting d g z u) = absurd (driven d)
      go (driving d g f p h) = absurd (driven d)
      go (closing d g b h) = absurd (driven d)
      go (replying d g o f p i h) = absurd (later_start r e (placed_later r p (omega arith) (start_under_way r e)).nibbles)
      go (replied d g k h) = absurd (later_start r e k.nibbles)

  opens : under_way r.place ≡ false → Stands longest (opened s 0) y r l
  opens u = record { going = opened_still s 0 w ∙ a.going; stage = unfold opened at_stage in starting (unfold drives_frame is_driving in refl) (quiet_reply a.stage u) refl u }

started_stands : {longest : ℕ} (l : Log) (s : Service) (y : ImmediateReply) (autonomous : Bool) (line : Line) (r : Reception) → Stands longest s y r l → Stands longest (started s autonomous line r) y r l
unfolding started
started_stands {longest} l s y autonomous line r a =
    picked P (waits s.effort.progress) _ s
    (λ w. picked P (start_ended r) (opened s 10) _ (λ e. joins l s y r a w e)
    (λ e. picked P (under_way r.place) s _ (λ u. a)
    (λ u. picked P (both autonomous (free line)) (opened s 0) s (λ b. opens l s y r a w u) (λ b. a))))
    (λ w. a)
  where
    P : Service → Type 0
    P x = Stands longest x y r l

follows_stands : (l : Log) (m : List ℕ) (k : Core) → StandsIn l k → StandsIn l (follows_on m k)
unfolding follows_on start_made
follows_stands l m k a = started_stands l _ _ _ _ _ (choice_stands l m (idle_due k) (idle_stands l k a))

-- ---- a host write

unfoldable is_going : Ending → Bool
is_going Going = true
is_going Sent = false
is_going Exhausted = false
is_going Aborted = false
is_going Rearbitrated = false
is_going Fulfilled = false

ends_between : (s : Service) (x : Ending) → stopped s ≡ x → is_going x ≡ false → between_attempts s.effort.progress ≡ true
ends_between s x e g = go (between_attempts s.effort.progress) refl
  where
    go : (b : Bool) → between_attempts s.effort.progress ≡ b → between_attempts s.effort.progress ≡ true
    go true d = d
    go false d =
        let h : stopped s ≡ Going = unfold stopped in rw d in
        absurd (false≢true (sym g ∙ ap is_going (sym e ∙ h) ∙ (unfold is_going in refl)))

answers_between : (p : Stage) → is_answering p ≡ true → is_between p ≡ true → ⊥
unfolding is_answering is_between
answers_between Resting e b = absurd (false≢true e)
answers_between Waiting e b = absurd (false≢true e)
answers_between Opening e b = absurd (false≢true e)
answers_between Sending e b = absurd (false≢true e)
answers_between stage.Receiving e b = absurd (false≢true b)

-- between attempts a service ends, and its frame with it: the model goes on receiving, or replying
given_up : {longest : ℕ} {e : Effort} {y : ImmediateReply} {r : Reception} {l : Log} → At longest e y r l → between_attempts e.progress ≡ true → At longest resting.effort y r l
given_up (apart d g u) b = apart resting_away g u
given_up (receiving d g f) b = receiving resting_away g f
given_up {e = e} (asking d a g f) b = absurd (unfold is_answered between_attempts in answers_between e.progress.stage a b)
given_up (starting d g z u) b = apart resting_away g u
given_up (driving d g f p h) b = receiving resting_away g f
given_up (closing d g n h) b = absurd (false≢true (sym n ∙ b))
given_up (replying d g o f p i h) b = replying resting_away g o f p i h
given_up (replied d g k h) b = replied resting_away g k h

settled_at : {longest : ℕ} (s : Service) {y : ImmediateReply} {r : Reception} {l : Log} → At longest s.effort y r l → (x : Ending) → stopped s ≡ x → At longest (settled x s).effort y r l
unfolding settled
settled_at s a Going e = a
settled_at s a Sent e = given_up a (ends_between s Sent e (unfold is_going in refl))
settled_at s a Exhausted e = given_up a (ends_between s Exhausted e (unfold is_going in refl))
settled_at s a Aborted e = given_up a (ends_between s Aborted e (unfold is_going in refl))
settled_at s a Rearbitrated e = given_up a (ends_between s Rearbitrated e (unfold is_going in refl))
settled_at s a Fulfilled e = given_up a (ends_between s Fulfilled e (unfold is_going in refl))

stopped_stands : (l : Log) (k : Core) (s : Service) → At (longest_of k) s.effort k.reply k.reception l → StandsIn l (stopped_core k s)
unfolding stopped_core
stopped_stands l k s a =
    idle_stands l (with_service (with_report k (report_ended (stopped s) k.report s)) (settled (stopped s) s))
    (record { going = stopped_settled s; stage = settled_at s a (stopped s) refl })

byte_stands : (l : Log) (c : Controller) (a v : ℕ) → StandsIn l c.core → StandsIn l (byte_written c a v).core
unfolding byte_written
byte_stands l c a v i =
    stopped_stands l (core_written c.core a v) (service_asked c.core.service a v)
    (rw (effort_asked c.core.service a v, written_reply c.core a v, written_reception c.core a v) i.stage)

pub apart_stands : {longest : ℕ} (l : Log) → Stands longest resting no_reply quiet l
apart_stands l = record { going = resting_going; stage = apart resting_away silent_reply quiet_not }

slept_stands : (l : Log) (k : Core) → StandsIn l (slept k)
unfolding slept
slept_stands l k = apart_stands l

written_stands : (l : Log) (c : Controller) (a v : ℕ) → StandsIn l c.core → StandsIn l (host_written c a v).core
unfolding host_written
written_stands l c a v i =
    picked P (resets a v) (reset_all c) _ (λ e. unfold reset_all reset_core in apart_stands l)
    (λ e. picked P (sleeps a v) _ (byte_written c a v) (λ d. slept_stands l c.core) (λ d. byte_stands l c a v i))
  where
    P : Controller → Type 0
    P x = StandsIn l x.core

-- ---- controller and log belong together

pub record Logs (c : Controller) (l : Log) : Type 0 where
  pub stands : StandsIn l c.core
  pub empty : under_way c.core.reception.place ≡ false → l ≡ no_log

-- with no frame under way the log is empty
quiet_at : {longest : ℕ} {e : Effort} {y : ImmediateReply} {r : Reception} {l : Log} (n : Log) → At longest e y r l → under_way r.place ≡ false → At longest e y r n
quiet_at n (apart d g u) q = apart d g u
quiet_at {r = r} {l = l} n (receiving d g f) q = absurd (false≢true (sym q ∙ invariant_under_way r l.samples f.invariant))
quiet_at {r = r} {l = l} n (asking d a g f) q = absurd (false≢true (sym q ∙ invariant_under_way r l.samples f.invariant))
quiet_at n (starting d g z u) q = starting d g z u
quiet_at {r = r} {l = l} n (driving d g f p h) q = absurd (false≢true (sym q ∙ invariant_under_way r l.samples f.invariant))
quiet_at n (closing d g b h) q = closing d g b h
quiet_at {r = r} {l = l} n (replying d g o f p i h) q = absurd (false≢true (sym q ∙ invariant_under_way r l.samples f.invariant))
quiet_at n (replied d g k h) q = absurd (false≢true (sym q ∙ k.under))

logs_as : (c : Controller) (l : Log) → StandsIn l c.core → (u : Bool) → under_way c.core.reception.place ≡ u → Logs c (pick u l no_log)
logs_as c l a true e = record { stands = a; empty = λ d. absurd (false≢true (sym d ∙ e)) }
logs_as c l a false e = record { stands = record { going = a.going; stage = quiet_at no_log a.stage e }; empty = λ d. refl }

module _ (c : Controller) (l : Log) (e : Event) where
  logs_next : {n : Log} → StandsIn n (next c e).core → pick (accepted c e) (log_in c l e) l ≡ n → Logs (next c e) (log_next c l e)
  unfolding log_next
  logs_next {n} a q = rw q (logs_as (next c e) n a (under_way (next c e).core.reception.place) refl)

  is_accepted : (value : ℕ) (d : Controller) → step c e ≡ accept value d → accepted c e ≡ true
  unfolding accepted accept
  is_accepted value d h = rw h

  -- an accepted event that has no sample
  plain_next : (d : Controller) → next c e ≡ d → StandsIn l d.core → accepted c e ≡ true → log_in c l e ≡ l → Logs (next c e) (log_next c l e)
  plain_next d n a t q = logs_next {n = l} (rw n a) (rw (t, q))

-- ---- the frame of the service

own_driven : (s : Stand) (t : Tally) → (is_away s ≡ false → Fits capacity t.frame × (t.frame.acknowledge ≡ false)) → drives_frame (service_in s t).effort.progress ≡ true
    → Own capacity (service_in s t).effort.frame
unfolding service_in is_away
own_driven away t g d = absurd (false≢true (sym resting_away.drives ∙ d))
own_driven between t g d = absurd (false≢true (unfold made at_stage drives_frame is_driving in d))
own_driven (opening start) t g d = let f = g refl in record { most = omega arith; frame = t.frame; fits = f.0; silent = f.1; same = unfold made in refl }
own_driven (inside start levels) t g d = let f = g refl in record { most = omega arith; frame = t.frame; fits = f.0; silent = f.1; same = unfold made in refl }
own_driven (answered start n) t g d = absurd (false≢true (unfold made at_stage drives_frame is_driving in d))

own_of : (c : Controller) (t : Tally) → Joined c t → drives_frame c.core.service.effort.progress ≡ true → Own (longest_of c.core) c.core.service.effort.frame
own_of c t j d =
    let s : c.core.service ≡ service_in t.stand t = unfold service_of in j.service in
    subst (λ (x : Service). Own capacity x.effort.frame) (sym s) (own_driven t.stand t j.good.fits (subst (λ (x : Service). drives_frame x.effort.progress ≡ true) s d))

-- ---- a slot

module _ (c : Controller) (t : Tally) (l : Log) (i : Logs c l) (j : Joined c t) (below : (e : Event) → Below 256 (next c e).memory) where
  never_own : (h : Hearing) → drives_frame c.core.service.effort.progress ≡ true → fulfils (delivers (role_in c.core) h c.core.reception) c.core.reception c.core.service ≡ false
  never_own h d = rw (role_sender c.core.service.effort.progress c.core.reply.going c.core.reception.place d) (unfold delivers fulfils in refl)

  judged_logs : (v : ℕ) → v < 2 → (m : List ℕ) → Below 256 m
      → StandsIn (sampled_log l v m) (core_judged m c.core (verdict c.core v) (reply_verdict (role_in c.core) c.core v) (heard c.core (verdict c.core v) v) v)
  unfolding core_judged ending settled_by verdict heard
  judged_logs v small m b =
      sampled_stands c.core l v small m b _ (never_own (heard_as (role_in c.core) c.core (verdict_as (role_in c.core) c.core v) v)) (own_of c t j) i.empty i.stands.stage

  sampled_logs : (v : ℕ) → v < 2 → Below 256 (sampled_slot c v).memory → StandsIn (sampled_log l v (sampled_slot c v).memory) (sampled_slot c v).core
  unfolding sampled_slot judged_slot
  sampled_logs v small b =
      let w : Verdict = verdict c.core v in
      let q : Verdict = reply_verdict (role_in c.core) c.core v in
      let h : Hearing = heard c.core w v in
      let m : List ℕ = memory_judged c.memory c.core w q h in
      follows_stands (sampled_log l v m) m (core_judged m c.core w q h v) (judged_logs v small m b)

  slot_logs : (levels : ℕ) → is_active c.core.activity.mode ≡ true → step c (Slot levels) ≡ run.answered (active_slot c levels) → Logs (next c (Slot levels)) (log_next c l (Slot levels))
  unfolding run.answered log_in
  slot_logs levels a h =
      let v : ℕ = sample_of c levels in
      let n : next c (Slot levels) ≡ with_diagnosis_c (sampled_slot c v) (active_slot c levels).core.diagnosis = went_next c t levels h in
      let y : accepted c (Slot levels) ≡ true = is_accepted c l (Slot levels) _ (active_slot c levels) h in
      logs_next c l (Slot levels) {n = sampled_log l v (sampled_slot c v).memory} (rw n (sampled_logs v (sample_small c levels) (subst (λ (x : Controller). Below 256 x.memory) n (below (Slot levels))))) (rw (y, a, n))

  pub next_logs : (e : Event) → Step c e → Logs (next c e) (log_next c l e)
  next_logs e (refusal n h) =
      logs_next c l e {n = l} (rw (refused_next c t e n h) i.stands) (rw (refused_not c t e n h))
  next_logs Reset (reset h) =
      plain_next c l Reset (reset_all c) (accepted_next c t Reset 0 (reset_all c) h) (unfold reset_all reset_core in apart_stands l) (is_accepted c l Reset 0 (reset_all c) h) (unfold log_in in refl)
  next_logs (Write a v) (wrote h) =
      plain_next c l (Write a v) (host_written c a (v % 256)) (accepted_next c t (Write a v) 0 (host_written c a (v % 256)) h) (written_stands l c a (v % 256) i.stands) (is_accepted c l (Write a v) 0 (host_written c a (v % 256)) h) (unfold log_in in refl)
  next_logs (Read a) (gave value h) = plain_next c l (Read a) c (accepted_next c t (Read a) value c h) i.stands (is_accepted c l (Read a) value c h) (unfold log_in in refl)
  next_logs (Slot levels) (went a h) = slot_logs levels a h
  next_logs (Slot levels) (rested a h) =
      plain_next c l (Slot levels) (with_diagnosis_c c (resting_slot c levels).core.diagnosis) (rested_next c t levels h) i.stands (unfold rested_slot in is_accepted c l (Slot levels) _ (resting_slot c levels) h) (unfold log_in in rw a)
