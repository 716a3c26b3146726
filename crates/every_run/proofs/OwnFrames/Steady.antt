-- What every reached controller keeps between events.
--   Past == the frame under way is past its R/W slot        Beside == a reply stands beside no attempt
--   Steady == a service asked to stop has ended, a waiting idle has a service to wait for, and a reply stands beside no attempt: steady_after
use Prim.Native.Nat.{ℕ, ◌+◌, ◌%◌, ◌≤◌}
use mathlib.Core.Bool.{Bool, true, false, false≢true}
use mathlib.Core.List.{List, [], ◌∷◌}
use mathlib.Core.Path.{◌≡◌, refl, ap, ◌∙◌, sym, subst}
use native.Mathlib.Omega.{arith}
use borrow.Author.Tests.{le-ltb, ne_eqb, eqb-true}
use lib.Dec.{eqb, ltb}
use lib.ListN.{get_or}
use Rattle.std.specs.Prelude.{Option, None, Some}
use Rattle.line.specs.Bits.{pick}
use Rattle.line.proofs.Laws.{picked, pick_same}
use Rattle.diagnosis.specs.declared.Diagnosis.{Diagnosis}
use Rattle.rules.specs.Definitions.Setters.{with_activity, with_report, with_line, with_service, with_diagnosis}
use Rattle.rules.specs.Definitions.Longest.{capacity, most_nibbles, longest_of}
use Rattle.rules.specs.Definitions.Registers.{both, command, interrupt_reset, transmit_control, retry_setting, autonomous, asks_idle, asks_activation, asks_rearbitration}
use Rattle.rules.specs.Definitions.Channels.{lowest_ready}
use Rattle.rules.specs.Definitions.Reception.{free, unsettled, at_place, is_under_way, under_way, is_body, in_body, behind, start_ended, command_ended, reads_asked, moved, entered, bit_taken, more_nibbles, bits_laid, nibble_taken, data_ended, follow_body, follow_acknowledge, follow_end, follow_in, followed, winner_taken}
use Rattle.rules.specs.Definitions.Hearing.{reception_after}
use Rattle.rules.specs.Definitions.Attempt.{no_counts, at_stage, is_serving, in_service, is_between, between_attempts, is_waiting, waits, is_driving, drives_frame, is_answering, is_answered, exhausted, advance}
use Rattle.rules.specs.Definitions.Service.{resting, stopped, ending_of, settled, report_sending, report_ended, fulfils, no_reply, judge_reply, replied, reply_taken, chosen, choice_of, choose, opened, started, abort_asked, rear_asked, aborts, hear_own}
use Rattle.rules.specs.Definitions.State.{is_active, in_mode, serving, reset_core, idled, idle_due, slept, idle_asked, activated}
use Rattle.rules.specs.Definitions.Slots.{role_in, reply_verdict, heard, delivers, verdict_as, verdict, service_judged, ending, reception_judged, memory_judged, reply_after, core_judged, chooses, choice_made, start_made, follows_on, sample_of, judged_slot, sampled_slot}
use Rattle.rules.specs.Definitions.Host.{reset_all, resets, sleeps, mode_commanded, rear_commanded, flags_cleared, core_written, service_asked, stopped_core, byte_written, host_written}
use Rattle.rules.specs.Definitions.Run.{fresh, next, after}
use Rattle.every_run.specs.Tally.{none}
use Rattle.rules.proofs.Logic.{both_true, clash, left}
use Rattle.every_run.proofs.Judged.{Judged, went, lost, broke, done, slot_judged}
use Rattle.every_run.proofs.Judged as judged
use Rattle.every_run.proofs.Roles.{RoleIs, sends, asks, replying, receives, rests, role_is, role_replier, heard_replier}
use Rattle.every_run.proofs.Steps as steps
use Rattle.every_run.proofs.Steps.{Step, step_of, refused_next, accepted_next, went_next, rested_next}
use Rattle.every_run.proofs.Sending.Follow.{idle_service, choice_activity, choice_reception, choice_reply}
use Rattle.rules.specs.declared.Line.{Line}
use Rattle.rules.specs.declared.Phase.{Phase}
use Rattle.rules.specs.declared.Phase.TheVariants.{Quiet, Start, Body, Acknowledge, End}
use Rattle.rules.specs.declared.Reception.{Reception}
use Rattle.rules.specs.declared.Hearing.{Hearing}
use Rattle.rules.specs.declared.Hearing.TheVariants.{Follows}
use Rattle.rules.specs.declared.ImmediateReply.{ImmediateReply}
use Rattle.rules.specs.declared.Stage.{Stage}
use Rattle.rules.specs.declared.Stage.TheVariants.{Resting, Waiting, Opening, Sending, Receiving}
use Rattle.rules.specs.declared.Progress.{Progress}
use Rattle.rules.specs.declared.Effort.{Effort}
use Rattle.rules.specs.declared.Service.{Service}
use Rattle.rules.specs.declared.Verdict.{Verdict}
use Rattle.rules.specs.declared.Verdict.TheVariants.{Unjudged, Goes, Lost, Failed, Done, Answered}
use Rattle.rules.specs.declared.Ending.{Ending}
use Rattle.rules.specs.declared.Ending.TheVariants.{Going, Sent, Exhausted, Aborted, Rearbitrated, Fulfilled}
use Rattle.rules.specs.declared.Role.{Role}
use Rattle.rules.specs.declared.Role.TheVariants.{Replier}
use Rattle.rules.specs.declared.Mode.TheVariants.{Active}
use Rattle.rules.specs.declared.Core.{Core}
use Rattle.rules.specs.declared.Controller.{Controller}
use Rattle.rules.specs.declared.Event.{Event}
use Rattle.rules.specs.declared.Event.TheVariants.{Reset, Write, Read, Slot}

-- ---- a service asked to stop has ended

resting_still : stopped resting ≡ Going
unfolding stopped resting between_attempts is_between at_stage
resting_still = refl

pub stopped_settled : (s : Service) → stopped (settled (stopped s) s) ≡ Going
stopped_settled s = go (stopped s) refl
  where
    go : (x : Ending) → stopped s ≡ x → stopped (settled x s) ≡ Going
    go Going e = unfold settled in e
    go Sent e = unfold settled in resting_still
    go Exhausted e = unfold settled in resting_still
    go Aborted e = unfold settled in resting_still
    go Rearbitrated e = unfold settled in resting_still
    go Fulfilled e = unfold settled in resting_still

ending_settled : (w : Verdict) (s : Service) → stopped (settled (ending_of w s) s) ≡ Going
unfolding ending_of
ending_settled Unjudged s = stopped_settled s
ending_settled Goes s = stopped_settled s
ending_settled Lost s = stopped_settled s
ending_settled (Failed code) s = stopped_settled s
ending_settled Done s = unfold settled in resting_still
ending_settled Answered s = stopped_settled s

judged_still : (k : Core) (w : Verdict) (h : Hearing) → stopped (settled (ending k w h) (service_judged w k.service)) ≡ Going
unfolding ending
judged_still k w h = go (fulfils (delivers (role_in k) h k.reception) k.reception k.service)
  where
    go : (b : Bool) → stopped (settled (pick b Fulfilled (ending_of w (service_judged w k.service))) (service_judged w k.service)) ≡ Going
    go true = unfold settled in resting_still
    go false = ending_settled w (service_judged w k.service)

chosen_still : (m : List ℕ) (c : ℕ) → stopped (chosen m c) ≡ Going
unfolding chosen stopped resting between_attempts is_between at_stage exhausted no_counts
chosen_still m c = rw (le-ltb (retry_setting (get_or m transmit_control 0)) 0 (omega arith))

choose_still : (m : List ℕ) (longest : ℕ) → stopped (choose m longest) ≡ Going
unfolding choose
choose_still m longest = go (lowest_ready m longest)
  where
    go : (x : Option ℕ) → stopped (choice_of m x) ≡ Going
    go None = unfold choice_of in resting_still
    go (Some c) = unfold choice_of in chosen_still m c

choice_still : (m : List ℕ) (k : Core) → stopped k.service ≡ Going → stopped (choice_made m k).service ≡ Going
unfolding choice_made
choice_still m k e =
    let s : Service = choose m (longest_of k) in
    left (λ (x : Core). stopped x.service) (chooses k) (pick (serving s) (with_service (with_report k (report_sending k.report s)) s) k) k Going
    (left (λ (x : Core). stopped x.service) (serving s) (with_service (with_report k (report_sending k.report s)) s) k Going (choose_still m (longest_of k)) e) e

waits_between : (p : Progress) → waits p ≡ true → between_attempts p ≡ true
unfolding waits between_attempts
waits_between p e = go p.stage e
  where
    go : (x : Stage) → is_waiting x ≡ true → is_between x ≡ true
    go Resting e = absurd (false≢true (unfold is_waiting in e))
    go Waiting e = unfold is_between in refl
    go Opening e = unfold is_between in refl
    go Sending e = absurd (false≢true (unfold is_waiting in e))
    go Receiving e = absurd (false≢true (unfold is_waiting in e))

pub opened_still : (s : Service) (k : ℕ) → waits s.effort.progress ≡ true → stopped (opened s k) ≡ stopped s
unfolding opened stopped exhausted
opened_still s k e = rw (waits_between s.effort.progress e) (unfold between_attempts is_between at_stage in refl)

started_still : (s : Service) (a : Bool) (l : Line) (r : Reception) → stopped s ≡ Going → stopped (started s a l r) ≡ Going
unfolding started
started_still s a l r e = go (waits s.effort.progress) refl
  where
    go : (b : Bool) → waits s.effort.progress ≡ b → stopped (pick b (pick (start_ended r) (opened s 10) (pick (under_way r.place) s (pick (both a (free l)) (opened s 0) s))) s) ≡ Going
    go true w =
        left stopped (start_ended r) (opened s 10) (pick (under_way r.place) s (pick (both a (free l)) (opened s 0) s)) Going (opened_still s 10 w ∙ e)
        (left stopped (under_way r.place) s (pick (both a (free l)) (opened s 0) s) Going e (left stopped (both a (free l)) (opened s 0) s Going (opened_still s 0 w ∙ e) e))
    go false w = e

follows_still : (m : List ℕ) (k : Core) → stopped k.service ≡ Going → stopped (follows_on m k).service ≡ Going
unfolding follows_on start_made
follows_still m k e = started_still _ (autonomous (get_or m transmit_control 0)) _ _ (choice_still m (idle_due k) (ap stopped (idle_service k) ∙ e))

-- ---- a waiting idle has a service to wait for

idle_idles : (k : Core) → (idle_due k).activity.waiting ≡ true → serving (idle_due k).service ≡ true
unfolding idle_due
idle_idles k = go k.activity.waiting refl (serving k.service) refl
  where
    go : (a : Bool) → k.activity.waiting ≡ a → (b : Bool) → serving k.service ≡ b
        → (pick a (pick b k (idled k)) k).activity.waiting ≡ true → serving (pick a (pick b k (idled k)) k).service ≡ true
    go true e true d h = d
    go true e false d h = absurd (false≢true (unfold idled in_mode in h))
    go false e b d h = clash e h

choice_serves : (m : List ℕ) (k : Core) → serving k.service ≡ true → serving (choice_made m k).service ≡ true
unfolding choice_made
choice_serves m k e = go (chooses k) (serving (choose m (longest_of k))) refl
  where
    go : (a b : Bool) → serving (choose m (longest_of k)) ≡ b
        → serving (pick a (pick b (with_service (with_report k (report_sending k.report (choose m (longest_of k)))) (choose m (longest_of k))) k) k).service ≡ true
    go true true d = d
    go true false d = e
    go false b d = e

opened_serves : (s : Service) (k : ℕ) → serving (opened s k) ≡ true
unfolding serving opened in_service is_serving at_stage
opened_serves s k = refl

started_serves : (s : Service) (a : Bool) (l : Line) (r : Reception) → serving s ≡ true → serving (started s a l r) ≡ true
unfolding started
started_serves s a l r e =
    left serving (waits s.effort.progress) (pick (start_ended r) (opened s 10) (pick (under_way r.place) s (pick (both a (free l)) (opened s 0) s))) s true
    (left serving (start_ended r) (opened s 10) (pick (under_way r.place) s (pick (both a (free l)) (opened s 0) s)) true (opened_serves s 10)
    (left serving (under_way r.place) s (pick (both a (free l)) (opened s 0) s) true e (left serving (both a (free l)) (opened s 0) s true (opened_serves s 0) e))) e

follows_idles : (m : List ℕ) (k : Core) → (follows_on m k).activity.waiting ≡ true → serving (follows_on m k).service ≡ true
unfolding follows_on start_made
follows_idles m k h =
    started_serves _ (autonomous (get_or m transmit_control 0)) _ _ (choice_serves m (idle_due k) (idle_idles k (ap (λ x. x.waiting) (sym (choice_activity m (idle_due k))) ∙ h)))

-- ---- the frame under way is past its R/W slot

pub data Past : Phase → ℕ → Type 0 where
  body : {n : ℕ} → 3 ≤ n → Past Body n
  acknowledge : {n : ℕ} → Past Acknowledge n
  end : {n : ℕ} → Past End n

abbrev pub PastIn : Reception → Type 0
PastIn r = Past r.place.phase r.nibbles

past_under : {p : Phase} {n : ℕ} → Past p n → is_under_way p ≡ true
unfolding is_under_way
past_under (body h) = refl
past_under acknowledge = refl
past_under end = refl

past_started : (r : Reception) → PastIn r → start_ended r ≡ false
unfolding start_ended behind in_body
past_started r q = go q
  where
    go : {p : Phase} {n : ℕ} → Past p n → both (is_body p) (both (eqb n 0) (eqb r.place.at 0)) ≡ false
    go {n = n} (body h) = unfold is_body in rw (ne_eqb n 0 (λ e. omega arith))
    go acknowledge = unfold is_body in refl
    go end = unfold is_body in refl

more_three : (n : ℕ) → 3 ≤ n → 3 ≤ more_nibbles n
unfolding more_nibbles
more_three n h = picked (λ (x : ℕ). 3 ≤ x) (ltb n (most_nibbles capacity)) (n + 1) (most_nibbles capacity) (λ e. omega arith) (λ e. omega arith)

past_followed : (r : Reception) (v : ℕ) → PastIn r → PastIn (followed r v)
unfolding followed
past_followed r v q = go r.place.phase refl q
  where
    same : (p : Phase) → r.place.phase ≡ p → Past p r.nibbles → PastIn (moved r)
    same p e q = unfold moved at_place in subst (λ (x : Phase). Past x r.nibbles) (sym e) q

    go : (p : Phase) → r.place.phase ≡ p → Past p r.nibbles → PastIn (follow_in p r v)
    go Body e (body h) =
        unfold follow_in follow_body in
        picked PastIn (ltb r.place.at 4) (bit_taken r v) _ (λ i. unfold bit_taken in same Body e (body h))
        (λ i. picked PastIn (eqb v (r.bits % 2)) (data_ended r) (nibble_taken r) (λ d. unfold data_ended entered at_place bits_laid in acknowledge)
        (λ d. unfold nibble_taken entered at_place bits_laid in body (more_three r.nibbles h)))
    go Acknowledge e acknowledge =
        unfold follow_in follow_acknowledge in
        picked PastIn (eqb r.place.at 0) (bit_taken r v) (entered r End) (λ i. unfold bit_taken in same Acknowledge e acknowledge) (λ i. unfold entered at_place in end)
    go End e end =
        unfold follow_in follow_end in
        picked PastIn (ltb r.place.at 7) (moved r) r (λ i. same End e end) (λ i. subst (λ (x : Phase). Past x r.nibbles) (sym e) end)
    go Quiet e x = elim x [ ]
    go Start e x = elim x [ ]

winner_past : (m : List ℕ) (r : Reception) → PastIn r → PastIn (pick (command_ended r) (winner_taken r m) r)
winner_past m r q = picked PastIn (command_ended r) (winner_taken r m) r (λ e. unfold winner_taken in q) (λ e. q)

past_judged : (m : List ℕ) (r : Reception) (v : ℕ) → PastIn r → PastIn (reception_judged m Follows r v)
unfolding reception_judged reception_after
past_judged m r v q = winner_past m (followed r v) (past_followed r v q)

reads_past : (r : Reception) → reads_asked r ≡ true → PastIn r
unfolding reads_asked in_body
reads_past r e =
    let b = both_true (is_body r.place.phase) _ e in
    let n = both_true (eqb r.nibbles 3) _ b.1 in
    go r.place.phase r.nibbles b.0 (eqb-true r.nibbles 3 n.0)
  where
    go : (p : Phase) (n : ℕ) → is_body p ≡ true → n ≡ 3 → Past p n
    go Quiet n e d = absurd (false≢true (unfold is_body in e))
    go Start n e d = absurd (false≢true (unfold is_body in e))
    go Body n e d = body {n = n} (omega arith)
    go Acknowledge n e d = acknowledge
    go End n e d = end

-- ---- a reply stands beside no attempt

pub record Beside (s : Service) (r : Reception) : Type 0 where
  pub driving : drives_frame s.effort.progress ≡ false
  pub asking : is_answered s.effort.progress ≡ false
  pub past : PastIn r

-- the end of a service leaves it or leaves none
settled_apart : (f : Progress → Bool) → f resting.effort.progress ≡ false → (x : Ending) (s : Service) → f s.effort.progress ≡ false → f (settled x s).effort.progress ≡ false
unfolding settled
settled_apart f z Going s e = e
settled_apart f z Sent s e = z
settled_apart f z Exhausted s e = z
settled_apart f z Aborted s e = z
settled_apart f z Rearbitrated s e = z
settled_apart f z Fulfilled s e = z

rest_driving : drives_frame resting.effort.progress ≡ false
unfolding resting at_stage drives_frame is_driving
rest_driving = refl

rest_asking : is_answered resting.effort.progress ≡ false
unfolding resting at_stage is_answered is_answering
rest_asking = refl

unjudged_same : (s : Service) → service_judged Unjudged s ≡ s
unfolding service_judged advance
unjudged_same s = refl

module _ (m : List ℕ) (k : Core) (v : ℕ) where
  abbrev w : Verdict
  w = verdict k v

  abbrev h : Hearing
  h = heard k w v

  abbrev here : Reception
  here = reception_judged m h k.reception v

  abbrev served : Service
  served = settled (ending k w h) (service_judged w k.service)

  unjudged_apart : w ≡ Unjudged → drives_frame k.service.effort.progress ≡ false → is_answered k.service.effort.progress ≡ false → PastIn here → Beside served here
  unjudged_apart e d a p =
      let s : service_judged w k.service ≡ k.service = ap (λ (x : Verdict). service_judged x k.service) e ∙ unjudged_same k.service in
      record {
        driving = settled_apart drives_frame rest_driving (ending k w h) (service_judged w k.service) (ap (λ (x : Service). drives_frame x.effort.progress) s ∙ d);
        asking = settled_apart is_answered rest_asking (ending k w h) (service_judged w k.service) (ap (λ (x : Service). is_answered x.effort.progress) s ∙ a);
        past = p;
      }

  -- a reply that goes on, in a frame that follows
  reply_past : {q : Verdict} → Judged k.reply.frame k.reply.at v q → judge_reply k.reply v ≡ q → h ≡ hear_own (judge_reply k.reply v) → PastIn k.reception
      → (replied q k.reply).going ≡ true → PastIn here
  unfolding replied no_reply
  reply_past (went a b) e i p g =
      let f : h ≡ Follows = i ∙ ap hear_own e ∙ (unfold hear_own in refl) in
      subst (λ (x : Hearing). PastIn (reception_judged m x k.reception v)) (sym f) (past_judged m k.reception v p)
  reply_past (lost a b c) e i p g = absurd (false≢true g)
  reply_past (broke code a) e i p g = absurd (false≢true g)
  reply_past done e i p g = absurd (false≢true g)
  reply_past (judged.answered a b c) e i p g = absurd (false≢true g)

  judged_beside : (k.reply.going ≡ true → Beside k.service k.reception) → (reply_after (role_in k) m k (reply_verdict (role_in k) k v) here).going ≡ true → Beside served here
  judged_beside b g = go (role_is k.service.effort.progress k.reply.going k.reception.place) refl g
    where
      by_role : {x : Role} → role_in k ≡ x → verdict_as x k v ≡ Unjudged → w ≡ Unjudged
      by_role e u = unfold verdict in ap (λ (y : Role). verdict_as y k v) e ∙ u

      go : {x : Role} → RoleIs k.service.effort.progress k.reply.going k.reception.place x → role_in k ≡ x
          → (reply_after x m k (reply_verdict x k v) here).going ≡ true → Beside served here
      go (sends d) e g = clash (b (unfold reply_after in g)).driving d
      go (asks d a) e g = clash (b (unfold reply_after in g)).asking a
      go (replying d a y) e g =
          let j : Judged k.reply.frame k.reply.at v (judge_reply k.reply v) = unfold judge_reply in slot_judged k.reply.frame k.reply.at v in
          let i : (replied (judge_reply k.reply v) k.reply).going ≡ true = unfold reply_after reply_verdict in g in
          unjudged_apart (by_role e (unfold verdict_as in refl)) d a (reply_past j refl (heard_replier k w v d a y) (b y).past i)
      go (receives d a y u) e g = unjudged_apart (by_role e (unfold verdict_as in refl)) d a (reads_past here (asked (reads_asked here) refl (unfold reply_after in g)))
        where
          asked : (b : Bool) → reads_asked here ≡ b → (pick b (reply_taken m (longest_of k) here) k.reply).going ≡ true → reads_asked here ≡ true
          asked true e g = e
          asked false e g = clash y g
      go (rests d a y u) e g = clash y (unfold reply_after in g)

-- idle cuts the reply off
idle_beside : (k : Core) → (k.reply.going ≡ true → Beside k.service k.reception) → (idle_due k).reply.going ≡ true → Beside (idle_due k).service (idle_due k).reception
unfolding idle_due
idle_beside k b = go k.activity.waiting (serving k.service)
  where
    go : (a d : Bool) → (pick a (pick d k (idled k)) k).reply.going ≡ true → Beside (pick a (pick d k (idled k)) k).service (pick a (pick d k (idled k)) k).reception
    go true true g = b g
    go true false g = absurd (false≢true (unfold idled no_reply in g))
    go false d g = b g

chosen_apart : (f : Progress → Bool) → f resting.effort.progress ≡ false → f (at_stage Waiting 0) ≡ false → (m : List ℕ) (x : Option ℕ) → f (choice_of m x).effort.progress ≡ false
unfolding choice_of chosen
chosen_apart f z q m None = z
chosen_apart f z q m (Some c) = q

choice_apart : (f : Progress → Bool) → f resting.effort.progress ≡ false → f (at_stage Waiting 0) ≡ false
    → (m : List ℕ) (k : Core) → f k.service.effort.progress ≡ false → f (choice_made m k).service.effort.progress ≡ false
unfolding choice_made choose
choice_apart f z q m k e =
    let s : Service = choice_of m (lowest_ready m (longest_of k)) in
    left (λ (x : Core). f x.service.effort.progress) (chooses k) (pick (serving s) (with_service (with_report k (report_sending k.report s)) s) k) k false
    (left (λ (x : Core). f x.service.effort.progress) (serving s) (with_service (with_report k (report_sending k.report s)) s) k false (chosen_apart f z q m (lowest_ready m (longest_of k))) e) e

-- past its R/W slot a frame is no start
started_past : (s : Service) (a : Bool) (l : Line) (r : Reception) → PastIn r → started s a l r ≡ s
unfolding started
started_past s a l r p = rw (past_started r p, under) (pick_same (waits s.effort.progress) s)
  where
    under : under_way r.place ≡ true
    under = unfold under_way in past_under p

module _ (m : List ℕ) (k : Core) (b : k.reply.going ≡ true → Beside k.service k.reception) where
  choice_beside : (choice_made m k).reply.going ≡ true → Beside (choice_made m k).service (choice_made m k).reception
  choice_beside g =
      let o : Beside k.service k.reception = b (ap (λ (y : ImmediateReply). y.going) (sym (choice_reply m k)) ∙ g) in
      record {
        driving = choice_apart drives_frame rest_driving (unfold at_stage drives_frame is_driving in refl) m k o.driving;
        asking = choice_apart is_answered rest_asking (unfold at_stage is_answered is_answering in refl) m k o.asking;
        past = subst PastIn (sym (choice_reception m k)) o.past;
      }

  start_beside : (start_made m k).reply.going ≡ true → Beside (start_made m k).service (start_made m k).reception
  unfolding start_made
  start_beside g =
      let o : Beside k.service k.reception = b g in
      subst (λ (s : Service). Beside s k.reception) (sym (started_past k.service (autonomous (get_or m transmit_control 0)) k.line k.reception o.past)) o

follows_beside : (m : List ℕ) (k : Core) → (k.reply.going ≡ true → Beside k.service k.reception) → (follows_on m k).reply.going ≡ true → Beside (follows_on m k).service (follows_on m k).reception
unfolding follows_on
follows_beside m k b = start_beside m (choice_made m (idle_due k)) (choice_beside m (idle_due k) (idle_beside k b))

-- ---- every event

pub record Steady (k : Core) : Type 0 where
  pub still : stopped k.service ≡ Going
  pub idles : k.activity.waiting ≡ true → serving k.service ≡ true
  pub beside : k.reply.going ≡ true → Beside k.service k.reception

core_beside : (m : List ℕ) (k : Core) (v : ℕ) → (k.reply.going ≡ true → Beside k.service k.reception)
    → (core_judged m k (verdict k v) (reply_verdict (role_in k) k v) (heard k (verdict k v) v) v).reply.going ≡ true
    → Beside (core_judged m k (verdict k v) (reply_verdict (role_in k) k v) (heard k (verdict k v) v) v).service (core_judged m k (verdict k v) (reply_verdict (role_in k) k v) (heard k (verdict k v) v) v).reception
unfolding core_judged
core_beside m k v b g = judged_beside m k v b g

sampled_steady : (c : Controller) (v : ℕ) → Steady c.core → Steady (sampled_slot c v).core
unfolding sampled_slot judged_slot
sampled_steady c v s =
    let w : Verdict = verdict c.core v in
    let q : Verdict = reply_verdict (role_in c.core) c.core v in
    let h : Hearing = heard c.core w v in
    let m : List ℕ = memory_judged c.memory c.core w q h in
    let k : Core = core_judged m c.core w q h v in
    record {
      still = follows_still m k (unfold core_judged in judged_still c.core w h);
      idles = follows_idles m k;
      beside = follows_beside m k (core_beside m c.core v s.beside);
    }

-- what a write asks of the service leaves its effort
pub effort_asked : (s : Service) (a v : ℕ) → (service_asked s a v).effort ≡ s.effort
unfolding service_asked rear_commanded rear_asked abort_asked
effort_asked s a v =
    left (λ (x : Service). x.effort) (eqb a command) (pick (asks_rearbitration v) (rear_asked s) s) (pick (aborts s a v) (abort_asked s) s) s.effort
    (left (λ (x : Service). x.effort) (asks_rearbitration v) (rear_asked s) s s.effort refl refl)
    (left (λ (x : Service). x.effort) (aborts s a v) (abort_asked s) s s.effort refl refl)

-- a write leaves reply and frame, until idle is due
pub written_leaves : {B : Type 0} (f : Core → B) (k : Core) (a v : ℕ) → ((x : Core) → f (with_activity x (in_mode Active true)) ≡ f x) → ((x : Core) → f (with_activity x (in_mode Active false)) ≡ f x)
    → ((x : Core) → f (with_line x unsettled) ≡ f x) → f (flags_cleared k v) ≡ f k → f (core_written k a v) ≡ f k
unfolding core_written mode_commanded idle_asked activated
written_leaves f k a v p q l c =
    left f (eqb a command) (mode_commanded k v) (pick (eqb a interrupt_reset) (flags_cleared k v) k) (f k)
    (left f (asks_idle v) (idle_asked k) (pick (asks_activation v) (activated k) k) (f k)
    (left f (is_active k.activity.mode) (with_activity k (in_mode Active true)) k (f k) (p k) refl)
    (left f (asks_activation v) (activated k) k (f k)
    (left f (is_active k.activity.mode) (with_activity k (in_mode Active false)) (with_line (with_activity k (in_mode Active false)) unsettled) (f k) (q k) (l (with_activity k (in_mode Active false)) ∙ q k)) refl))
    (left f (eqb a interrupt_reset) (flags_cleared k v) k (f k) c refl)

pub written_reply : (k : Core) (a v : ℕ) → (core_written k a v).reply ≡ k.reply
written_reply k a v = written_leaves (λ x. x.reply) k a v (λ x. refl) (λ x. refl) (λ x. refl) (unfold flags_cleared in refl)

pub written_reception : (k : Core) (a v : ℕ) → (core_written k a v).reception ≡ k.reception
written_reception k a v = written_leaves (λ x. x.reception) k a v (λ x. refl) (λ x. refl) (λ x. refl) (unfold flags_cleared in refl)

byte_steady : (c : Controller) (a v : ℕ) → Steady c.core → Steady (byte_written c a v).core
unfolding byte_written stopped_core
byte_steady c a v s =
    let t : Service = service_asked c.core.service a v in
    let k : Core = core_written c.core a v in
    let j : Core = with_service (with_report k (report_ended (stopped t) k.report t)) (settled (stopped t) t) in
    let o : t.effort ≡ c.core.service.effort = effort_asked c.core.service a v in
    record {
      still = ap stopped (idle_service j) ∙ stopped_settled t;
      idles = idle_idles j;
      beside = idle_beside j (λ g.
          let b = s.beside (ap (λ (y : ImmediateReply). y.going) (sym (written_reply c.core a v)) ∙ g) in
          record {
            driving = settled_apart drives_frame rest_driving (stopped t) t (ap (λ (x : Effort). drives_frame x.progress) o ∙ b.driving);
            asking = settled_apart is_answered rest_asking (stopped t) t (ap (λ (x : Effort). is_answered x.progress) o ∙ b.asking);
            past = subst PastIn (sym (written_reception c.core a v)) b.past;
          });
    }

reset_steady : Steady reset_core
unfolding reset_core
reset_steady = record { still = resting_still; idles = λ e. absurd (false≢true (unfold in_mode in e)); beside = λ e. absurd (false≢true (unfold no_reply in e)) }

slept_steady : (k : Core) → Steady (slept k)
unfolding slept
slept_steady k = record { still = resting_still; idles = λ e. absurd (false≢true (unfold in_mode in e)); beside = λ e. absurd (false≢true (unfold no_reply in e)) }

abbrev SteadyAt : Controller → Type 0
SteadyAt c = Steady c.core

written_steady : (c : Controller) (a v : ℕ) → Steady c.core → SteadyAt (host_written c a v)
unfolding host_written
written_steady c a v s =
    picked SteadyAt (resets a v) (reset_all c) _ (λ e. unfold reset_all in reset_steady)
    (λ e. picked SteadyAt (sleeps a v) _ (byte_written c a v) (λ d. slept_steady c.core) (λ d. byte_steady c a v s))

-- it does not look at the diagnosis
beside_steady : (k : Core) (x : Diagnosis) → Steady k → Steady (with_diagnosis k x)
beside_steady k x s = record { still = s.still; idles = s.idles; beside = s.beside }

pub steady_next : (c : Controller) (e : Event) → Steady c.core → Steady (next c e).core
steady_next c e s = go e (step_of c e)
  where
    to : {d : Controller} (e : Event) → next c e ≡ d → SteadyAt d → SteadyAt (next c e)
    to e n s = subst SteadyAt (sym n) s

    go : (e : Event) → Step c e → SteadyAt (next c e)
    go e (steps.refusal n h) = to e (refused_next c none e n h) s
    go Reset (steps.reset h) = to Reset (accepted_next c none Reset 0 (reset_all c) h) (unfold reset_all in reset_steady)
    go (Write a v) (steps.wrote h) = to (Write a v) (accepted_next c none (Write a v) 0 (host_written c a (v % 256)) h) (written_steady c a (v % 256) s)
    go (Read a) (steps.gave value h) = to (Read a) (accepted_next c none (Read a) value c h) s
    go (Slot l) (steps.went a h) =
        to (Slot l) (went_next c none l h) (beside_steady _ _ (sampled_steady c (sample_of c l) s))
    go (Slot l) (steps.rested a h) =
        to (Slot l) (rested_next c none l h) (beside_steady c.core _ s)

pub steady_fresh : Steady fresh.core
unfolding fresh reset_all
steady_fresh = reset_steady

-- with a reply under way the model is the replier
pub steady_role : (k : Core) → Steady k → k.reply.going ≡ true → role_in k ≡ Replier
steady_role k s g = let b = s.beside g in role_replier k.service.effort.progress k.reply.going k.reception.place b.driving b.asking g

steady_from : (c : Controller) → Steady c.core → (es : List Event) → Steady (after c es).core
unfolding after
steady_from c s [] = s
steady_from c s (e ∷ es) = steady_from (next c e) (steady_next c e s) es

pub steady_after : (es : List Event) → Steady (after fresh es).core
steady_after es = steady_from fresh steady_fresh es
