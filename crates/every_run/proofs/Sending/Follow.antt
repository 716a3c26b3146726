-- A slot and a host write of the controller, part by part: what they do to the service and to TE.
use Prim.Native.Nat.{ℕ, ◌/◌, ◌%◌}
use mathlib.Core.Bool.{Bool, true, false, not}
use mathlib.Core.List.{List}
use mathlib.Core.Path.{◌≡◌, refl, ap, ◌∙◌, sym}
use lib.Dec.{eqb}
use lib.ListN.{get_or}
use Rattle.std.specs.Prelude.{Option, None, Some}
use Rattle.line.specs.Bits.{pick}
use Rattle.rules.proofs.Logic.{unless_false, left}
use Rattle.rules.specs.Definitions.Setters.{with_activity, with_report, with_line, with_service}
use Rattle.rules.specs.Definitions.Longest.{longest_of}
use Rattle.rules.specs.Definitions.Registers.{both, command, interrupt_reset, transmit_control, autonomous, cleared, asks_idle, asks_activation}
use Rattle.rules.specs.Definitions.Channels.{lowest_ready, acknowledge_asked}
use Rattle.rules.specs.Definitions.Reception.{free, under_way, unsettled}
use Rattle.rules.specs.Definitions.Delivery.{receive_error, report_stored, report_heard, report_delivered}
use Rattle.rules.specs.Definitions.Attempt.{in_service, is_serving, at_stage}
use Rattle.rules.specs.Definitions.Service.{resting, stopped, settled, report_sending, report_judged, report_ended, report_replied, chosen, choice_of, choose, started}
use Rattle.rules.specs.Definitions.State.{is_active, in_mode, serving, idled, idle_due, idle_asked, activated}
use Rattle.rules.specs.Definitions.Slots.{role_in, delivers, service_judged, ending, report_after, chooses, choice_made, start_made, follows_on}
use Rattle.rules.specs.Definitions.Host.{mode_commanded, flags_cleared, core_written, stopped_core}
use Rattle.every_run.specs.Tally.{Stand, away, between, opening, inside, answered, Tally, choice_t, choose_in, choose_t, start_t}
use Rattle.every_run.proofs.Sending.Join.{made, service_in, service_of, choose_is, started_is}
use Rattle.rules.specs.declared.Report.{Report}
use Rattle.rules.specs.declared.Reception.{Reception}
use Rattle.rules.specs.declared.Hearing.{Hearing}
use Rattle.rules.specs.declared.Hearing.TheVariants.{Silent, Follows, Fault, Good}
use Rattle.rules.specs.declared.Delivery.{Delivery}
use Rattle.rules.specs.declared.Delivery.TheVariants as delivery
use Rattle.rules.specs.declared.Service.{Service}
use Rattle.rules.specs.declared.Verdict.{Verdict}
use Rattle.rules.specs.declared.Verdict.TheVariants.{Unjudged, Goes, Lost, Failed, Done, Answered}
use Rattle.rules.specs.declared.Ending.{Ending}
use Rattle.rules.specs.declared.Ending.TheVariants.{Going, Sent, Exhausted, Aborted, Rearbitrated, Fulfilled}
use Rattle.rules.specs.declared.Mode.TheVariants.{Active}
use Rattle.rules.specs.declared.Core.{Core}

-- ---- a waiting idle leaves service and registers

module _ (k : Core) where
  pub idle_leaves : {B : Type 0} (f : Core → B) → f (idled k) ≡ f k → f (idle_due k) ≡ f k
  unfolding idle_due
  idle_leaves f e = left f k.activity.waiting (pick (serving k.service) k (idled k)) k (f k) (left f (serving k.service) k (idled k) (f k) refl e) refl

  pub idle_service : (idle_due k).service ≡ k.service
  idle_service = idle_leaves (λ x. x.service) (unfold idled in refl)

  pub idle_report : (idle_due k).report ≡ k.report
  idle_report = idle_leaves (λ x. x.report) (unfold idled in refl)

-- ---- the choice leaves mode, line, frame and flags

module _ (m : List ℕ) (k : Core) where
  chosen_core : Service → Core
  chosen_core s = with_service (with_report k (report_sending k.report s)) s

  choice_leaves : {B : Type 0} (f : Core → B) → f (chosen_core (choose m (longest_of k))) ≡ f k → f (choice_made m k) ≡ f k
  unfolding choice_made chosen_core
  choice_leaves f e =
      left f (chooses k) (pick (serving (choose m (longest_of k))) (with_service (with_report k (report_sending k.report (choose m (longest_of k)))) (choose m (longest_of k))) k) k (f k)
      (left f (serving (choose m (longest_of k))) (with_service (with_report k (report_sending k.report (choose m (longest_of k)))) (choose m (longest_of k))) k (f k) e refl) refl

  pub choice_activity : (choice_made m k).activity ≡ k.activity
  choice_activity = choice_leaves (λ x. x.activity) (unfold chosen_core in refl)

  pub choice_line : (choice_made m k).line ≡ k.line
  choice_line = choice_leaves (λ x. x.line) (unfold chosen_core in refl)

  pub choice_reception : (choice_made m k).reception ≡ k.reception
  choice_reception = choice_leaves (λ x. x.reception) (unfold chosen_core in refl)

  pub choice_reply : (choice_made m k).reply ≡ k.reply
  choice_reply = choice_leaves (λ x. x.reply) (unfold chosen_core in refl)

  pub choice_flags : (choice_made m k).report.flags ≡ k.report.flags
  choice_flags = choice_leaves (λ x. x.report.flags) (unfold chosen_core report_sending in refl)

  choice_message : (choice_made m k).report.message ≡ k.report.message
  choice_message = choice_leaves (λ x. x.report.message) (unfold chosen_core report_sending in refl)

  choice_error : (choice_made m k).report.error ≡ k.report.error
  choice_error = choice_leaves (λ x. x.report.error) (unfold chosen_core report_sending in refl)

  choice_is : (x : Option ℕ) → k.service ≡ resting
      → (pick (serving (choice_of m x)) (with_service (with_report k (report_sending k.report (choice_of m x))) (choice_of m x)) k).service ≡ service_of (choice_t m x)
  choice_is None e = unfold choice_of choice_t serving resting in_service is_serving at_stage in (e ∙ unfold choice_of in choose_is m None)
  choice_is (Some c) e = unfold choice_of chosen serving in_service is_serving at_stage in choose_is m (Some c)

  pub chooses_as : (b : Bool) → serving k.service ≡ b → chooses k ≡ both (is_active k.activity.mode) (both (not b) (not (under_way k.reception.place)))
  unfolding chooses
  chooses_as b e = rw e

  -- with no service
  away_service : (t : Tally) → t.stand ≡ away → k.service ≡ service_in away t
      → (choice_made m k).service ≡ service_of (choose_in away t m (longest_of k) (is_active k.activity.mode) k.reception)
  unfolding choice_made choose_in choose service_in service_of
  away_service t e s =
      rw (chooses_as false (rw s (unfold serving resting in_service is_serving at_stage in refl))) (go (is_active k.activity.mode) (under_way k.reception.place))
    where
      same : k.service ≡ service_of t
      same = s ∙ ap (λ (x : Stand). service_in x t) (sym e)

      go : (a u : Bool) → (pick (both a (both (not false) (not u))) (pick (serving (choice_of m (lowest_ready m (longest_of k)))) (with_service (with_report k (report_sending k.report (choice_of m (lowest_ready m (longest_of k))))) (choice_of m (lowest_ready m (longest_of k)))) k) k).service
          ≡ service_of (pick a (pick u t (choice_t m (lowest_ready m (longest_of k)))) t)
      go false u = same
      go true true = same
      go true false = choice_is (lowest_ready m (longest_of k)) s

  -- in a service nothing is chosen
  busy_service : serving k.service ≡ true → (choice_made m k).service ≡ k.service
  unfolding choice_made
  busy_service e = rw (chooses_as true e) (go (is_active k.activity.mode))
    where
      go : (a : Bool) → (pick (both a (both (not true) (not (under_way k.reception.place)))) (pick (serving (choose m (longest_of k))) (with_service (with_report k (report_sending k.report (choose m (longest_of k)))) (choose m (longest_of k))) k) k).service ≡ k.service
      go true = refl
      go false = refl

  choice_service_in : (s : Stand) (t : Tally) → t.stand ≡ s → k.service ≡ service_in s t
      → (choice_made m k).service ≡ service_of (choose_in s t m (longest_of k) (is_active k.activity.mode) k.reception)
  choice_service_in away t e d = away_service t e d
  choice_service_in between t e d = unfold choose_in in (busy_service (rw d (unfold service_in made serving in_service is_serving at_stage in refl)) ∙ d ∙ unfold service_of in ap (λ (x : Stand). service_in x t) (sym e))
  choice_service_in (opening start) t e d = unfold choose_in in (busy_service (rw d (unfold service_in made serving in_service is_serving at_stage in refl)) ∙ d ∙ unfold service_of in ap (λ (x : Stand). service_in x t) (sym e))
  choice_service_in (inside start levels) t e d = unfold choose_in in (busy_service (rw d (unfold service_in made serving in_service is_serving at_stage in refl)) ∙ d ∙ unfold service_of in ap (λ (x : Stand). service_in x t) (sym e))
  choice_service_in (answered start n) t e d = unfold choose_in in (busy_service (rw d (unfold service_in made serving in_service is_serving at_stage in refl)) ∙ d ∙ unfold service_of in ap (λ (x : Stand). service_in x t) (sym e))

  pub choice_service : (t : Tally) → k.service ≡ service_of t → (choice_made m k).service ≡ service_of (choose_t t m (longest_of k) (is_active k.activity.mode) k.reception)
  unfolding service_of choose_t
  choice_service t d = choice_service_in t.stand t refl d

-- ---- TE: raised by exhaustion, and by nothing else

unfoldable pub is_exhausted : Ending → Bool
is_exhausted Going = false
is_exhausted Sent = false
is_exhausted Exhausted = true
is_exhausted Aborted = false
is_exhausted Rearbitrated = false
is_exhausted Fulfilled = false

te_ended : (x : Ending) (r : Report) (s : Service) → (report_ended x r s).flags.te ≡ pick (is_exhausted x) true r.flags.te
unfolding report_ended is_exhausted
te_ended Going r s = refl
te_ended Sent r s = refl
te_ended Exhausted r s = refl
te_ended Aborted r s = refl
te_ended Rearbitrated r s = refl
te_ended Fulfilled r s = refl

te_verdict : (w : Verdict) (r : Report) (s : Service) → (report_judged w r s).flags.te ≡ r.flags.te
unfolding report_judged report_sending
te_verdict Unjudged r s = refl
te_verdict Goes r s = refl
te_verdict Lost r s = refl
te_verdict (Failed code) r s = refl
te_verdict Done r s = refl
te_verdict Answered r s = refl

te_replied : (q : Verdict) (r : Report) (c : ℕ) → (report_replied q r c).flags.te ≡ r.flags.te
unfolding report_replied
te_replied Unjudged r c = refl
te_replied Goes r c = refl
te_replied Lost r c = refl
te_replied (Failed code) r c = refl
te_replied Done r c = refl
te_replied Answered r c = refl

te_stored : (r : Report) (asked : Bool) (channel : ℕ) → (report_stored r asked channel).flags.te ≡ r.flags.te
unfolding report_stored
te_stored r true channel = refl
te_stored r false channel = refl

te_delivered : (d : Delivery) (r : Report) (x : Reception) → (report_delivered d r x).flags.te ≡ r.flags.te
unfolding report_delivered receive_error
te_delivered delivery.Nothing r x = refl
te_delivered delivery.Stored r x = te_stored r (acknowledge_asked (get_or x.bytes 1 0)) x.winner.channel
te_delivered delivery.Overflowed r x = refl
te_delivered delivery.Spoiled r x = refl

te_heard : (h : Hearing) (r : Report) → (report_heard h r).flags.te ≡ r.flags.te
unfolding report_heard
te_heard Silent r = refl
te_heard Follows r = refl
te_heard (Fault code) r = refl
te_heard Good r = refl

pub te_judged : (k : Core) (w q : Verdict) (h : Hearing) → (report_after k w q h).flags.te ≡ pick (is_exhausted (ending k w h)) true k.report.flags.te
unfolding report_after
te_judged k w q h =
    te_replied q (report_ended (ending k w h) (report_judged w (report_delivered (delivers (role_in k) h k.reception) (report_heard h k.report) k.reception) (service_judged w k.service)) (service_judged w k.service)) k.reply.channel
    ∙ te_ended (ending k w h) (report_judged w (report_delivered (delivers (role_in k) h k.reception) (report_heard h k.report) k.reception) (service_judged w k.service)) (service_judged w k.service)
    ∙ ap (λ (b : Bool). pick (is_exhausted (ending k w h)) true b)
    (te_verdict w (report_delivered (delivers (role_in k) h k.reception) (report_heard h k.report) k.reception) (service_judged w k.service)
    ∙ te_delivered (delivers (role_in k) h k.reception) (report_heard h k.report) k.reception
    ∙ te_heard h k.report)

-- ---- what follows a judged sample

module _ (m : List ℕ) (k : Core) where
  pub follows_activity : (follows_on m k).activity ≡ (idle_due k).activity
  unfolding follows_on start_made
  follows_activity = choice_activity m (idle_due k)

  pub follows_line : (follows_on m k).line ≡ (idle_due k).line
  unfolding follows_on start_made
  follows_line = choice_line m (idle_due k)

  pub follows_reception : (follows_on m k).reception ≡ (idle_due k).reception
  unfolding follows_on start_made
  follows_reception = choice_reception m (idle_due k)

  pub follows_reply : (follows_on m k).reply ≡ (idle_due k).reply
  unfolding follows_on start_made
  follows_reply = choice_reply m (idle_due k)

  pub follows_te : (follows_on m k).report.flags.te ≡ k.report.flags.te
  unfolding follows_on start_made
  follows_te = ap (λ x. x.te) (choice_flags m (idle_due k)) ∙ ap (λ x. x.flags.te) (idle_report k)

  pub follows_message : (follows_on m k).report.message ≡ k.report.message
  unfolding follows_on start_made
  follows_message = choice_message m (idle_due k) ∙ ap (λ x. x.message) (idle_report k)

  pub follows_error : (follows_on m k).report.error ≡ k.report.error
  unfolding follows_on start_made
  follows_error = choice_error m (idle_due k) ∙ ap (λ x. x.error) (idle_report k)

  -- the service after choice and start is that of the tally after them
  pub follows_service : (t : Tally) → k.service ≡ service_of t
      → (follows_on m k).service ≡ service_of (start_t (choose_t t m (longest_of k) (is_active (follows_on m k).activity.mode) (follows_on m k).reception) m (free (follows_on m k).line) (follows_on m k).reception)
  unfolding follows_on start_made
  follows_service t e =
      let x : Core = idle_due k in
      let s : (choice_made m x).service ≡ service_of (choose_t t m (longest_of k) (is_active x.activity.mode) x.reception) = choice_service m x t (idle_service k ∙ e) in
      rw (choice_activity m x, choice_line m x, choice_reception m x)
      (ap (λ (y : Service). started y (autonomous (get_or m transmit_control 0)) x.line x.reception) s
      ∙ started_is m x.line x.reception (choose_t t m (longest_of k) (is_active x.activity.mode) x.reception))

-- ---- a host write

-- a command changes the mode, and leaves service and registers
module _ (k : Core) (v : ℕ) where
  mode_leaves : {B : Type 0} (f : Core → B) → f (idle_asked k) ≡ f k → f (activated k) ≡ f k → f (mode_commanded k v) ≡ f k
  unfolding mode_commanded
  mode_leaves f p q = left f (asks_idle v) (idle_asked k) (pick (asks_activation v) (activated k) k) (f k) p (left f (asks_activation v) (activated k) k (f k) q refl)

  idle_asked_keeps : {B : Type 0} (f : Core → B) → f (with_activity k (in_mode Active true)) ≡ f k → f (idle_asked k) ≡ f k
  unfolding idle_asked
  idle_asked_keeps f p = left f (is_active k.activity.mode) (with_activity k (in_mode Active true)) k (f k) p refl

  mode_service : (mode_commanded k v).service ≡ k.service
  mode_service = mode_leaves (λ x. x.service) (idle_asked_keeps (λ x. x.service) refl) activated_service
    where
      activated_service : (activated k).service ≡ k.service
      activated_service = unfold activated in left (λ x. x.service) (is_active k.activity.mode) (with_activity k (in_mode Active false)) (with_line (with_activity k (in_mode Active false)) unsettled) k.service refl refl

  pub mode_report : (mode_commanded k v).report ≡ k.report
  mode_report = mode_leaves (λ x. x.report) (idle_asked_keeps (λ x. x.report) refl) activated_report
    where
      activated_report : (activated k).report ≡ k.report
      activated_report = unfold activated in left (λ x. x.report) (is_active k.activity.mode) (with_activity k (in_mode Active false)) (with_line (with_activity k (in_mode Active false)) unsettled) k.report refl refl

module _ (k : Core) (address v : ℕ) where
  pub written_service : (core_written k address v).service ≡ k.service
  unfolding core_written
  written_service =
      left (λ x. x.service) (eqb address command) (mode_commanded k v) (pick (eqb address interrupt_reset) (flags_cleared k v) k) k.service (mode_service k v)
      (left (λ x. x.service) (eqb address interrupt_reset) (flags_cleared k v) k k.service (unfold flags_cleared in refl) refl)

  -- a write can clear TE, and never raises it
  pub written_te : k.report.flags.te ≡ false → (core_written k address v).report.flags.te ≡ false
  unfolding core_written
  written_te e =
      left (λ x. x.report.flags.te) (eqb address command) (mode_commanded k v) (pick (eqb address interrupt_reset) (flags_cleared k v) k) false (ap (λ x. x.flags.te) (mode_report k v) ∙ e)
      (left (λ x. x.report.flags.te) (eqb address interrupt_reset) (flags_cleared k v) k false (unfold flags_cleared cleared in unless_false k.report.flags.te (eqb (v / 16 % 2) 1) e) e)

module _ (k : Core) (s : Service) where
  pub stopped_service : (stopped_core k s).service ≡ settled (stopped s) s
  unfolding stopped_core
  stopped_service = idle_service (with_service (with_report k (report_ended (stopped s) k.report s)) (settled (stopped s) s))

  pub stopped_te : (stopped_core k s).report.flags.te ≡ pick (is_exhausted (stopped s)) true k.report.flags.te
  unfolding stopped_core
  stopped_te =
      ap (λ (x : Report). x.flags.te) (idle_report (with_service (with_report k (report_ended (stopped s) k.report s)) (settled (stopped s) s))) ∙ te_ended (stopped s) k.report s
