-- What a sample, the choice, the start, an abort and REAR do to a fine service, and the service to the registers and the memory map.
--   Served == the service between events        Spent == the service once the attempt has spent the slot
--   Ends == how it may end: it goes on only with errors at most R
use Prim.Native.Nat.{ℕ, ◌-◌, ◌%◌, ◌≤◌}
use mathlib.Core.Bool.{Bool, false, false≢true}
use mathlib.Core.List.{List}
use mathlib.Core.Path.{◌≡◌, sym}
use native.Mathlib.Omega.{arith}
use borrow.Author.Tests.{ltb-true, ltb-false}
use lib.Dec.{ltb}
use lib.ListN.{get_or}
use Rattle.std.specs.Prelude.{Option}
use Rattle.line.specs.Bits.{Below}
use Rattle.line.specs.Frame.{size}
use Rattle.line.proofs.Laws.{picked}
use Rattle.rules.specs.Definitions.Setters.{with_error}
use Rattle.rules.specs.Definitions.Longest.{capacity}
use Rattle.rules.specs.Definitions.Registers.{both}
use Rattle.rules.specs.Definitions.Channels.{buffer_of}
use Rattle.rules.specs.Definitions.Mailbox.{data_in, frame_with, reply_frame, coded}
use Rattle.rules.specs.Definitions.Reception.{free, under_way, start_ended, reply_low}
use Rattle.rules.specs.Definitions.Attempt.{no_counts, at_stage, is_between, between_attempts, waits, slot_spent, lost_spent, error_spent, advance, exhausted}
use Rattle.rules.specs.Definitions.Service.{resting, stopped, ending_of, settled, memory_ended, retries_of, report_sending, report_judged, report_ended, no_reply, judge_reply, reply_moved, replied, memory_replied, report_replied, reply_by, reply_taken, chosen, choice_of, choose, opened, started, abort_asked, rear_asked, hear_own}
use Rattle.every_run.proofs.Judged.{Judged, went, lost, broke, done, answered, slot_judged, on, broken, fulfilled, Tried, unjudged, judged, awaited}
use Rattle.every_run.proofs.Ranges.Limits.{ReplyLimits, ServiceLimits, RetriesLimits, ReportLimits}
use Rattle.rules.proofs.Mailbox.{mailbox_length}
use Rattle.every_run.proofs.Ranges.Bytes.{data_small, fits_sent, setting_small, cher_below, chtx_below, chrx_below, Named, nothing, channel, ready_named, replier_named}
use Rattle.every_run.proofs.Ranges.Reception.{Heard, silent, follows, fault, good}
use Rattle.rules.specs.Definitions.Slots.{service_judged}
use Rattle.rules.specs.declared.Report.{Report}
use Rattle.rules.specs.declared.Line.{Line}
use Rattle.rules.specs.declared.Reception.{Reception}
use Rattle.rules.specs.declared.Coded.{Coded}
use Rattle.rules.specs.declared.Effort.{Effort}
use Rattle.rules.specs.declared.Service.{Service}
use Rattle.rules.specs.declared.ImmediateReply.{ImmediateReply}
use Rattle.rules.specs.declared.Verdict.{Verdict}
use Rattle.rules.specs.declared.Verdict.TheVariants.{Unjudged, Goes, Lost, Failed, Done, Answered}
use Rattle.rules.specs.declared.Ending.{Ending}
use Rattle.rules.specs.declared.Ending.TheVariants.{Going, Sent, Exhausted, Aborted, Rearbitrated, Fulfilled}

pub record Served (s : Service) : Type 0 where
  pub limits : ServiceLimits s
  pub retries : s.effort.counters.errors.0 ≤ s.effort.setting

pub resting_served : Served resting
unfolding resting at_stage no_counts
resting_served =
    record {
      limits = record { channel = omega arith; effort = record { n = omega arith; at = omega arith; errors = omega arith; setting = omega arith } };
      retries = omega arith;
    }

-- the model's own frame, for the line
pub slot_heard : {x : Coded} {k v : ℕ} {w : Verdict} → Judged x k v w → Heard (hear_own w)
unfolding hear_own
slot_heard (went e h) = follows
slot_heard (lost a b i) = follows
slot_heard (broke code h) = fault code h
slot_heard done = good
slot_heard (answered a b c) = follows

pub own_heard : {e : Effort} {v : ℕ} {w : Verdict} → Tried e v w → Heard (hear_own w)
unfolding hear_own
own_heard unjudged = silent
own_heard (judged j) = slot_heard j
own_heard (awaited on) = follows
own_heard (awaited (broken code h)) = fault code h
own_heard (awaited fulfilled) = good

-- ---- the slot is spent: more errors than R stand only between attempts, where they end the service

pub record Spent (s : Service) : Type 0 where
  pub channel : s.channel ≤ 13
  pub n : s.effort.frame.n ≤ capacity
  pub at : s.effort.progress.at ≤ size capacity - 1
  pub setting : s.effort.setting ≤ 15
  pub over : between_attempts s.effort.progress ≡ false → s.effort.counters.errors.0 ≤ s.effort.setting

pub served_spent : (s : Service) → Served s → Spent s
served_spent s f =
    let l = f.limits in
    record { channel = l.channel; n = l.effort.n; at = l.effort.at; setting = l.effort.setting; over = λ e. f.retries }

pub judged_spent : {v : ℕ} {w : Verdict} (s : Service) → Tried s.effort v w → Served s → Spent (service_judged w s)
unfolding service_judged advance slot_spent lost_spent error_spent at_stage size between_attempts is_between
judged_spent s unjudged f = served_spent s f
judged_spent s (judged (went e h)) f =
    let l = f.limits in
    record { channel = l.channel; n = l.effort.n; at = omega arith; setting = l.effort.setting; over = λ e. f.retries }
judged_spent s (judged (lost a b i)) f =
    let l = f.limits in
    record { channel = l.channel; n = l.effort.n; at = omega arith; setting = l.effort.setting; over = λ e. f.retries }
judged_spent s (judged (broke code h)) f =
    let l = f.limits in
    record { channel = l.channel; n = l.effort.n; at = omega arith; setting = l.effort.setting; over = λ e. absurd (false≢true (sym e)) }
judged_spent s (judged done) f =
    let l = f.limits in
    record { channel = l.channel; n = l.effort.n; at = omega arith; setting = l.effort.setting; over = λ e. f.retries }
judged_spent s (judged (answered a b c)) f =
    let l = f.limits in
    record { channel = l.channel; n = l.effort.n; at = omega arith; setting = l.effort.setting; over = λ e. f.retries }
judged_spent s (awaited on) f =
    let l = f.limits in
    record { channel = l.channel; n = l.effort.n; at = omega arith; setting = l.effort.setting; over = λ e. f.retries }
judged_spent s (awaited (broken code h)) f =
    let l = f.limits in
    record { channel = l.channel; n = l.effort.n; at = omega arith; setting = l.effort.setting; over = λ e. absurd (false≢true (sym e)) }
judged_spent s (awaited fulfilled) f =
    let l = f.limits in
    record { channel = l.channel; n = l.effort.n; at = omega arith; setting = l.effort.setting; over = λ e. f.retries }

-- ---- the end of a service

pub data Ends (s : Service) : Ending → Type 0 where
  going : s.effort.counters.errors.0 ≤ s.effort.setting → Ends s Going
  sent : Ends s Sent
  exhaustion : Ends s Exhausted
  aborted : Ends s Aborted
  rearbitrated : Ends s Rearbitrated
  fulfilment : Ends s Fulfilled

pub stopped_ends : (s : Service) → Spent s → Ends s (stopped s)
unfolding stopped exhausted
stopped_ends s f =
    picked (Ends s) (between_attempts s.effort.progress) _ Going
    (λ b. picked (Ends s) (ltb s.effort.setting s.effort.counters.errors.0) Exhausted _ (λ x. exhaustion)
    (λ x. picked (Ends s) s.abort Aborted _ (λ a. aborted)
    (λ a. picked (Ends s) s.rear Rearbitrated Going (λ r. rearbitrated) (λ r. going (ltb-false _ _ x)))))
    (λ b. going (f.over b))

pub ending_ends : (w : Verdict) (s : Service) → Spent s → Ends s (ending_of w s)
unfolding ending_of
ending_ends Unjudged s f = stopped_ends s f
ending_ends Goes s f = stopped_ends s f
ending_ends Lost s f = stopped_ends s f
ending_ends (Failed code) s f = stopped_ends s f
ending_ends Done s f = sent
ending_ends Answered s f = stopped_ends s f

pub settled_served : (s : Service) {x : Ending} → Spent s → Ends s x → Served (settled x s)
unfolding settled
settled_served s f (going h) =
    record {
      limits = record { channel = f.channel; effort = record { n = f.n; at = f.at; errors = omega (arith, f.setting); setting = f.setting } };
      retries = h;
    }
settled_served s f sent = resting_served
settled_served s f exhaustion = resting_served
settled_served s f aborted = resting_served
settled_served s f rearbitrated = resting_served
settled_served s f fulfilment = resting_served

-- ---- the memory map and the registers

pub ended_below : (x : Ending) {m : List ℕ} → Below 256 m → (c : ℕ) → Below 256 (memory_ended x m c)
unfolding memory_ended
ended_below Going b c = b
ended_below Sent b c = chtx_below b c
ended_below Exhausted b c = chtx_below (cher_below b c) c
ended_below Aborted b c = chtx_below b c
ended_below Rearbitrated b c = b
ended_below Fulfilled b c = b

pub replied_below : (q : Verdict) {m : List ℕ} → Below 256 m → (c : ℕ) → Below 256 (memory_replied q m c)
unfolding memory_replied
replied_below Unjudged b c = b
replied_below Goes b c = b
replied_below Lost b c = b
replied_below (Failed code) b c = cher_below b c
replied_below Done b c = chrx_below (chtx_below b c) c
replied_below Answered b c = b

retries_limits : (s : Service) → Spent s → RetriesLimits (retries_of s)
unfolding retries_of
retries_limits s f =
    record {
      count =
          picked (λ x. x ≤ 15) (ltb s.effort.counters.errors.0 s.effort.setting) (s.effort.counters.errors.0 % 256) s.effort.setting
          (λ e. omega (arith, ltb-true, f.setting)) (λ e. f.setting);
      channel = f.channel;
    }

pub sending_report : (x : Report) (s : Service) → ReportLimits x → Spent s → ReportLimits (report_sending x s)
unfolding report_sending
sending_report x s l f = record { sending = retries_limits s f; message = l.message; error = l.error }

pub judged_report : {e : Effort} {v : ℕ} {w : Verdict} → Tried e v w → (x : Report) (s : Service) → ReportLimits x → Spent s → ReportLimits (report_judged w x s)
unfolding report_judged
judged_report unjudged x s l f = l
judged_report (judged (went a b)) x s l f = l
judged_report (judged (lost a b c)) x s l f = l
judged_report (judged (broke code h)) x s l f = sending_report (with_error x code) s (record { sending = l.sending; message = l.message; error = h }) f
judged_report (judged done) x s l f = l
judged_report (judged (answered a b c)) x s l f = l
judged_report (awaited on) x s l f = l
judged_report (awaited (broken code h)) x s l f = sending_report (with_error x code) s (record { sending = l.sending; message = l.message; error = h }) f
judged_report (awaited fulfilled) x s l f = l

pub ended_report : (y : Ending) (x : Report) (s : Service) → ReportLimits x → Spent s → ReportLimits (report_ended y x s)
unfolding report_ended
ended_report Going x s l f = record { sending = l.sending; message = l.message; error = l.error }
ended_report Sent x s l f = record { sending = l.sending; message = retries_limits s f; error = l.error }
ended_report Exhausted x s l f = record { sending = l.sending; message = retries_limits s f; error = l.error }
ended_report Aborted x s l f = l
ended_report Rearbitrated x s l f = l
ended_report Fulfilled x s l f = l

pub replied_report : (q : Verdict) (x : Report) (c : ℕ) → ReportLimits x → c ≤ 13 → ReportLimits (report_replied q x c)
unfolding report_replied
replied_report Unjudged x c l h = l
replied_report Goes x c l h = l
replied_report Lost x c l h = l
replied_report (Failed code) x c l h = record { sending = l.sending; message = l.message; error = l.error }
replied_report Done x c l h = record { sending = l.sending; message = record { count = omega arith; channel = h }; error = l.error }
replied_report Answered x c l h = l

-- ---- the immediate reply

pub none_replies : ReplyLimits no_reply
unfolding no_reply resting
none_replies = record { channel = omega arith; at = omega arith; n = omega arith }

pub replied_limits : (y : ImmediateReply) (v : ℕ) → ReplyLimits y → ReplyLimits (replied (judge_reply y v) y)
unfolding judge_reply replied
replied_limits y v l = go (slot_judged y.frame y.at v)
  where
    go : {w : Verdict} → Judged y.frame y.at v w → ReplyLimits (replied w y)
    go (went a b) = unfold reply_moved in record { channel = l.channel; at = unfold size in omega (arith, l.n); n = l.n }
    go (lost a b c) = none_replies
    go (broke code h) = none_replies
    go done = none_replies
    go (answered a b c) = none_replies

pub taken_limits : (m : List ℕ) (longest : ℕ) (r : Reception) → ReplyLimits (reply_taken m longest r)
unfolding reply_taken reply_by
taken_limits m longest r = go (replier_named m longest (get_or r.bytes 0 0) (reply_low r))
  where
    go : {x : Option ℕ} → Named x → ReplyLimits (reply_by m (get_or r.bytes 0 0) (reply_low r) x)
    go nothing = none_replies
    go (channel {c = c} h) =
        let long = mailbox_length m (buffer_of m c).pointer 1 (data_in (buffer_of m c).length) in
        record { channel = h; at = unfold size in omega arith; n = unfold coded reply_frame frame_with in omega (arith, data_small (buffer_of m c).length) }

-- ---- choice and start

chosen_served : {m : List ℕ} → Below 256 m → (c : ℕ) → c ≤ 13 → Served (chosen m c)
unfolding chosen resting coded at_stage no_counts
chosen_served {m} b c h =
    record {
      limits = record { channel = h; effort = record { n = (fits_sent m c b).size; at = omega arith; errors = omega arith; setting = setting_small m b } };
      retries = omega arith;
    }

choice_served : {m : List ℕ} → Below 256 m → {x : Option ℕ} → Named x → Served (choice_of m x)
unfolding choice_of
choice_served b nothing = resting_served
choice_served b (channel {c = c} h) = chosen_served b c h

pub choose_served : {m : List ℕ} → Below 256 m → (longest : ℕ) → Served (choose m longest)
unfolding choose
choose_served {m} b longest = choice_served b (ready_named m longest)

opened_served : (s : Service) (k : ℕ) → k ≤ size capacity - 1 → Served s → Served (opened s k)
unfolding opened at_stage
opened_served s k h f =
    let l = f.limits in
    record {
      limits = record { channel = l.channel; effort = record { n = l.effort.n; at = h; errors = l.effort.errors; setting = l.effort.setting } };
      retries = f.retries;
    }

pub started_served : (s : Service) (autonomous : Bool) (l : Line) (r : Reception) → Served s → Served (started s autonomous l r)
unfolding started size
started_served s autonomous l r f =
    picked Served (waits s.effort.progress) _ s
    (λ e. picked Served (start_ended r) (opened s 10) _ (λ d. opened_served s 10 (omega arith) f)
    (λ d. picked Served (under_way r.place) s _ (λ g. f)
    (λ g. picked Served (both autonomous (free l)) (opened s 0) s (λ h. opened_served s 0 (omega arith) f) (λ h. f))))
    (λ e. f)

-- ---- abort and REAR

pub abort_served : (s : Service) → Served s → Served (abort_asked s)
unfolding abort_asked
abort_served s f = record { limits = record { channel = f.limits.channel; effort = f.limits.effort }; retries = f.retries }

pub rear_served : (s : Service) → Served s → Served (rear_asked s)
unfolding rear_asked
rear_served s f = record { limits = record { channel = f.limits.channel; effort = f.limits.effort }; retries = f.retries }
