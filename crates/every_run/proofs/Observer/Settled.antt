-- What every event leaves, by the observer.
--   Leaves == the bytes, registers and bits of controller d that event e leaves        settles == the claim on an event
use Prim.Native.Nat.{ℕ, ◌+◌, ◌%◌, ◌≤◌, ◌<◌}
use mathlib.Core.Bool.{Bool, true, false, not, false≢true}
use mathlib.Core.List.{List, ◌++◌}
use mathlib.Core.Path.{◌≡◌, refl, ap, ◌∙◌, sym, subst}
use native.Mathlib.Omega.{arith}
use borrow.Author.Tests.{le-ltb, leb-true, eqb-true, eqb-false}
use lib.Dec.{eqb, ltb, leb}
use lib.ListN.{get_or}
use Rattle.std.specs.Prelude.{Option, None, Some}
use Rattle.line.specs.Bits.{pick, Below}
use Rattle.line.proofs.Laws.{picked}
use Rattle.rules.specs.Definitions.Setters.{with_flags, with_report, with_service}
use Rattle.diagnosis.specs.declared.Diagnosis.{Diagnosis}
use Rattle.rules.specs.Definitions.Longest.{longest_of}
use Rattle.rules.specs.Definitions.Registers.{both, either, has_bit, line_control, transmit_control, autonomous, command, line_status_at, transmission_status, last_message_status, last_error_status, interrupt_status_at, interrupt_reset, asks_sleep, asks_rearbitration, read_only, write_only, line_status, retries_byte, interrupt_status, BOV, CV, unless, cleared, transmitted, reset_report}
use Rattle.rules.specs.Definitions.Mailbox.{marked_cher, marked_chtx, reset_memory}
use Rattle.rules.specs.Definitions.Channels.{acknowledge_asked, base, cher, lowest_ready}
use Rattle.rules.specs.Definitions.Reception.{under_way, start_ended}
use Rattle.rules.specs.Definitions.Hearing.{hear_frame}
use Rattle.rules.specs.Definitions.Delivery.{memory_delivered, receive_error, report_stored, report_heard, report_delivered}
use Rattle.rules.specs.Definitions.Attempt.{at_stage, in_service, is_serving, drives_frame, is_driving, is_answered, is_answering}
use Rattle.rules.specs.Definitions.Service.{resting, stopped, ending_of, settled, memory_ended, retries_of, report_sending, report_judged, report_ended, good_for, answered_as, fulfils, memory_replied, report_replied, chosen, choice_of, choose, hear_own}
use Rattle.rules.specs.Definitions.State.{is_active, is_asleep, is_idle, serving, reset_core, idle_due, slept}
use Rattle.rules.specs.Definitions.Slots as slot_rule
use Rattle.rules.specs.Definitions.Slots.{role_in, reply_verdict, heard, delivers, verdict_as, service_judged, ending, report_after, memory_judged, core_judged, choice_made, start_made, follows_on, drives, sample_of, judged_slot, sampled_slot, active_slot, resting_slot}
use Rattle.rules.specs.Definitions.Host.{reset_all, resets, sleeps, mode_commanded, kept_byte, flags_cleared, core_written, service_asked, stopped_core, byte_written, host_written, line_status_of, status_read, byte_read, access_refusals, read_refusals}
use Rattle.rules.specs.Definitions.Run as run
use Rattle.rules.specs.Definitions.Run.{accept, refuse, host_read, rested_slot, step, next}
use Rattle.every_run.specs.Tally.{Stand, away, between, opening, inside, answered, Tally, Answering, none, request_t, with_stand, with_abort, with_rear, counted_in, counted_t, ended_t, chosen_t, choice_t, choose_in, choose_t, start_in, start_t, asked_in, asked_t, asks, is_away}
use Rattle.every_run.specs.Observer.{free_o, Replying, silent, replies, Observer, fitting, heard_delivery, delivered_apart, delivered_in, is_stored, answer_in, answer_o, pausing, waits, fulfilled_t, is_replying, fulfilled_o, sampled_o, goes_on_o, accepted, next_o, with_diagnosis_o, diagnosis_o}
use Rattle.every_run.specs.Sending.{level_o}
use Rattle.every_run.specs.Settled as settlement
use Rattle.every_run.specs.Settled.{sent_all, exhausted_in, aborted_in, ended_map, retries_t, delivered_map, marks_cher, Replied, replied_at, replied_map, is_whole, is_broken, replied_message, judged_in, hearing_o, delivery_in, replied_in, written_map, memory_o, zero_retries, sending_o, message_o, is_good, is_nothing, code_heard, overflows, untaken_o, error_o, flag_o, read_o, rak_o, Answers, Hears, Settles}
use Rattle.rules.proofs.Logic.{left, both_true}
use Rattle.every_run.proofs.Roles.{role_sender, role_asker, role_other, heard_sender, heard_asker}
use Rattle.every_run.proofs.Steps as steps
use Rattle.every_run.proofs.Steps.{Call, refused, call_of, Step, refusal, reset, wrote, gave, went, rested, with_diagnosis_c, step_of, went_next, rested_next, refused_next, refused_not, accepted_next, accepted_so}
use Rattle.every_run.proofs.Ranges.Limits.{Fine}
use Rattle.every_run.proofs.Sending.Join.{made, service_in, service_of, chosen_is, JudgedIn}
use Rattle.every_run.proofs.Sending.Beside.{answer_c, ended_c}
use Rattle.every_run.proofs.Sending.Follow.{idle_service, idle_report, chooses_as, follows_message, follows_error, mode_report}
use Rattle.every_run.proofs.Sending.Bound.{Coming, asked_good}
use Rattle.every_run.proofs.Sending.Demand3 as demand
use Rattle.every_run.proofs.Sending.Demand3.{driven_is, delivery_heard, is_judged, is_fulfilled, asked_same}
use Rattle.rules.proofs.Samples.{sample_small}
use Rattle.every_run.proofs.Observer.Flags.{flags_follow, is_sent, is_done, is_failed, after_rst, after_tok, after_re, after_rok, after_rnok}
use Rattle.every_run.proofs.Observer.Replies.{SameReply, same_going, is_silent, is_replier, replied_of, apart_ended}
use Rattle.every_run.proofs.Observer.Agreed.{Same, hears_same, ended_same, judged_core, judged_service, after, idled_core, idle_tally, serving_is, bytes_after, same_next, taken, active_is, followed_by, rested_by, agrees}
use Rattle.every_run.proofs.Sending.Ends.{rest_t, end_t, stopped_is, on_service, off_service, retries_in, Tells, tells}
use Rattle.rules.specs.declared.Flags.{Flags}
use Rattle.rules.specs.declared.Retries.{Retries}
use Rattle.rules.specs.declared.Report.{Report}
use Rattle.rules.specs.declared.Reception.{Reception}
use Rattle.rules.specs.declared.Hearing.{Hearing}
use Rattle.rules.specs.declared.Hearing.TheVariants.{Silent, Follows, Fault, Good}
use Rattle.rules.specs.declared.Delivery.{Delivery}
use Rattle.rules.specs.declared.Delivery.TheVariants.{Nothing, Stored, Overflowed, Spoiled}
use Rattle.rules.specs.declared.Service.{Service}
use Rattle.rules.specs.declared.Verdict.{Verdict}
use Rattle.rules.specs.declared.Verdict.TheVariants.{Unjudged, Goes, Lost, Failed, Done, Answered}
use Rattle.rules.specs.declared.Ending.{Ending}
use Rattle.rules.specs.declared.Ending.TheVariants.{Going, Sent, Exhausted, Aborted, Rearbitrated, Fulfilled}
use Rattle.rules.specs.declared.Role.{Role}
use Rattle.rules.specs.declared.Role.TheVariants.{Nobody, Receiver}
use Rattle.rules.specs.declared.Core.{Core}
use Rattle.rules.specs.declared.Refusal.{Refusal}
use Rattle.rules.specs.declared.Controller.{Controller}
use Rattle.rules.specs.declared.Answer.{Answer}
use Rattle.rules.specs.declared.Event.{Event}
use Rattle.rules.specs.declared.Event.TheVariants.{Reset, Write, Read, Slot}

-- ---- what another module's frame does

-- outside an attempt
delivered_apart_is : (k : Core) (y : Replying) (h : Hearing) → SameReply k.reply y → drives_frame k.service.effort.progress ≡ false → is_answered k.service.effort.progress ≡ false
    → delivers (role_in k) h k.reception ≡ delivered_apart y h k.reception
delivered_apart_is k y h s d a = go y refl
  where
    by : (u : Bool) → delivers (pick u Receiver Nobody) h k.reception ≡ pick u (heard_delivery h k.reception) Nothing
    by true = unfold delivers in delivery_heard h k.reception
    by false = unfold delivers in refl

    go : (x : Replying) → y ≡ x → delivers (role_in k) h k.reception ≡ delivered_apart x h k.reception
    go silent e = unfold delivered_apart in rw (role_other k.service.effort.progress k.reply.going k.reception.place d a (is_silent k y s d a e)) (by (under_way k.reception.place))
    go (replies c f levels) e = unfold delivered_apart in rw (is_replier k y s d a c f levels e) (unfold delivers in refl)

delivered_in_is : (x : Stand) (k : Core) (t : Tally) (y : Replying) (h : Hearing) → SameReply k.reply y → k.service ≡ service_in x t → delivers (role_in k) h k.reception ≡ delivered_in x y h k.reception
unfolding service_in delivered_in
delivered_in_is x k t y h s = go x
  where
    own : drives_frame k.service.effort.progress ≡ true → delivers (role_in k) h k.reception ≡ Nothing
    own d = rw (role_sender k.service.effort.progress k.reply.going k.reception.place d) (unfold delivers in refl)

    go : (x : Stand) → k.service ≡ service_in x t → delivers (role_in k) h k.reception ≡ delivered_in x y h k.reception
    go away e = delivered_apart_is k y h s (rw e (unfold resting at_stage drives_frame is_driving in refl)) (rw e (unfold resting at_stage is_answered is_answering in refl))
    go between e = delivered_apart_is k y h s (rw e (unfold made at_stage drives_frame is_driving in refl)) (rw e (unfold made at_stage is_answered is_answering in refl))
    go (opening start) e = own (rw e (unfold made at_stage drives_frame is_driving in refl))
    go (inside start levels) e = own (rw e (unfold made at_stage drives_frame is_driving in refl))
    go (answered start n) e =
        rw (role_asker k.service.effort.progress k.reply.going k.reception.place (rw e (unfold made at_stage drives_frame is_driving in refl)) (rw e (unfold made at_stage is_answered is_answering in refl)))
        (unfold delivers in delivery_heard h k.reception)

-- ---- how the sample ends a reply

replied_in_is : (x : Stand) (k : Core) (t : Tally) (y : Replying) (v : ℕ) → SameReply k.reply y → k.service ≡ service_in x t
    → replied_of (reply_verdict (role_in k) k v) k.reply.channel ≡ replied_at x y (drives k) v
unfolding service_in replied_at
replied_in_is x k t y v s = go x
  where
    own : drives_frame k.service.effort.progress ≡ true → replied_of (reply_verdict (role_in k) k v) k.reply.channel ≡ settlement.unended
    own d = rw (role_sender k.service.effort.progress k.reply.going k.reception.place d) (unfold reply_verdict replied_of in refl)

    go : (x : Stand) → k.service ≡ service_in x t → replied_of (reply_verdict (role_in k) k v) k.reply.channel ≡ replied_at x y (drives k) v
    go away e = apart_ended k y s (rw e (unfold resting at_stage drives_frame is_driving in refl)) (rw e (unfold resting at_stage is_answered is_answering in refl)) v
    go between e = apart_ended k y s (rw e (unfold made at_stage drives_frame is_driving in refl)) (rw e (unfold made at_stage is_answered is_answering in refl)) v
    go (opening start) e = own (rw e (unfold made at_stage drives_frame is_driving in refl))
    go (inside start levels) e = own (rw e (unfold made at_stage drives_frame is_driving in refl))
    go (answered start n) e =
        rw (role_asker k.service.effort.progress k.reply.going k.reception.place (rw e (unfold made at_stage drives_frame is_driving in refl)) (rw e (unfold made at_stage is_answered is_answering in refl)))
        (unfold reply_verdict replied_of in refl)

replied_map_is : (q : Verdict) (m : List ℕ) (n : ℕ) → memory_replied q m n ≡ replied_map (replied_of q n) m
unfolding memory_replied replied_of replied_map
replied_map_is Unjudged m n = refl
replied_map_is Goes m n = refl
replied_map_is Lost m n = refl
replied_map_is (Failed code) m n = refl
replied_map_is Done m n = refl
replied_map_is Answered m n = refl

message_replied : (q : Verdict) (x : Report) (n : ℕ) → (report_replied q x n).message ≡ replied_message (replied_of q n) x.message
unfolding report_replied replied_of replied_message
message_replied Unjudged x n = refl
message_replied Goes x n = refl
message_replied Lost x n = refl
message_replied (Failed code) x n = refl
message_replied Done x n = refl
message_replied Answered x n = refl

done_whole : (q : Verdict) (n : ℕ) → is_done q ≡ is_whole (replied_of q n)
unfolding is_done replied_of is_whole
done_whole Unjudged n = refl
done_whole Goes n = refl
done_whole Lost n = refl
done_whole (Failed code) n = refl
done_whole Done n = refl
done_whole Answered n = refl

failed_broken : (q : Verdict) (n : ℕ) → is_failed q ≡ is_broken (replied_of q n)
unfolding is_failed replied_of is_broken
failed_broken Unjudged n = refl
failed_broken Goes n = refl
failed_broken Lost n = refl
failed_broken (Failed code) n = refl
failed_broken Done n = refl
failed_broken Answered n = refl

-- ---- the map

delivered_map_is : (d : Delivery) (m : List ℕ) (r : Reception) → memory_delivered d m r ≡ delivered_map d m r
unfolding memory_delivered delivered_map
delivered_map_is Nothing m r = refl
delivered_map_is Stored m r = refl
delivered_map_is Overflowed m r = refl
delivered_map_is Spoiled m r = refl

-- ---- the marks of a service that ends

marked : (a b c d : Bool) (m : List ℕ) (n : ℕ) → memory_ended (pick a Sent (pick b Exhausted (pick c Aborted (pick d Rearbitrated Going)))) m n
    ≡ pick a (marked_chtx m n) (pick b (marked_chtx (marked_cher m n) n) (pick c (marked_chtx m n) m))
unfolding memory_ended
marked true b c d m n = refl
marked false true c d m n = refl
marked false false true d m n = refl
marked false false false true m n = refl
marked false false false false m n = refl

-- where no service was, none ends
pub record Unended (j : Tally) : Type 0 where
  pub errors : exhausted_in j ≡ false
  pub abort : aborted_in j ≡ false

ended_map_is : (t j : Tally) (m : List ℕ) (n : ℕ) → (is_away t.stand ≡ false → n ≡ t.channel) → (is_away t.stand ≡ true → Unended j) → memory_ended (end_t t j) m n ≡ ended_map t j m
unfolding end_t rest_t ended_map sent_all
ended_map_is t j m n q z = go (is_away t.stand) refl
  where
    go : (b : Bool) → is_away t.stand ≡ b
        → memory_ended (pick (both (not b) (is_away j.stand)) Sent (pick (exhausted_in j) Exhausted (pick (aborted_in j) Aborted (pick (both (pausing j.stand) j.rear) Rearbitrated Going)))) m n
        ≡ pick (both (not b) (is_away j.stand)) (marked_chtx m t.channel) (pick (exhausted_in j) (marked_chtx (marked_cher m t.channel) t.channel) (pick (aborted_in j) (marked_chtx m t.channel) m))
    go true e = let u = z e in rw (u.errors, u.abort) (marked false false false (both (pausing j.stand) j.rear) m n)
    go false e = rw (q e) (marked (is_away j.stand) (exhausted_in j) (aborted_in j) (both (pausing j.stand) j.rear) m t.channel)

-- a request that is fulfilled leaves the map as the delivery did
fulfilled_map : (b : Bool) (t j : Tally) (m : List ℕ) (n : ℕ) → memory_ended (end_t t j) m n ≡ ended_map t j m → memory_ended (pick b Fulfilled (end_t t j)) m n ≡ pick b m (ended_map t j m)
fulfilled_map true t j m n e = unfold memory_ended in refl
fulfilled_map false t j m n e = e

away_unended : (t j : Tally) → j ≡ t → is_away t.stand ≡ true → t.errors ≤ t.setting → Unended j
away_unended t j e a h = rw e (record { errors = unfold exhausted_in in le-ltb t.setting t.errors h; abort = unfold aborted_in in rw (none_pauses t.stand a) })
  where
    none_pauses : (x : Stand) → is_away x ≡ true → pausing x ≡ false
    none_pauses away i = unfold pausing in refl
    none_pauses between i = absurd (false≢true (unfold is_away in i))
    none_pauses (opening start) i = absurd (false≢true (unfold is_away in i))
    none_pauses (inside start levels) i = absurd (false≢true (unfold is_away in i))
    none_pauses (answered start n) i = absurd (false≢true (unfold is_away in i))

away_counted : (t : Tally) (d v : ℕ) (y : Answering) → is_away t.stand ≡ true → counted_t t d v y ≡ t
unfolding counted_t
away_counted t d v y = go t.stand
  where
    go : (x : Stand) → is_away x ≡ true → counted_in x t d v y ≡ t
    go away a = unfold counted_in in refl
    go between a = absurd (false≢true (unfold is_away in a))
    go (opening start) a = absurd (false≢true (unfold is_away in a))
    go (inside start levels) a = absurd (false≢true (unfold is_away in a))
    go (answered start n) a = absurd (false≢true (unfold is_away in a))

away_asked : (t : Tally) (a v : ℕ) → is_away t.stand ≡ true → asked_t t a v ≡ t
unfolding asked_t
away_asked t b v = go t.stand
  where
    go : (x : Stand) → is_away x ≡ true → asked_in x t b v ≡ t
    go away a = unfold asked_in in refl
    go between a = absurd (false≢true (unfold is_away in a))
    go (opening start) a = absurd (false≢true (unfold is_away in a))
    go (inside start levels) a = absurd (false≢true (unfold is_away in a))
    go (answered start n) a = absurd (false≢true (unfold is_away in a))

-- ---- the registers

leaves_ended : {B : Type 0} (f : Report → B) → ((x : Report) (r : Retries) (g : Flags) → f (record { sending = x.sending; message = r; error = x.error; flags = g }) ≡ f x)
    → (x : Ending) (r : Report) (s : Service) → f (report_ended x r s) ≡ f r
unfolding report_ended
leaves_ended f h Going r s = refl
leaves_ended f h Sent r s = h r _ _
leaves_ended f h Exhausted r s = h r _ _
leaves_ended f h Aborted r s = refl
leaves_ended f h Rearbitrated r s = refl
leaves_ended f h Fulfilled r s = refl

leaves_replied : {B : Type 0} (f : Report → B) → ((x : Report) (r : Retries) (g : Flags) → f (record { sending = x.sending; message = r; error = x.error; flags = g }) ≡ f x)
    → (q : Verdict) (x : Report) (n : ℕ) → f (report_replied q x n) ≡ f x
unfolding report_replied
leaves_replied f h Unjudged x n = refl
leaves_replied f h Goes x n = refl
leaves_replied f h Lost x n = refl
leaves_replied f h (Failed code) x n = h x _ _
leaves_replied f h Done x n = h x _ _
leaves_replied f h Answered x n = refl

leaves_judged : {B : Type 0} (f : Report → B) → ((x : Report) (r : Retries) (code : ℕ) → f (record { sending = r; message = x.message; error = code; flags = x.flags }) ≡ f x)
    → (w : Verdict) (x : Report) (s : Service) → f (report_judged w x s) ≡ f x
unfolding report_judged report_sending
leaves_judged f h Unjudged x s = refl
leaves_judged f h Goes x s = refl
leaves_judged f h Lost x s = refl
leaves_judged f h (Failed code) x s = h x _ code
leaves_judged f h Done x s = refl
leaves_judged f h Answered x s = refl

message_ended : (a b c d : Bool) (r : Report) (s : Service) → (report_ended (pick a Sent (pick b Exhausted (pick c Aborted (pick d Rearbitrated Going)))) r s).message ≡ pick (either a b) (retries_of s) r.message
unfolding report_ended
message_ended true b c d r s = refl
message_ended false true c d r s = refl
message_ended false false true d r s = refl
message_ended false false false true r s = refl
message_ended false false false false r s = refl

message_fulfilled : (b : Bool) (x : Ending) (r : Report) (s : Service) → (report_ended (pick b Fulfilled x) r s).message ≡ pick b r.message (report_ended x r s).message
message_fulfilled true x r s = unfold report_ended in refl
message_fulfilled false x r s = refl

message_delivered : (d : Delivery) (x : Report) (r : Reception) → (report_delivered d x r).message ≡ pick (is_stored d) (record { count = 0; channel = r.winner.channel }) x.message
unfolding report_delivered report_stored receive_error is_stored
message_delivered Nothing x r = refl
message_delivered Stored x r = refl
message_delivered Overflowed x r = refl
message_delivered Spoiled x r = refl

sending_delivered : (d : Delivery) (x : Report) (r : Reception) → (report_delivered d x r).sending ≡ x.sending
unfolding report_delivered report_stored receive_error
sending_delivered Nothing x r = refl
sending_delivered Stored x r = refl
sending_delivered Overflowed x r = refl
sending_delivered Spoiled x r = refl

leaves_heard : {B : Type 0} (f : Report → B) → ((x : Report) (code : ℕ) → f (record { sending = x.sending; message = x.message; error = code; flags = x.flags }) ≡ f x)
    → (h : Hearing) (x : Report) → f (report_heard h x) ≡ f x
unfolding report_heard
leaves_heard f e Silent x = refl
leaves_heard f e Follows x = refl
leaves_heard f e (Fault code) x = e x code
leaves_heard f e Good x = refl

-- 0x07, the delivery as the sample makes it
none_error : (h : Hearing) (x : Report) (r : Reception) → (report_delivered Nothing (report_heard h x) r).error ≡ pick (overflows h Nothing) BOV (code_heard h x.error)
unfolding report_delivered report_heard overflows code_heard marks_cher
none_error Silent x r = refl
none_error Follows x r = refl
none_error (Fault code) x r = refl
none_error Good x r = refl

heard_error : (h : Hearing) (x : Report) (r : Reception) → (report_delivered (heard_delivery h r) (report_heard h x) r).error ≡ pick (overflows h (heard_delivery h r)) BOV (code_heard h x.error)
unfolding heard_delivery report_heard overflows code_heard
heard_error Silent x r = unfold report_delivered in refl
heard_error Follows x r = unfold report_delivered in refl
heard_error (Fault code) x r = go r.winner.matched
  where
    go : (b : Bool) → (report_delivered (pick b Spoiled Nothing) (record { sending = x.sending; message = x.message; error = code; flags = x.flags }) r).error ≡ code
    go true = unfold report_delivered receive_error in refl
    go false = unfold report_delivered in refl
heard_error Good x r = go r.winner.matched (fitting r)
  where
    go : (a b : Bool) → (report_delivered (pick a (pick b Stored Overflowed) Nothing) x r).error ≡ pick (marks_cher (pick a (pick b Stored Overflowed) Nothing)) BOV x.error
    go true true = unfold report_delivered report_stored marks_cher in refl
    go true false = unfold report_delivered receive_error marks_cher in refl
    go false b = unfold report_delivered marks_cher in refl

-- the model's own frame
own_error : (w : Verdict) (x : Report) (r : Reception) (s : Service)
    → (report_judged w (report_delivered Nothing (report_heard (hear_own w) x) r) s).error ≡ pick (overflows (hear_own w) Nothing) BOV (code_heard (hear_own w) x.error)
unfolding report_judged report_sending report_delivered report_heard hear_own overflows code_heard marks_cher
own_error Unjudged x r s = refl
own_error Goes x r s = refl
own_error Lost x r s = refl
own_error (Failed code) x r s = refl
own_error Done x r s = refl
own_error Answered x r s = refl

-- a frame that answers a request
answered_error : (h : Hearing) (x : Report) (r : Reception) (s : Service)
    → (report_judged (answered_as h (heard_delivery h r)) (report_delivered (heard_delivery h r) (report_heard h x) r) s).error
    ≡ pick (both (is_good h) (is_nothing (heard_delivery h r))) CV (pick (overflows h (heard_delivery h r)) BOV (code_heard h x.error))
unfolding answered_as heard_delivery report_heard is_good overflows code_heard
answered_error Silent x r s = unfold report_judged report_delivered in refl
answered_error Follows x r s = unfold report_judged report_delivered in refl
answered_error (Fault code) x r s = unfold report_judged report_sending in refl
answered_error Good x r s = go r.winner.matched (fitting r)
  where
    go : (a b : Bool) → (report_judged (good_for (pick a (pick b Stored Overflowed) Nothing)) (report_delivered (pick a (pick b Stored Overflowed) Nothing) x r) s).error
        ≡ pick (is_nothing (pick a (pick b Stored Overflowed) Nothing)) CV (pick (marks_cher (pick a (pick b Stored Overflowed) Nothing)) BOV x.error)
    go true true = unfold good_for report_judged report_delivered report_stored is_nothing marks_cher in refl
    go true false = unfold good_for report_judged report_sending is_nothing marks_cher in refl
    go false b = unfold good_for report_judged report_sending is_nothing in refl

-- another module's frame, outside an attempt
apart_error : (y : Replying) (h : Hearing) (x : Report) (r : Reception) → (report_delivered (delivered_apart y h r) (report_heard h x) r).error ≡ pick (overflows h (delivered_apart y h r)) BOV (code_heard h x.error)
unfolding delivered_apart
apart_error silent h x r = by (under_way r.place)
  where
    P : Delivery → Type 0
    P d = (report_delivered d (report_heard h x) r).error ≡ pick (overflows h d) BOV (code_heard h x.error)

    by : (u : Bool) → P (pick u (heard_delivery h r) Nothing)
    by true = heard_error h x r
    by false = none_error h x r
apart_error (replies c f levels) h x r = none_error h x r

-- w and h are what the sample is for the attempt and for the line
error_in : (z : Stand) (k : Core) (t : Tally) (y : Replying) (v : ℕ) (s : Service) → k.service ≡ service_in z t → JudgedIn z t v (answer_in (hear_frame k.reception (longest_of k) v) k.reception) (slot_rule.verdict k v)
    → (h : Hearing) → heard k (slot_rule.verdict k v) v ≡ h
    → (report_judged (slot_rule.verdict k v) (report_delivered (delivered_in z y h k.reception) (report_heard h k.report) k.reception) s).error
    ≡ pick (untaken_o z h (delivered_in z y h k.reception)) CV (pick (overflows h (delivered_in z y h k.reception)) BOV (code_heard h k.report.error))
unfolding service_in delivered_in untaken_o
error_in away k t y v s e j h i = rw j (unfold report_judged in apart_error y h k.report k.reception)
error_in between k t y v s e j h i = rw j (unfold report_judged in apart_error y h k.report k.reception)
error_in (opening start) k t y v s e j h i =
    rw (sym i ∙ heard_sender k (slot_rule.verdict k v) v (rw e (unfold made at_stage drives_frame is_driving in refl))) (own_error (slot_rule.verdict k v) k.report k.reception s)
error_in (inside start levels) k t y v s e j h i =
    rw (sym i ∙ heard_sender k (slot_rule.verdict k v) v (rw e (unfold made at_stage drives_frame is_driving in refl))) (own_error (slot_rule.verdict k v) k.report k.reception s)
error_in (answered start n) k t y v s e j h i =
    let d : drives_frame k.service.effort.progress ≡ false = rw e (unfold made at_stage drives_frame is_driving in refl) in
    let a : is_answered k.service.effort.progress ≡ true = rw e (unfold made at_stage is_answered is_answering in refl) in
    let q : h ≡ hear_frame k.reception (longest_of k) v = sym i ∙ heard_asker k (slot_rule.verdict k v) v d a in
    rw (asker_judged k v d a, q) (answered_error (hear_frame k.reception (longest_of k) v) k.report k.reception s)
  where
    asker_judged : (k : Core) (v : ℕ) → drives_frame k.service.effort.progress ≡ false → is_answered k.service.effort.progress ≡ true
        → slot_rule.verdict k v ≡ answered_as (hear_frame k.reception (longest_of k) v) (heard_delivery (hear_frame k.reception (longest_of k) v) k.reception)
    asker_judged k v d a =
        unfold slot_rule.verdict verdict_as in
        (ap (λ (x : Role). verdict_as x k v) (role_asker k.service.effort.progress k.reply.going k.reception.place d a)
        ∙ ap (answered_as (hear_frame k.reception (longest_of k) v)) (delivery_heard (hear_frame k.reception (longest_of k) v) k.reception))

-- ---- the choice

start_retries : (t : Tally) (m : List ℕ) (b : Bool) (r : Reception) → retries_t (start_t t m b r) ≡ retries_t t
unfolding start_t start_in retries_t
start_retries t m b r = go t.stand
  where
    P : Tally → Type 0
    P x = retries_t x ≡ retries_t t

    go : (x : Stand) → P (start_in x t m b r)
    go away = refl
    go between =
        picked P (start_ended r) (with_stand t (opening 10)) _ (λ e. refl)
        (λ e. picked P (under_way r.place) t _ (λ d. refl) (λ d. picked P (both (autonomous (get_or m transmit_control 0)) b) (with_stand t (opening 0)) t (λ i. refl) (λ i. refl)))
    go (opening start) = refl
    go (inside start levels) = refl
    go (answered start n) = refl

start_stays : (t : Tally) (m : List ℕ) (b : Bool) (r : Reception) → is_away (start_t t m b r).stand ≡ is_away t.stand
unfolding start_t start_in
start_stays t m b r = go t.stand refl
  where
    P : Tally → Type 0
    P x = is_away x.stand ≡ false

    opens : is_away t.stand ≡ false → P (start_in between t m b r)
    opens e =
        picked P (start_ended r) (with_stand t (opening 10)) _ (λ d. unfold is_away in refl)
        (λ d. picked P (under_way r.place) t _ (λ i. e) (λ i. picked P (both (autonomous (get_or m transmit_control 0)) b) (with_stand t (opening 0)) t (λ k. unfold is_away in refl) (λ k. e)))

    go : (x : Stand) → t.stand ≡ x → is_away (start_in x t m b r).stand ≡ is_away t.stand
    go away h = refl
    go between h =
        let e : is_away t.stand ≡ false = rw h (unfold is_away in refl) in
        let q : is_away (start_in between t m b r).stand ≡ false = opens e in
        q ∙ sym e
    go (opening start) h = refl
    go (inside start levels) h = refl
    go (answered start n) h = refl

module _ (m : List ℕ) (k : Core) where
  abbrev Shown : Tally → Tally → Type 0
  Shown t u = (choice_made m k).report.sending ≡ pick (both (is_away t.stand) (not (is_away u.stand))) (retries_t u) k.report.sending

  chosen_serves : (n : ℕ) → is_away (chosen_t m n).stand ≡ false
  unfolding chosen_t is_away
  chosen_serves n = refl

  chosen_retries : (n : ℕ) → retries_of (chosen m n) ≡ retries_t (chosen_t m n)
  unfolding service_of
  chosen_retries n = ap retries_of (chosen_is m n) ∙ retries_in (chosen_t m n).stand (chosen_t m n) (chosen_serves n) (unfold chosen_t none in omega arith)

  lowest_shown : (n : ℕ) → (pick (serving (chosen m n)) (with_service (with_report k (report_sending k.report (chosen m n))) (chosen m n)) k).report.sending
      ≡ pick (not (is_away (chosen_t m n).stand)) (retries_t (chosen_t m n)) k.report.sending
  unfolding report_sending
  lowest_shown n =
      let e : serving (chosen m n) ≡ true = serving_is (chosen m n) (chosen_t m n) (chosen_is m n) ∙ ap not (chosen_serves n) in
      rw (e, chosen_serves n) (chosen_retries n)

  chosen_shown : (x : Option ℕ) → (pick (serving (choice_of m x)) (with_service (with_report k (report_sending k.report (choice_of m x))) (choice_of m x)) k).report.sending
      ≡ pick (not (is_away (choice_t m x).stand)) (retries_t (choice_t m x)) k.report.sending
  unfolding choice_of choice_t
  chosen_shown None = unfold serving resting in_service is_serving at_stage none is_away in refl
  chosen_shown (Some n) = lowest_shown n

  away_shown : (t : Tally) → t.stand ≡ away → serving k.service ≡ false → Shown t (choose_in away t m (longest_of k) (is_active k.activity.mode) k.reception)
  unfolding choice_made choose_in choose
  away_shown t e s = rw (chooses_as m k false s) (go (is_active k.activity.mode) (under_way k.reception.place))
    where
      a : is_away t.stand ≡ true
      a = rw e (unfold is_away in refl)

      go : (b u : Bool) → (pick (both b (both (not false) (not u))) (pick (serving (choice_of m (lowest_ready m (longest_of k)))) (with_service (with_report k (report_sending k.report (choice_of m (lowest_ready m (longest_of k))))) (choice_of m (lowest_ready m (longest_of k)))) k) k).report.sending
          ≡ pick (both (is_away t.stand) (not (is_away (pick b (pick u t (choice_t m (lowest_ready m (longest_of k)))) t).stand))) (retries_t (pick b (pick u t (choice_t m (lowest_ready m (longest_of k)))) t)) k.report.sending
      go false u = rw a
      go true true = rw a
      go true false = rw a (chosen_shown (lowest_ready m (longest_of k)))

  busy_shown : (t u : Tally) → is_away t.stand ≡ false → serving k.service ≡ true → Shown t u
  unfolding choice_made
  busy_shown t u a s = rw (chooses_as m k true s, a) (go (is_active k.activity.mode))
    where
      go : (b : Bool) → (pick (both b (both (not true) (not (under_way k.reception.place)))) (pick (serving (choose m (longest_of k))) (with_service (with_report k (report_sending k.report (choose m (longest_of k)))) (choose m (longest_of k))) k) k).report.sending ≡ k.report.sending
      go true = refl
      go false = refl

  choice_shown : (t : Tally) → k.service ≡ service_of t → Shown t (choose_t t m (longest_of k) (is_active k.activity.mode) k.reception)
  unfolding choose_t
  choice_shown t e = go t.stand refl
    where
      s : serving k.service ≡ not (is_away t.stand)
      s = serving_is k.service t e

      go : (x : Stand) → t.stand ≡ x → Shown t (choose_in x t m (longest_of k) (is_active k.activity.mode) k.reception)
      go away h = away_shown t h (s ∙ rw h (unfold is_away in refl))
      go between h = busy_shown t _ (rw h (unfold is_away in refl)) (s ∙ rw h (unfold is_away in refl))
      go (opening start) h = busy_shown t _ (rw h (unfold is_away in refl)) (s ∙ rw h (unfold is_away in refl))
      go (inside start levels) h = busy_shown t _ (rw h (unfold is_away in refl)) (s ∙ rw h (unfold is_away in refl))
      go (answered start n) h = busy_shown t _ (rw h (unfold is_away in refl)) (s ∙ rw h (unfold is_away in refl))

-- ---- a slot of an active controller

follows_sending : (m : List ℕ) (k : Core) → (follows_on m k).report.sending ≡ (choice_made m (idle_due k)).report.sending
unfolding follows_on start_made
follows_sending m k = refl

module _ (c : Controller) (o : Observer) (s : Same c o) (l : ℕ) where
  abbrev v : ℕ
  v = sample_of c l

  abbrev w : Verdict
  w = slot_rule.verdict c.core v

  abbrev h : Hearing
  h = heard c.core w v

  abbrev q : Verdict
  q = reply_verdict (role_in c.core) c.core v

  abbrev t : Tally
  t = o.tally

  abbrev j : Tally
  j = judged_in c o l

  abbrev r : Reception
  r = c.core.reception

  abbrev done : Service
  done = service_judged w c.core.service

  abbrev full : Bool
  full = fulfilled_o o (hearing_o c o l)

  service_stands : c.core.service ≡ service_in t.stand t
  unfolding service_of
  service_stands = s.joined.service

  answers_same : answer_c c v ≡ answer_o o (longest_of c.core) v
  unfolding answer_o
  answers_same = ap (λ (x : Reception). answer_in (hear_frame x (longest_of c.core) v) x) s.core.frame

  counts_same : counted_t t (drives c.core) v (answer_c c v) ≡ j
  counts_same = ap (λ (y : Answering). counted_t t (drives c.core) v y) answers_same

  told : Tells t j w done
  told =
      subst (λ (x : Tally). Tells t x w done) counts_same
      (tells c.core.service t (drives c.core) v (answer_c c v) w s.joined.service (is_judged c t s.joined v) (driven_is c t s.joined) s.joined.good.errors s.joined.good.setting)

  hears : h ≡ hearing_o c o l
  hears = hears_same c o s v

  fulfils_same : fulfils (delivers (role_in c.core) h r) r c.core.service ≡ full
  unfolding fulfilled_o
  fulfils_same =
      is_fulfilled c t s.joined v
      ∙ ap (λ (b : Bool). fulfilled_t t b r h) (same_going s.core.reply) ∙ ap (λ (x : Reception). fulfilled_t t (is_replying o.reply) x h) s.core.frame
      ∙ ap (fulfilled_t t (is_replying o.reply) o.frame) hears

  ends : ending c.core w h ≡ pick full Fulfilled (end_t t j)
  unfolding ending
  ends = ap (λ (b : Bool). pick b Fulfilled (ending_of w done)) fulfils_same ∙ ap (λ (x : Ending). pick full Fulfilled x) told.ending

  does : delivers (role_in c.core) h r ≡ delivery_in c o l
  does =
      delivered_in_is t.stand c.core t o.reply h s.core.reply service_stands
      ∙ ap (λ (x : Hearing). delivered_in t.stand o.reply x r) hears ∙ ap (λ (x : Reception). delivered_in t.stand o.reply (hearing_o c o l) x) s.core.frame

  replies_so : replied_of q c.core.reply.channel ≡ replied_in c o l
  replies_so = replied_in_is t.stand c.core t o.reply v s.core.reply service_stands

  unended : is_away t.stand ≡ true → Unended j
  unended a = away_unended t j (away_counted t (drives c.core) v (answer_o o (longest_of c.core) v) a) a s.joined.good.errors

  -- a service that is fulfilled waits: it has sent nothing and has errors left
  waiting_stand : full ≡ true → waits t.stand ≡ true
  unfolding fulfilled_o fulfilled_t
  waiting_stand e = (both_true (waits t.stand) (request_t t.frame) (both_true (both (waits t.stand) (request_t t.frame)) _ e).0).0

  waiting_quiet : waits t.stand ≡ true → (sent_all t j ≡ false) × (exhausted_in j ≡ false)
  waiting_quiet = go t.stand refl
    where
      go : (x : Stand) → t.stand ≡ x → waits x ≡ true → (sent_all t j ≡ false) × (exhausted_in j ≡ false)
      go away i a = absurd (false≢true (unfold waits in a))
      go between i a =
          let e : j ≡ t = unfold counted_t in (rw i (unfold counted_in in refl)) in
          (rw e (unfold sent_all in rw i (unfold is_away in refl)), rw e (unfold exhausted_in in le-ltb t.setting t.errors s.joined.good.errors))
      go (opening start) i a = absurd (false≢true (unfold waits in a))
      go (inside start levels) i a = absurd (false≢true (unfold waits in a))
      go (answered start n) i a = absurd (false≢true (unfold waits in a))

  slot_map : (sampled_slot c v).memory
      ≡ replied_map (replied_in c o l) (pick full (delivered_map (delivery_in c o l) c.memory o.frame) (ended_map t j (delivered_map (delivery_in c o l) c.memory o.frame)))
  unfolding sampled_slot judged_slot memory_judged
  slot_map =
      let n : ℕ = c.core.service.channel in
      let y : ℕ = c.core.reply.channel in
      let x : List ℕ = delivered_map (delivery_in c o l) c.memory o.frame in
      ap (λ (x : Ending). memory_replied q (memory_ended x (memory_delivered (delivers (role_in c.core) h r) c.memory r) n) y) ends
      ∙ ap (λ (d : Delivery). memory_replied q (memory_ended (pick full Fulfilled (end_t t j)) (memory_delivered d c.memory r) n) y) does
      ∙ ap (λ (x : Reception). memory_replied q (memory_ended (pick full Fulfilled (end_t t j)) (memory_delivered (delivery_in c o l) c.memory x) n) y) s.core.frame
      ∙ ap (λ (m : List ℕ). memory_replied q (memory_ended (pick full Fulfilled (end_t t j)) m n) y) (delivered_map_is (delivery_in c o l) c.memory o.frame)
      ∙ ap (λ (m : List ℕ). memory_replied q m y) (fulfilled_map full t j x n (ended_map_is t j x n (λ a. ((agrees c o s).counts a).channel) unended))
      ∙ replied_map_is q (pick full x (ended_map t j x)) y
      ∙ ap (λ (z : Replied). replied_map z (pick full x (ended_map t j x))) replies_so

  -- the registers once the sample's effects are taken
  abbrev was : Report
  was = c.core.report

  abbrev heard_report : Report
  heard_report = report_heard h was

  abbrev shown : Report
  shown = report_delivered (delivers (role_in c.core) h r) heard_report r

  abbrev closed : Report
  closed = report_ended (ending c.core w h) (report_judged w shown done) done

  abbrev message : Retries
  message = pick (is_stored (delivery_in c o l)) (record { count = 0; channel = o.frame.winner.channel }) was.message

  shown_message : (report_judged w shown done).message ≡ message
  shown_message =
      leaves_judged (λ x. x.message) (λ x y z. refl) w shown done
      ∙ message_delivered (delivers (role_in c.core) h r) heard_report r
      ∙ ap (λ (d : Delivery). pick (is_stored d) (record { count = 0; channel = r.winner.channel }) heard_report.message) does
      ∙ ap (λ (x : Reception). pick (is_stored (delivery_in c o l)) (record { count = 0; channel = x.winner.channel }) heard_report.message) s.core.frame
      ∙ ap (λ (x : Retries). pick (is_stored (delivery_in c o l)) (record { count = 0; channel = o.frame.winner.channel }) x) (leaves_heard (λ x. x.message) (λ x y. refl) h was)

  -- 0x06 shows a service's retries and channel only where one ends
  ended_retries : (x : Retries) → pick (either (sent_all t j) (exhausted_in j)) (retries_of done) x ≡ pick (either (sent_all t j) (exhausted_in j)) (retries_t j) x
  unfolding sent_all
  ended_retries x = go (is_away t.stand) refl
    where
      go : (b : Bool) → is_away t.stand ≡ b → pick (either (both (not b) (is_away j.stand)) (exhausted_in j)) (retries_of done) x ≡ pick (either (both (not b) (is_away j.stand)) (exhausted_in j)) (retries_t j) x
      go true e = rw (unended e).errors
      go false e = rw (told.retries e)

  rest_message : (report_ended (end_t t j) (report_judged w shown done) done).message ≡ pick (either (sent_all t j) (exhausted_in j)) (retries_t j) message
  unfolding end_t rest_t
  rest_message =
      message_ended (sent_all t j) (exhausted_in j) (aborted_in j) (both (pausing j.stand) j.rear) (report_judged w shown done) done
      ∙ ap (λ (x : Retries). pick (either (sent_all t j) (exhausted_in j)) (retries_of done) x) shown_message ∙ ended_retries message

  closed_message : closed.message ≡ pick (either (sent_all t j) (exhausted_in j)) (retries_t j) message
  closed_message =
      ap (λ (x : Ending). (report_ended x (report_judged w shown done) done).message) ends ∙ message_fulfilled full (end_t t j) (report_judged w shown done) done ∙ go full refl
    where
      go : (b : Bool) → full ≡ b → pick b (report_judged w shown done).message (report_ended (end_t t j) (report_judged w shown done) done).message ≡ pick (either (sent_all t j) (exhausted_in j)) (retries_t j) message
      go true e = let z = waiting_quiet (waiting_stand e) in rw (z.0, z.1) shown_message
      go false e = rest_message

  after_message : (report_after c.core w q h).message ≡ replied_message (replied_in c o l) (pick (either (sent_all t j) (exhausted_in j)) (retries_t j) message)
  unfolding report_after
  after_message =
      message_replied q closed c.core.reply.channel ∙ ap (λ (x : Replied). replied_message x closed.message) replies_so ∙ ap (replied_message (replied_in c o l)) closed_message

  after_error : (report_after c.core w q h).error
      ≡ pick (untaken_o t.stand (hearing_o c o l) (delivery_in c o l)) CV (pick (overflows (hearing_o c o l) (delivery_in c o l)) BOV (code_heard (hearing_o c o l) was.error))
  unfolding report_after
  after_error =
      let k : Core = c.core in
      leaves_replied (λ x. x.error) (λ x y z. refl) q closed k.reply.channel
      ∙ leaves_ended (λ x. x.error) (λ x y z. refl) (ending k w h) (report_judged w shown done) done
      ∙ ap (λ (d : Delivery). (report_judged w (report_delivered d heard_report r) done).error) (delivered_in_is t.stand k t o.reply h s.core.reply service_stands)
      ∙ error_in t.stand k t o.reply v done service_stands (is_judged c t s.joined v) h refl
      ∙ ap (λ (x : Hearing). pick (untaken_o t.stand x (delivered_in t.stand o.reply x r)) CV (pick (overflows x (delivered_in t.stand o.reply x r)) BOV (code_heard x was.error))) hears
      ∙ ap (λ (y : Reception). pick (untaken_o t.stand (hearing_o c o l) (delivered_in t.stand o.reply (hearing_o c o l) y)) CV (pick (overflows (hearing_o c o l) (delivered_in t.stand o.reply (hearing_o c o l) y)) BOV (code_heard (hearing_o c o l) was.error))) s.core.frame

  after_sending : (report_after c.core w q h).sending ≡ pick (ltb t.errors j.errors) (retries_t j) was.sending
  unfolding report_after
  after_sending =
      leaves_replied (λ x. x.sending) (λ x y z. refl) q closed c.core.reply.channel
      ∙ leaves_ended (λ x. x.sending) (λ x y z. refl) (ending c.core w h) (report_judged w shown done) done
      ∙ told.sending shown
      ∙ ap (λ (x : Retries). pick (ltb t.errors j.errors) (retries_t j) x)
      (sending_delivered (delivers (role_in c.core) h r) heard_report r ∙ leaves_heard (λ x. x.sending) (λ x y. refl) h was)

  abbrev m : List ℕ
  m = (sampled_slot c v).memory

  slot_report : (sampled_slot c v).core.report ≡ (follows_on m (judged_core c v)).report
  unfolding sampled_slot judged_slot judged_core
  slot_report = refl

  judged_report : (judged_core c v).report ≡ report_after c.core w q h
  unfolding judged_core core_judged
  judged_report = refl

  slot_message : (sampled_slot c v).core.report.message ≡ replied_message (replied_in c o l) (pick (either (sent_all t j) (exhausted_in j)) (retries_t j) message)
  slot_message = ap (λ (x : Report). x.message) slot_report ∙ follows_message m (judged_core c v) ∙ ap (λ (x : Report). x.message) judged_report ∙ after_message

  slot_error : (sampled_slot c v).core.report.error
      ≡ pick (untaken_o t.stand (hearing_o c o l) (delivery_in c o l)) CV (pick (overflows (hearing_o c o l) (delivery_in c o l)) BOV (code_heard (hearing_o c o l) was.error))
  slot_error = ap (λ (x : Report). x.error) slot_report ∙ follows_error m (judged_core c v) ∙ ap (λ (x : Report). x.error) judged_report ∙ after_error

  slot_flags : (sampled_slot c v).core.report.flags ≡ (report_after c.core w q h).flags
  slot_flags = ap (λ (x : Report). x.flags) slot_report ∙ flags_follow m (judged_core c v) ∙ ap (λ (x : Report). x.flags) judged_report

  -- the tally once the sample's effects are taken, and after the choice
  abbrev ended : Tally
  ended = pick full none (ended_t j)

  ended_so : ended_c c t v ≡ ended
  ended_so = ended_same c o s v m ∙ unfold sampled_o in refl

  abbrev chosen_tally : Tally
  chosen_tally = choose_t ended m (longest_of c.core) (is_active (after c o v m).activity.mode) (after c o v m).frame

  module _ (f : Fine c) (bytes : Below 256 m) where
    shown_choice : (choice_made m (idle_due (judged_core c v))).report.sending
        ≡ pick (both (is_away ended.stand) (not (is_away chosen_tally.stand))) (retries_t chosen_tally) (pick (ltb t.errors j.errors) (retries_t j) was.sending)
    shown_choice =
        let k : Core = idle_due (judged_core c v) in
        let i = idled_core c o s f v (sample_small c l) bytes in
        choice_shown m k ended (idle_service (judged_core c v) ∙ judged_service c o s f v (sample_small c l) bytes ∙ ap service_of ended_so)
        ∙ rw (i.activity, i.frame)
        (ap (λ (x : Retries). pick (both (is_away ended.stand) (not (is_away chosen_tally.stand))) (retries_t chosen_tally) x)
        (ap (λ (x : Report). x.sending) (idle_report (judged_core c v) ∙ judged_report) ∙ after_sending))

    tally_after : (goes_on_o (after c o v m) (longest_of c.core) m).tally ≡ start_t chosen_tally m (free_o (after c o v m).line) (after c o v m).frame
    unfolding goes_on_o
    tally_after =
        let e : (after c o v m).tally ≡ ended = idle_tally (sampled_o o (longest_of c.core) (drives c.core) v m) ∙ unfold sampled_o in refl in
        rw e

    ended_away : is_away ended.stand ≡ either full (is_away (ended_t j).stand)
    ended_away = go full
      where
        go : (b : Bool) → is_away (pick b none (ended_t j)).stand ≡ either b (is_away (ended_t j).stand)
        go true = unfold none is_away in refl
        go false = refl

    slot_sending : (u : Observer) → u.tally ≡ (goes_on_o (after c o v m) (longest_of c.core) m).tally → (sampled_slot c v).core.report.sending
        ≡ pick (both (either full (is_away (ended_t j).stand)) (not (is_away u.tally.stand))) (retries_t u.tally) (pick (ltb t.errors j.errors) (retries_t j) was.sending)
    slot_sending u e =
        let z : u.tally ≡ start_t chosen_tally m (free_o (after c o v m).line) (after c o v m).frame = e ∙ tally_after in
        ap (λ (x : Report). x.sending) slot_report ∙ follows_sending m (judged_core c v) ∙ shown_choice
        ∙ rw (z, start_stays chosen_tally m (free_o (after c o v m).line) (after c o v m).frame, start_retries chosen_tally m (free_o (after c o v m).line) (after c o v m).frame, ended_away)

-- ---- the six bits of a slot

sent_is : (a b c d : Bool) → is_sent (pick a Sent (pick b Exhausted (pick c Aborted (pick d Rearbitrated Going)))) ≡ a
unfolding is_sent
sent_is true b c d = refl
sent_is false true c d = refl
sent_is false false true d = refl
sent_is false false false true = refl
sent_is false false false false = refl

-- ---- what an event leaves, where it is accepted

pub record Leaves (c : Controller) (o : Observer) (e : Event) (d : Controller) : Type 0 where
  pub memory : d.memory ≡ memory_o c o e
  pub sending : d.core.report.sending ≡ sending_o c o e
  pub message : d.core.report.message ≡ message_o c o e
  pub error : d.core.report.error ≡ error_o c o e
  pub rst : d.core.report.flags.rst ≡ flag_o true 7 (λ levels. false) c.core.report.flags.rst o e
  pub te : d.core.report.flags.te ≡ flag_o false 4 (λ levels. exhausted_in (judged_in c o levels)) c.core.report.flags.te o e
  pub tok : d.core.report.flags.tok ≡ flag_o false 3 (λ levels. either (sent_all o.tally (judged_in c o levels)) (is_whole (replied_in c o levels))) c.core.report.flags.tok o e
  pub re : d.core.report.flags.re ≡ flag_o false 2 (λ levels. either (marks_cher (delivery_in c o levels)) (is_broken (replied_in c o levels))) c.core.report.flags.re o e
  pub rok : d.core.report.flags.rok ≡ flag_o false 1 (λ levels. both (is_stored (delivery_in c o levels)) (rak_o o)) c.core.report.flags.rok o e
  pub rnok : d.core.report.flags.rnok ≡ flag_o false 0 (λ levels. both (is_stored (delivery_in c o levels)) (not (rak_o o))) c.core.report.flags.rnok o e

-- none of it looks at the diagnosis
beside_leaves : (c : Controller) (o : Observer) (e : Event) (d : Controller) (x : Diagnosis) → Leaves c o e d → Leaves c o e (with_diagnosis_c d x)
beside_leaves c o e d x l =
    record { memory = l.memory; sending = l.sending; message = l.message; error = l.error; rst = l.rst; te = l.te; tok = l.tok; re = l.re; rok = l.rok; rnok = l.rnok }

reset_leaves : (c : Controller) (o : Observer) → Leaves c o Reset (reset_all c)
unfolding reset_all reset_core reset_report memory_o sending_o message_o error_o zero_retries flag_o
reset_leaves c o = record { memory = refl; sending = refl; message = refl; error = refl; rst = refl; te = refl; tok = refl; re = refl; rok = refl; rnok = refl }

read_leaves : (c : Controller) (o : Observer) (a : ℕ) → Leaves c o (Read a) c
unfolding memory_o sending_o message_o error_o flag_o
read_leaves c o a = record { memory = refl; sending = refl; message = refl; error = refl; rst = refl; te = refl; tok = refl; re = refl; rok = refl; rnok = refl }

rest_leaves : (c : Controller) (o : Observer) (l : ℕ) → is_active o.activity.mode ≡ false → Leaves c o (Slot l) c
unfolding memory_o sending_o message_o error_o flag_o
rest_leaves c o l a = record { memory = rw a; sending = rw a; message = rw a; error = rw a; rst = rw a; te = rw a; tok = rw a; re = rw a; rok = rw a; rnok = rw a }

module _ (c : Controller) (o : Observer) (s : Same c o) (l : ℕ) (a : is_active o.activity.mode ≡ true) where
  abbrev now : Flags
  now = (sampled_slot c (sample_of c l)).core.report.flags

  abbrev before : Flags
  before = c.core.report.flags

  abbrev judged : Verdict
  judged = slot_rule.verdict c.core (sample_of c l)

  abbrev replying : Verdict
  replying = reply_verdict (role_in c.core) c.core (sample_of c l)

  abbrev hearing : Hearing
  hearing = heard c.core judged (sample_of c l)

  asked_rak : acknowledge_asked (get_or c.core.reception.bytes 1 0) ≡ rak_o o
  asked_rak = ap (λ (x : Reception). acknowledge_asked (get_or x.bytes 1 0)) s.core.frame

  slot_rst : now.rst ≡ before.rst
  slot_rst = ap (λ (f : Flags). f.rst) (slot_flags c o s l) ∙ after_rst c.core judged replying hearing

  slot_te : now.te ≡ pick (exhausted_in (judged_in c o l)) true before.te
  unfolding exhausted_in
  slot_te = demand.slot_te c o.tally s.joined (sample_of c l) ∙ ap (λ (x : Tally). pick (ltb x.setting x.errors) true before.te) (counts_same c o s l)

  sent_so : is_sent (ending c.core judged hearing) ≡ sent_all o.tally (judged_in c o l)
  sent_so = ap is_sent (ends c o s l) ∙ go (fulfilled_o o (hearing_o c o l)) refl
    where
      go : (b : Bool) → fulfilled_o o (hearing_o c o l) ≡ b → is_sent (pick b Fulfilled (end_t o.tally (judged_in c o l))) ≡ sent_all o.tally (judged_in c o l)
      go true e = unfold is_sent in sym (waiting_quiet c o s l (waiting_stand c o s l e)).0
      go false e =
          unfold end_t rest_t in
          sent_is (sent_all o.tally (judged_in c o l)) (exhausted_in (judged_in c o l)) (aborted_in (judged_in c o l)) (both (pausing (judged_in c o l).stand) (judged_in c o l).rear)

  slot_tok : now.tok ≡ pick (either (sent_all o.tally (judged_in c o l)) (is_whole (replied_in c o l))) true before.tok
  slot_tok =
      let e : is_done replying ≡ is_whole (replied_in c o l) = done_whole replying c.core.reply.channel ∙ ap is_whole (replies_so c o s l) in
      ap (λ (f : Flags). f.tok) (slot_flags c o s l) ∙ after_tok c.core judged replying hearing
      ∙ ap (λ (b : Bool). pick (either b (is_done replying)) true before.tok) sent_so ∙ ap (λ (b : Bool). pick (either (sent_all o.tally (judged_in c o l)) b) true before.tok) e

  slot_re : now.re ≡ pick (either (marks_cher (delivery_in c o l)) (is_broken (replied_in c o l))) true before.re
  slot_re =
      let e : is_failed replying ≡ is_broken (replied_in c o l) = failed_broken replying c.core.reply.channel ∙ ap is_broken (replies_so c o s l) in
      ap (λ (f : Flags). f.re) (slot_flags c o s l) ∙ after_re c.core judged replying hearing
      ∙ ap (λ (d : Delivery). pick (either (marks_cher d) (is_failed replying)) true before.re) (does c o s l) ∙ ap (λ (b : Bool). pick (either (marks_cher (delivery_in c o l)) b) true before.re) e

  slot_rok : now.rok ≡ pick (both (is_stored (delivery_in c o l)) (rak_o o)) true before.rok
  slot_rok =
      ap (λ (f : Flags). f.rok) (slot_flags c o s l) ∙ after_rok c.core judged replying hearing
      ∙ ap (λ (d : Delivery). pick (both (is_stored d) (acknowledge_asked (get_or c.core.reception.bytes 1 0))) true before.rok) (does c o s l)
      ∙ ap (λ (b : Bool). pick (both (is_stored (delivery_in c o l)) b) true before.rok) asked_rak

  slot_rnok : now.rnok ≡ pick (both (is_stored (delivery_in c o l)) (not (rak_o o))) true before.rnok
  slot_rnok =
      ap (λ (f : Flags). f.rnok) (slot_flags c o s l) ∙ after_rnok c.core judged replying hearing
      ∙ ap (λ (d : Delivery). pick (both (is_stored d) (not (acknowledge_asked (get_or c.core.reception.bytes 1 0)))) true before.rnok) (does c o s l)
      ∙ ap (λ (b : Bool). pick (both (is_stored (delivery_in c o l)) (not b)) true before.rnok) asked_rak

  slot_leaves : Fine c → Below 256 (sampled_slot c (sample_of c l)).memory
      → next_o c o (Slot l) ≡ with_diagnosis_o (goes_on_o (after c o (sample_of c l) (sampled_slot c (sample_of c l)).memory) (longest_of c.core) (sampled_slot c (sample_of c l)).memory) (diagnosis_o c o l)
      → Leaves c o (Slot l) (sampled_slot c (sample_of c l))
  unfolding memory_o sending_o message_o error_o flag_o
  slot_leaves f b n =
      record {
        memory = rw a (slot_map c o s l);
        sending = rw a (slot_sending c o s l f b (next_o c o (Slot l)) (ap (λ (x : Observer). x.tally) n));
        message = rw a (slot_message c o s l);
        error = rw a (slot_error c o s l);
        rst = rw a slot_rst;
        te = rw a slot_te;
        tok = rw a slot_tok;
        re = rw a slot_re;
        rok = rw a slot_rok;
        rnok = rw a slot_rnok;
      }

-- ---- a host write

asked_stays : (t : Tally) (a v : ℕ) → is_away (asked_t t a v).stand ≡ is_away t.stand
unfolding asked_t asked_in
asked_stays t a v = go t.stand refl
  where
    asks_stays : (asks t a v).stand ≡ t.stand
    asks_stays =
        unfold asks in
        left (λ (x : Tally). x.stand) (eqb a command) (pick (asks_rearbitration v) (with_rear t true) t) (pick (both (eqb a (base t.channel + 3)) (cher v)) (with_abort t true) t) t.stand
        (left (λ (x : Tally). x.stand) (asks_rearbitration v) (with_rear t true) t t.stand refl refl)
        (left (λ (x : Tally). x.stand) (both (eqb a (base t.channel + 3)) (cher v)) (with_abort t true) t t.stand refl refl)

    go : (x : Stand) → t.stand ≡ x → is_away (asked_in x t a v).stand ≡ is_away t.stand
    go away h = refl
    go between h = ap is_away asks_stays
    go (opening start) h = ap is_away asks_stays
    go (inside start levels) h = ap is_away asks_stays
    go (answered start n) h = ap is_away asks_stays

quiet_ended : (u : Tally) (x : Report) (s : Service) → exhausted_in u ≡ false → report_ended (rest_t u) x s ≡ x
unfolding rest_t
quiet_ended u x s e = rw e (go (aborted_in u) (both (pausing u.stand) u.rear))
  where
    go : (a b : Bool) → report_ended (pick a Aborted (pick b Rearbitrated Going)) x s ≡ x
    go true b = unfold report_ended in refl
    go false true = unfold report_ended in refl
    go false false = unfold report_ended in refl

-- 0x03 is not 0x0B
other_address : (a : ℕ) → eqb a command ≡ true → eqb a interrupt_reset ≡ false
other_address a e = rw (eqb-true a command e)

module _ (c : Controller) (o : Observer) (s : Same c o) (a v : ℕ) where
  abbrev u : Tally
  u = asked_t o.tally a v

  abbrev x : Service
  x = service_asked c.core.service a v

  stops : stopped x ≡ rest_t u
  stops =
      let g = asked_good o.tally a v s.joined.good in
      ap stopped (asked_same c o.tally s.joined a v) ∙ stopped_is u g.errors g.setting

  asked_ends : rest_t u ≡ end_t o.tally u
  asked_ends = go (is_away o.tally.stand) refl
    where
      go : (b : Bool) → is_away o.tally.stand ≡ b → rest_t u ≡ end_t o.tally u
      go true e = off_service o.tally u e
      go false e = on_service o.tally u (asked_stays o.tally a v ∙ e)

  byte_map : (byte_written c a v).memory ≡ ended_map o.tally u (written_map c.memory a v)
  unfolding byte_written
  byte_map =
      let n : ℕ = c.core.service.channel in
      let k : kept_byte c.memory a v ≡ written_map c.memory a v = unfold kept_byte written_map write_only in refl in
      ap (λ (y : Ending). memory_ended y (kept_byte c.memory a v) n) (stops ∙ asked_ends) ∙ ap (λ (m : List ℕ). memory_ended (end_t o.tally u) m n) k
      ∙ ended_map_is o.tally u (written_map c.memory a v) n (λ b. ((agrees c o s).counts b).channel) (λ b. away_unended o.tally u (away_asked o.tally a v b) b s.joined.good.errors)

  written_report : (core_written c.core a v).report ≡ pick (eqb a interrupt_reset) (with_flags c.core.report (cleared c.core.report.flags v)) c.core.report
  unfolding core_written
  written_report = go (eqb a command) refl
    where
      go : (b : Bool) → eqb a command ≡ b → (pick b (mode_commanded c.core v) (pick (eqb a interrupt_reset) (flags_cleared c.core v) c.core)).report
          ≡ pick (eqb a interrupt_reset) (with_flags c.core.report (cleared c.core.report.flags v)) c.core.report
      go true e = mode_report c.core v ∙ rw (other_address a e)
      go false e = by (eqb a interrupt_reset)
        where
          by : (y : Bool) → (pick y (flags_cleared c.core v) c.core).report ≡ pick y (with_flags c.core.report (cleared c.core.report.flags v)) c.core.report
          by true = unfold flags_cleared in refl
          by false = refl

  byte_report : (byte_written c a v).core.report ≡ pick (eqb a interrupt_reset) (with_flags c.core.report (cleared c.core.report.flags v)) c.core.report
  unfolding byte_written stopped_core
  byte_report =
      let k : Core = core_written c.core a v in
      let g = asked_good o.tally a v s.joined.good in
      idle_report (with_service (with_report k (report_ended (stopped x) k.report x)) (settled (stopped x) x))
      ∙ ap (λ (y : Ending). report_ended y k.report x) stops ∙ quiet_ended u k.report x (unfold exhausted_in in le-ltb u.setting u.errors g.errors) ∙ written_report

  abbrev was_before : Report
  was_before = c.core.report

  abbrev left_report : Bool → Report
  left_report b = pick b (with_flags c.core.report (cleared c.core.report.flags v)) c.core.report

  bit_of : (f : Flags → Bool) (k : ℕ) → ((g : Flags) → f (cleared g v) ≡ unless (f g) (has_bit v k)) → (b : Bool) → f (left_report b).flags ≡ pick (both b (has_bit v k)) false (f was_before.flags)
  bit_of f k h true = h was_before.flags ∙ unfold unless in refl
  bit_of f k h false = refl

module _ (c : Controller) (o : Observer) (s : Same c o) (a value : ℕ) where
  abbrev byte : ℕ
  byte = value % 256

  slept_address : sleeps a byte ≡ true → eqb a interrupt_reset ≡ false
  unfolding sleeps
  slept_address e = other_address a (both_true (eqb a command) (asks_sleep byte) e).0

  -- a bit after a reset, after SLEEP and after any other write
  flag_wrote : (f : Flags → Bool) (k : ℕ) (z : Bool) (raises : ℕ → Bool) → f reset_report.flags ≡ z → ((g : Flags) → f (cleared g byte) ≡ unless (f g) (has_bit byte k))
      → f (host_written c a byte).core.report.flags ≡ flag_o z k raises (f c.core.report.flags) o (Write a value)
  unfolding host_written flag_o
  flag_wrote f k z raises h q = go (resets a byte) (sleeps a byte) refl
    where
      go : (x y : Bool) → sleeps a byte ≡ y → f (pick x (reset_all c) (pick y (record { memory = c.memory; core = slept c.core }) (byte_written c a byte))).core.report.flags
          ≡ pick x z (pick (both (eqb a interrupt_reset) (has_bit byte k)) false (f c.core.report.flags))
      go true y e = unfold reset_all reset_core in h
      go false true e = unfold slept in rw (slept_address e)
      go false false e = ap (λ (y : Report). f y.flags) (byte_report c o s a byte) ∙ bit_of c o s a byte f k q (eqb a interrupt_reset)

  -- a register that a write leaves
  left_wrote : {B : Type 0} (f : Report → B) (z : B) → f reset_report ≡ z → ((y : Report) (g : Flags) → f (with_flags y g) ≡ f y)
      → f (host_written c a byte).core.report ≡ pick (resets a byte) z (f c.core.report)
  unfolding host_written
  left_wrote f z h q = go (resets a byte) (sleeps a byte)
    where
      go : (x y : Bool) → f (pick x (reset_all c) (pick y (record { memory = c.memory; core = slept c.core }) (byte_written c a byte))).core.report ≡ pick x z (f c.core.report)
      go true y = unfold reset_all reset_core in h
      go false true = unfold slept in refl
      go false false = ap f (byte_report c o s a byte) ∙ left f (eqb a interrupt_reset) (with_flags c.core.report (cleared c.core.report.flags byte)) c.core.report (f c.core.report) (q _ _) refl

  map_wrote : (host_written c a byte).memory ≡ memory_o c o (Write a value)
  unfolding host_written memory_o
  map_wrote = go (resets a byte) (sleeps a byte)
    where
      go : (x y : Bool) → (pick x (reset_all c) (pick y (record { memory = c.memory; core = slept c.core }) (byte_written c a byte))).memory
          ≡ pick x (reset_memory c.memory) (pick y c.memory (ended_map o.tally (asked_t o.tally a byte) (written_map c.memory a byte)))
      go true y = unfold reset_all in refl
      go false true = refl
      go false false = byte_map c o s a byte

  wrote_leaves : Leaves c o (Write a value) (host_written c a byte)
  unfolding sending_o message_o error_o zero_retries reset_report cleared
  wrote_leaves =
      record {
        memory = map_wrote;
        sending = left_wrote (λ x. x.sending) zero_retries refl (λ x y. refl);
        message = left_wrote (λ x. x.message) zero_retries refl (λ x y. refl);
        error = left_wrote (λ x. x.error) 0 refl (λ x y. refl);
        rst = flag_wrote (λ x. x.rst) 7 true (λ levels. false) refl (λ x. refl);
        te = flag_wrote (λ x. x.te) 4 false (λ levels. exhausted_in (judged_in c o levels)) refl (λ x. refl);
        tok = flag_wrote (λ x. x.tok) 3 false (λ levels. either (sent_all o.tally (judged_in c o levels)) (is_whole (replied_in c o levels))) refl (λ x. refl);
        re = flag_wrote (λ x. x.re) 2 false (λ levels. either (marks_cher (delivery_in c o levels)) (is_broken (replied_in c o levels))) refl (λ x. refl);
        rok = flag_wrote (λ x. x.rok) 1 false (λ levels. both (is_stored (delivery_in c o levels)) (rak_o o)) refl (λ x. refl);
        rnok = flag_wrote (λ x. x.rnok) 0 false (λ levels. both (is_stored (delivery_in c o levels)) (not (rak_o o))) refl (λ x. refl);
      }

-- ---- every event

module _ (c : Controller) (o : Observer) (e : Event) (value : Answers c o e) (hearing : Hears c o e) where
  settles_taken : (d : Controller) → next c e ≡ d → accepted c e ≡ true → Leaves c o e d → Settles c o e
  settles_taken d n y h =
      record {
        value = value;
        hearing = hearing;
        memory = rw (n, y) h.memory;
        sending = rw (n, y) h.sending;
        message = rw (n, y) h.message;
        error = rw (n, y) h.error;
        rst = rw (n, y) h.rst;
        te = rw (n, y) h.te;
        tok = rw (n, y) h.tok;
        re = rw (n, y) h.re;
        rok = rw (n, y) h.rok;
        rnok = rw (n, y) h.rnok;
      }

  settles_refused : next c e ≡ c → accepted c e ≡ false → Settles c o e
  settles_refused n y =
      record {
        value = value;
        hearing = hearing;
        memory = rw (n, y);
        sending = rw (n, y);
        message = rw (n, y);
        error = rw (n, y);
        rst = rw (n, y);
        te = rw (n, y);
        tok = rw (n, y);
        re = rw (n, y);
        rok = rw (n, y);
        rnok = rw (n, y);
      }

refused_value : (c : Controller) (e : Event) (why : Refusal) → step c e ≡ refuse c why → (step c e).value ≡ 0
unfolding refuse
refused_value c e why h = rw h

accepted_value : (c d : Controller) (e : Event) → step c e ≡ accept 0 d → (step c e).value ≡ 0
unfolding accept
accepted_value c d e h = rw h

no_value : (c : Controller) (o : Observer) (e : Event) → (step c e).value ≡ 0 → accepted c e ≡ false → Answers c o e
no_value c o Reset z y = z
no_value c o (Write a v) z y = z
no_value c o (Read a) z y = λ h. absurd (false≢true (sym y ∙ h))
no_value c o (Slot l) z y = λ h. absurd (false≢true (sym y ∙ h))

-- ---- a host read

status_plain : (a : ℕ) → eqb a line_status_at ≡ false → eqb a transmission_status ≡ false → eqb a last_message_status ≡ false → eqb a last_error_status ≡ false → eqb a interrupt_status_at ≡ false → read_only a ≡ false
unfolding read_only
status_plain a p q r t u = rw u (go (leb line_status_at a) refl (leb a last_error_status) refl)
  where
    go : (x : Bool) → leb line_status_at a ≡ x → (y : Bool) → leb a last_error_status ≡ y → either (both x y) false ≡ false
    go true e true d =
        absurd (let i = leb-true line_status_at a e in let k = leb-true a last_error_status d in omega (arith, eqb-false a line_status_at p, eqb-false a transmission_status q, eqb-false a last_message_status r, eqb-false a last_error_status t))
    go true e false d = refl
    go false e y d = refl

module _ (c : Controller) (o : Observer) (s : Same c o) (a : ℕ) where
  line_status_is : line_status_of c.core ≡ line_status (is_asleep o.activity.mode) (is_idle o.activity.mode) o.diagnosis (not (is_away o.tally.stand)) (under_way o.frame.place)
  unfolding line_status_of
  line_status_is = rw (serving_is c.core.service o.tally s.joined.service, s.core.activity, s.core.frame, s.diagnosis)

  abbrev Reads : Bool → Bool → Bool → Bool → Bool → Type 0
  Reads p q r t u = byte_read c a
      ≡ pick p (line_status (is_asleep o.activity.mode) (is_idle o.activity.mode) o.diagnosis (not (is_away o.tally.stand)) (under_way o.frame.place))
      (pick q (retries_byte c.core.report.sending) (pick r (retries_byte c.core.report.message) (pick t c.core.report.error (pick u (interrupt_status c.core.report.flags) (get_or c.memory (a % 256) 0)))))

  reads : (p : Bool) → eqb a line_status_at ≡ p → (q : Bool) → eqb a transmission_status ≡ q → (r : Bool) → eqb a last_message_status ≡ r → (t : Bool) → eqb a last_error_status ≡ t
      → (u : Bool) → eqb a interrupt_status_at ≡ u → Reads p q r t u
  unfolding byte_read status_read
  reads true p q q' r r' t t' u u' = rw (eqb-true a line_status_at p) (unfold read_only in line_status_is)
  reads false p true q r r' t t' u u' = rw (eqb-true a transmission_status q) (unfold read_only in refl)
  reads false p false q true r t t' u u' = rw (eqb-true a last_message_status r) (unfold read_only in refl)
  reads false p false q false r true t u u' = rw (eqb-true a last_error_status t) (unfold read_only in refl)
  reads false p false q false r false t true u = rw (eqb-true a interrupt_status_at u) (unfold read_only in refl)
  reads false p false q false r false t false u = rw (status_plain a p q r t u)

  host_reads : byte_read c a ≡ read_o c o a
  unfolding read_o
  host_reads = reads (eqb a line_status_at) refl (eqb a transmission_status) refl (eqb a last_message_status) refl (eqb a last_error_status) refl (eqb a interrupt_status_at) refl

read_called : (c : Controller) (a : ℕ) → Call c (accept (byte_read c a) c) (step c (Read a))
unfolding step host_read
read_called c a = call_of c (access_refusals c a ++ read_refusals a) (accept (byte_read c a) c)

accepted_read : (c : Controller) (a : ℕ) → Call c (accept (byte_read c a) c) (step c (Read a)) → accepted c (Read a) ≡ true → (step c (Read a)).value ≡ byte_read c a
accepted_read c a (refused why h) y = absurd (false≢true (sym (refused_not c none (Read a) why h) ∙ y))
accepted_read c a (steps.taken h) y = ap (λ (x : Answer). x.value) h ∙ unfold accept in refl

heard_so : (c : Controller) (o : Observer) → Same c o → (e : Event) → Hears c o e
heard_so c o s Reset = tt
heard_so c o s (Write a v) = tt
heard_so c o s (Read a) = tt
heard_so c o s (Slot l) = hears_same c o s (sample_of c l)

-- z: an answer that comes is not at its longest
module _ (c : Controller) (o : Observer) (s : Same c o) (f : Fine c) (z : (v : ℕ) → v < 2 → Coming (longest_of c.core) o.tally.stand (answer_c c v)) where
  slot_value : (l : ℕ) (d : Controller) → step c (Slot l) ≡ run.answered d → Answers c o (Slot l)
  slot_value l d h y =
      let n : next c (Slot l) ≡ d = unfold run.answered in accepted_next c o.tally (Slot l) (transmitted (get_or d.memory line_control 0) (drives d.core)) d h in
      let e : (step c (Slot l)).value ≡ transmitted (get_or d.memory line_control 0) (drives d.core) = ap (λ (x : Answer). x.value) h ∙ unfold run.answered accept in refl in
      let q : drives (next c (Slot l)).core ≡ level_o (next_o c o (Slot l)) = (agrees (next c (Slot l)) (next_o c o (Slot l)) (same_next c o s f z (Slot l) (step_of c (Slot l))).same).level in
      e ∙ ap (λ (x : Controller). transmitted (get_or x.memory line_control 0) (drives x.core)) (sym n) ∙ ap (transmitted (get_or (next c (Slot l)).memory line_control 0)) q

  rest_value : (l : ℕ) → is_active c.core.activity.mode ≡ false → step c (Slot l) ≡ rested_slot (resting_slot c l) → Answers c o (Slot l)
  rest_value l a h y =
      let d : Controller = resting_slot c l in
      let k : ℕ = transmitted (get_or d.memory line_control 0) 1 in
      let i : step c (Slot l) ≡ accept k d = h ∙ unfold rested_slot in refl in
      let n : next c (Slot l) ≡ d = accepted_next c o.tally (Slot l) k d i in
      let e : (step c (Slot l)).value ≡ k = ap (λ (x : Answer). x.value) i ∙ unfold accept in refl in
      let b : is_active o.activity.mode ≡ false = sym (active_is c o s f z) ∙ a in
      let m : next_o c o (Slot l) ≡ with_diagnosis_o o (diagnosis_o c o l) = taken c o s f z (Slot l) k d i ∙ rested_by c o s f z l b in
      let q : level_o (next_o c o (Slot l)) ≡ 1 = ap level_o m ∙ quiet_level (diagnosis_o c o l) b in
      e ∙ ap (λ (x : Controller). transmitted (get_or x.memory line_control 0) 1) (sym n) ∙ ap (transmitted (get_or (next c (Slot l)).memory line_control 0)) (sym q)
    where
      quiet_level : (x : Diagnosis) → is_active o.activity.mode ≡ false → level_o (with_diagnosis_o o x) ≡ 1
      quiet_level x b = unfold level_o in rw b

  read_value : (a : ℕ) → Answers c o (Read a)
  read_value a y = accepted_read c a (read_called c a) y ∙ host_reads c o s a

  went_settles : (l : ℕ) → is_active c.core.activity.mode ≡ true → step c (Slot l) ≡ run.answered (active_slot c l) → Settles c o (Slot l)
  went_settles l a h =
      let x : Controller = active_slot c l in
      let d : Controller = with_diagnosis_c (sampled_slot c (sample_of c l)) (active_slot c l).core.diagnosis in
      let k : ℕ = transmitted (get_or x.memory line_control 0) (drives x.core) in
      let i : step c (Slot l) ≡ accept k x = h ∙ unfold run.answered in refl in
      let b : is_active o.activity.mode ≡ true = sym (active_is c o s f z) ∙ a in
      let n : next c (Slot l) ≡ d = went_next c o.tally l h in
      settles_taken c o (Slot l) (slot_value l x h) (heard_so c o s (Slot l)) d n (accepted_so c o.tally (Slot l) k x i)
      (beside_leaves c o (Slot l) (sampled_slot c (sample_of c l)) _ (slot_leaves c o s l b f (bytes_after c o s f z l d n) (taken c o s f z (Slot l) k x i ∙ followed_by c o s f z l d b n)))

  rested_settles : (l : ℕ) → is_active c.core.activity.mode ≡ false → step c (Slot l) ≡ rested_slot (resting_slot c l) → Settles c o (Slot l)
  rested_settles l a h =
      let d : Controller = resting_slot c l in
      let k : ℕ = transmitted (get_or d.memory line_control 0) 1 in
      let i : step c (Slot l) ≡ accept k d = h ∙ unfold rested_slot in refl in
      settles_taken c o (Slot l) (rest_value l a h) (heard_so c o s (Slot l)) (with_diagnosis_c c d.core.diagnosis) (rested_next c o.tally l h) (accepted_so c o.tally (Slot l) k d i)
      (beside_leaves c o (Slot l) c _ (rest_leaves c o l (sym (active_is c o s f z) ∙ a)))

  pub settles : (e : Event) → Step c e → Settles c o e
  settles e (refusal n h) = let y = refused_not c o.tally e n h in settles_refused c o e (no_value c o e (refused_value c e n h) y) (heard_so c o s e) (refused_next c o.tally e n h) y
  settles Reset (reset h) = settles_taken c o Reset (accepted_value c (reset_all c) Reset h) tt (reset_all c) (accepted_next c o.tally Reset 0 (reset_all c) h) (accepted_so c o.tally Reset 0 (reset_all c) h) (reset_leaves c o)
  settles (Write a v) (wrote h) =
      let d : Controller = host_written c a (v % 256) in
      settles_taken c o (Write a v) (accepted_value c d (Write a v) h) tt d (accepted_next c o.tally (Write a v) 0 d h) (accepted_so c o.tally (Write a v) 0 d h) (wrote_leaves c o s a v)
  settles (Read a) (gave value h) = settles_taken c o (Read a) (read_value a) tt c (accepted_next c o.tally (Read a) value c h) (accepted_so c o.tally (Read a) value c h) (read_leaves c o a)
  settles (Slot l) (went a h) = went_settles l a h
  settles (Slot l) (rested a h) = rested_settles l a h
