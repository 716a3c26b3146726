-- The sending service: choice, start, abort, REAR, end; requests and immediate replies (01, Sending; 02, Req 01; 000, Retries, Rearbitrate and Abort).
--   role_of, receives, own_frame == what the model is in the frame under way        stopped, ending_of, settled == the end of a service
--   memory_ended, report_judged, report_ended == memory map and registers        chosen, choose, started == choice and start
--   answered_as == what an answer is for its request        fulfils == a stored reply ends a waiting request
--   judge_reply, replied, memory_replied, report_replied, reply_taken == an immediate reply
use Rattle.std.specs.Prelude.{ℕ, ◌+◌, ◌%◌, Bool, true, false, List, eqb, ltb, get_or, replicate, Option, None, Some}
use Rattle.line.specs.Bits.{pick}
use Rattle.rules.specs.Definitions.Longest.{capacity}
use Rattle.rules.specs.Definitions.Setters.{with_te, with_tok, with_re, with_sending, with_message, with_error, with_flags, with_frame, with_setting, with_progress, with_channel, with_abort, with_rear, with_effort}
use Rattle.rules.specs.Definitions.Registers.{both, transmit_control, retry_setting, CV, BOV}
use Rattle.rules.specs.Definitions.Channels.{base, cher, lowest_ready, replier_for}
use Rattle.rules.specs.Definitions.Mailbox.{sent_frame, reply_frame, coded, marked_cher, marked_chtx, marked_chrx}
use Rattle.rules.specs.Definitions.Reception.{free, under_way, start_ended, reply_low}
use Rattle.rules.specs.Definitions.Attempt.{no_counts, at_stage, in_service, between_attempts, waits, drives_frame, is_answered, is_request, rtr_slot, judge_slot, exhausted}
use Rattle.rules.specs.declared.Retries.{Retries}
use Rattle.rules.specs.declared.Report.{Report}
use Rattle.rules.specs.declared.Line.{Line}
use Rattle.rules.specs.declared.Place.{Place}
use Rattle.rules.specs.declared.Reception.{Reception}
use Rattle.rules.specs.declared.Hearing.{Hearing}
use Rattle.rules.specs.declared.Hearing.TheVariants.{Silent, Follows, Fault, Good}
use Rattle.rules.specs.declared.Delivery.{Delivery}
use Rattle.rules.specs.declared.Delivery.TheVariants as delivery
use Rattle.rules.specs.declared.ImmediateReply.{ImmediateReply}
use Rattle.rules.specs.declared.Stage.TheVariants.{Resting, Waiting, Opening}
use Rattle.rules.specs.declared.Progress.{Progress}
use Rattle.rules.specs.declared.Service.{Service}
use Rattle.rules.specs.declared.Verdict.{Verdict}
use Rattle.rules.specs.declared.Verdict.TheVariants.{Unjudged, Goes, Lost, Failed, Done, Answered}
use Rattle.rules.specs.declared.Ending.{Ending}
use Rattle.rules.specs.declared.Ending.TheVariants.{Going, Sent, Exhausted, Aborted, Rearbitrated, Fulfilled}
use Rattle.rules.specs.declared.Role.{Role}
use Rattle.rules.specs.declared.Role.TheVariants.{Nobody, Receiver, Sender, Asker, Replier}

-- sender from its first driven slot on; asker once its request is answered; replier; receiver of any other frame under way
unfoldable pub role_of : Progress → Bool → Place → Role
role_of p replies here = pick (drives_frame p) Sender (pick (is_answered p) Asker (pick replies Replier (pick (under_way here) Receiver Nobody)))

-- another module's frame, the answer to the model's own request among them (02, Req 01)
unfoldable pub receives : Role → Bool
receives Nobody = false
receives Receiver = true
receives Sender = false
receives Asker = true
receives Replier = false

-- the model's own frame: its attempt or its immediate reply
unfoldable pub own_frame : Role → Bool
own_frame Nobody = false
own_frame Receiver = false
own_frame Sender = true
own_frame Asker = false
own_frame Replier = true

unfoldable pub resting : Service
resting =
    record {
      channel = 0;
      abort = false;
      rear = false;
      effort = record { frame = record { n = 0; bytes = replicate (capacity + 4) 0 }; setting = 0; progress = at_stage Resting 0; counters = no_counts };
    }

-- ---- the end of a service

-- "ends the service after the current attempt, or at once between attempts ..; exhaustion is judged first"; with both waiting it is an abort
unfoldable pub stopped : Service → Ending
stopped s =
    pick (between_attempts s.effort.progress)
    (pick (exhausted s.effort) Exhausted (pick s.abort Aborted (pick s.rear Rearbitrated Going)))
    Going

unfoldable pub ending_of : Verdict → Service → Ending
ending_of Unjudged s = stopped s
ending_of Goes s = stopped s
ending_of Lost s = stopped s
ending_of (Failed code) s = stopped s
ending_of Done s = Sent
ending_of Answered s = stopped s

unfoldable pub settled : Ending → Service → Service
settled Going s = s
settled Sent s = resting
settled Exhausted s = resting
settled Aborted s = resting
settled Rearbitrated s = resting
settled Fulfilled s = resting

-- "After error R + 1: TE, CHER, CHTx. Success: TOK, CHTx." An abort sets CHTx (000, Abort), REAR nothing.
unfoldable pub memory_ended : Ending → List ℕ → ℕ → List ℕ
memory_ended Going m c = m
memory_ended Sent m c = marked_chtx m c
memory_ended Exhausted m c = marked_chtx (marked_cher m c) c
memory_ended Aborted m c = marked_chtx m c
memory_ended Rearbitrated m c = m
memory_ended Fulfilled m c = m

-- "Retry fields show the smaller of errors and R"; errors below R are below 256, and the remainder is there for other numbers only
unfoldable pub retries_of : Service → Retries
retries_of s =
    record {
      count = pick (ltb s.effort.counters.errors.0 s.effort.setting) (s.effort.counters.errors.0 % 256) s.effort.setting;
      channel = s.channel;
    }

-- 0x05: at the choice and at each error
unfoldable pub report_sending : Report → Service → Report
report_sending x s = with_sending x (retries_of s)

unfoldable pub report_judged : Verdict → Report → Service → Report
report_judged Unjudged x s = x
report_judged Goes x s = x
report_judged Lost x s = x
report_judged (Failed code) x s = report_sending (with_error x code) s
report_judged Done x s = x
report_judged Answered x s = x

-- "0x06 is written on success, exhaustion"
unfoldable pub report_ended : Ending → Report → Service → Report
report_ended Going x s = x
report_ended Sent x s = with_flags (with_message x (retries_of s)) (with_tok x.flags true)
report_ended Exhausted x s = with_flags (with_message x (retries_of s)) (with_te x.flags true)
report_ended Aborted x s = x
report_ended Rearbitrated x s = x
report_ended Fulfilled x s = x

-- ---- a request (02, Req 01)

-- a good end, for the attempt that is answered: "counts as success .. if the frame ends valid and fits the channel that takes it .., else, or where none takes it (CV, at
-- the end of a good frame), as an error"
unfoldable pub good_for : Delivery → Verdict
good_for delivery.Nothing = Failed CV
good_for delivery.Stored = Done
good_for delivery.Overflowed = Failed BOV
good_for delivery.Spoiled = Failed CV

-- what a sample of the frame that answers it is for the attempt
unfoldable pub answered_as : Hearing → Delivery → Verdict
answered_as Silent d = Answered
answered_as Follows d = Answered
answered_as (Fault code) d = Failed code
answered_as Good d = good_for d

-- "a service waiting to send it ends in the slot where its channel stores that reply, without TE (house)": a frame with R/W 1 and RTR 0. Where a first level
-- is answered and not yet sampled the model is the sender, and no frame is delivered
unfoldable pub fulfils : Delivery → Reception → Service → Bool
fulfils delivery.Nothing r s = false
fulfils delivery.Stored r s =
    both (between_attempts s.effort.progress)
    (both (is_request s.effort.frame) (both (eqb r.winner.channel s.channel) (eqb (get_or r.bytes 1 0 % 4) 0b10)))
fulfils delivery.Overflowed r s = false
fulfils delivery.Spoiled r s = false

-- ---- an immediate reply (02, Req 01)

unfoldable pub no_reply : ImmediateReply
no_reply = record { going = false; channel = 0; at = 0; frame = resting.effort.frame }

-- it "is lost, fails or succeeds as an attempt does"
unfoldable pub judge_reply : ImmediateReply → ℕ → Verdict
judge_reply y v = judge_slot y.frame y.at v

unfoldable pub reply_moved : ImmediateReply → ImmediateReply
reply_moved y = record { going = y.going; channel = y.channel; at = y.at + 1; frame = y.frame }

-- "is never repeated"
unfoldable pub replied : Verdict → ImmediateReply → ImmediateReply
replied Unjudged y = y
replied Goes y = reply_moved y
replied Lost y = no_reply
replied (Failed code) y = no_reply
replied Done y = no_reply
replied Answered y = no_reply

-- success sets CHTx and CHRx (000: 1,0,1,1); "An error in it sets CHER and RE, not TE"
unfoldable pub memory_replied : Verdict → List ℕ → ℕ → List ℕ
memory_replied Unjudged m c = m
memory_replied Goes m c = m
memory_replied Lost m c = m
memory_replied (Failed code) m c = marked_cher m c
memory_replied Done m c = marked_chrx (marked_chtx m c) c
memory_replied Answered m c = m

-- TOK, "0x06: retries 0"
unfoldable pub report_replied : Verdict → Report → ℕ → Report
report_replied Unjudged x c = x
report_replied Goes x c = x
report_replied Lost x c = x
report_replied (Failed code) x c = with_flags x (with_re x.flags true)
report_replied Done x c = with_flags (with_message x (record { count = 0; channel = c })) (with_tok x.flags true)
report_replied Answered x c = x

-- the reply of the channel that replies, taken with its data bytes; it begins at RTR's first half
unfoldable pub reply_by : List ℕ → ℕ → ℕ → Option ℕ → ImmediateReply
reply_by m high low None = no_reply
reply_by m high low (Some c) = record { going = true; channel = c; at = rtr_slot; frame = coded (reply_frame m c high low) }

unfoldable pub reply_taken : List ℕ → ℕ → Reception → ImmediateReply
reply_taken m longest r = reply_by m (get_or r.bytes 0 0) (reply_low r) (replier_for m longest (get_or r.bytes 0 0) (reply_low r))

-- ---- choice and start

-- "Frame and MR are copied then (house)"
unfoldable pub chosen : List ℕ → ℕ → Service
chosen m c =
    with_effort (with_channel resting c)
    (with_progress (with_setting (with_frame resting.effort (coded (sent_frame m c))) (retry_setting (get_or m transmit_control 0))) (at_stage Waiting 0))

unfoldable pub choice_of : List ℕ → Option ℕ → Service
choice_of m None = resting
choice_of m (Some c) = chosen m c

-- "the lowest channel .. is chosen"
unfoldable pub choose : List ℕ → ℕ → Service
choose m longest = choice_of m (lowest_ready m longest)

unfoldable pub opened : Service → ℕ → Service
opened s k = with_effort s (with_progress s.effort (at_stage Opening k))

-- "MT 1 starts at once on a free line; either type joins a clean start sequence."
unfoldable pub started : Service → Bool → Line → Reception → Service
started s autonomous l r =
    pick (waits s.effort.progress)
    (pick (start_ended r) (opened s 10) (pick (under_way r.place) s (pick (both autonomous (free l)) (opened s 0) s)))
    s

-- ---- abort and REAR

unfoldable pub abort_asked : Service → Service
abort_asked s = with_abort s true

-- REAR without a service is not remembered
unfoldable pub rear_asked : Service → Service
rear_asked s = with_rear s (in_service s.effort.progress)

-- "Writing CHER 1 to the channel (abort)"
unfoldable pub aborts : Service → ℕ → ℕ → Bool
aborts s address value =
    both (in_service s.effort.progress) (both (eqb address (base s.channel + 3)) (cher value))

-- ---- the model's own frame, for the line: it goes on, is another's once lost or answered, ends in an error, or ends well

unfoldable pub hear_own : Verdict → Hearing
hear_own Unjudged = Silent
hear_own Goes = Follows
hear_own Lost = Follows
hear_own (Failed code) = Fault code
hear_own Done = Good
hear_own Answered = Follows
