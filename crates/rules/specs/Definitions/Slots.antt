-- A slot (01, Receiving and Sending; 02, Req 01 and Req 05). Active: the sample of the input selected as the slot begins is judged with all its effects; then a waiting idle that
-- has come due; then the choice; then a start; then the answer; then the diagnosis counts the slot's edges.
--   role_in == what the model is in the frame under way        verdict, reply_verdict, heard, delivers, ending == what a sample is        memory_judged, core_judged == memory map and state with its effects
--   idle_due, choice_made, start_made == what follows        drives == the level for the next slot        diagnosis_after, diagnosed_slot == the diagnosis
use Rattle.std.specs.Prelude.{ℕ, Bool, false, not, List, eqb, get_or}
use Rattle.line.specs.Bits.{pick}
use Rattle.rules.specs.Definitions.Setters.{with_effort, with_report, with_line, with_reception, with_service, with_reply, with_diagnosis}
use Rattle.rules.specs.Definitions.Longest.{longest_of}
use Rattle.rules.specs.Definitions.Registers.{both, line_control, transmit_control, diagnosis_control, autonomous, received}
use Rattle.rules.specs.Definitions.Reception.{under_way, command_ended, reads_asked, winner_taken}
use Rattle.rules.specs.Definitions.Hearing.{line_after, reception_after, hear_frame, hear_quiet, ends_well, receiver_level}
use Rattle.rules.specs.Definitions.Delivery.{delivery_of, memory_delivered, report_heard, report_delivered}
use Rattle.rules.specs.Definitions.Attempt.{level_at, judge_slot, advance}
use Rattle.rules.specs.Definitions.Service.{role_of, own_frame, ending_of, settled, memory_ended, report_sending, report_judged, report_ended, answered_as, fulfils, judge_reply, replied, memory_replied, report_replied, reply_taken, choose, started, hear_own}
use Rattle.rules.specs.Definitions.State.{is_active, is_asleep, serving, idle_due}
use Rattle.diagnosis.specs.Rules.{input_level, connected, diagnosed}
use Rattle.diagnosis.specs.declared.Diagnosis.{Diagnosis}
use Rattle.rules.specs.declared.Report.{Report}
use Rattle.rules.specs.declared.Reception.{Reception}
use Rattle.rules.specs.declared.Hearing.{Hearing}
use Rattle.rules.specs.declared.Delivery.{Delivery}
use Rattle.rules.specs.declared.Delivery.TheVariants.{Nothing}
use Rattle.rules.specs.declared.Service.{Service}
use Rattle.rules.specs.declared.ImmediateReply.{ImmediateReply}
use Rattle.rules.specs.declared.Verdict.{Verdict}
use Rattle.rules.specs.declared.Verdict.TheVariants.{Unjudged}
use Rattle.rules.specs.declared.Ending.{Ending}
use Rattle.rules.specs.declared.Ending.TheVariants.{Fulfilled}
use Rattle.rules.specs.declared.Role.{Role}
use Rattle.rules.specs.declared.Role.TheVariants.{Nobody, Receiver, Sender, Asker, Replier}
use Rattle.rules.specs.declared.Core.{Core}
use Rattle.rules.specs.declared.Controller.{Controller}

-- ---- what a sample is

abbrev pub role_in : Core → Role
role_in k = role_of k.service.effort.progress k.reply.going k.reception.place

-- what the sample is for an immediate reply under way
unfoldable pub reply_verdict : Role → Core → ℕ → Verdict
reply_verdict Nobody k v = Unjudged
reply_verdict Receiver k v = Unjudged
reply_verdict Sender k v = Unjudged
reply_verdict Asker k v = Unjudged
reply_verdict Replier k v = judge_reply k.reply v

-- and for the line and the frame under way; w is what it is for the attempt
unfoldable pub heard_as : Role → Core → Verdict → ℕ → Hearing
heard_as Nobody k w v = hear_quiet k.line v
heard_as Receiver k w v = hear_frame k.reception (longest_of k) v
heard_as Sender k w v = hear_own w
heard_as Asker k w v = hear_frame k.reception (longest_of k) v
heard_as Replier k w v = hear_own (judge_reply k.reply v)

unfoldable pub heard : Core → Verdict → ℕ → Hearing
heard k w v = heard_as (role_in k) k w v

-- "The model's own frame, sent whole or ended by an error, is not stored, touches no receiving channel"
unfoldable pub delivers : Role → Hearing → Reception → Delivery
delivers Nobody h r = Nothing
delivers Receiver h r = delivery_of h r
delivers Sender h r = Nothing
delivers Asker h r = delivery_of h r
delivers Replier h r = Nothing

-- what the sample is for the attempt under way
unfoldable pub verdict_as : Role → Core → ℕ → Verdict
verdict_as Nobody k v = Unjudged
verdict_as Receiver k v = Unjudged
verdict_as Sender k v = judge_slot k.service.effort.frame k.service.effort.progress.at v
verdict_as Asker k v = answered_as (hear_frame k.reception (longest_of k) v) (delivery_of (hear_frame k.reception (longest_of k) v) k.reception)
verdict_as Replier k v = Unjudged

unfoldable pub verdict : Core → ℕ → Verdict
verdict k v = verdict_as (role_in k) k v

unfoldable pub service_judged : Verdict → Service → Service
service_judged w s = with_effort s (advance w s.effort)

-- a reply that a waiting request's channel stores ends its service; else the attempt, or what the host asked
unfoldable pub ending : Core → Verdict → Hearing → Ending
ending k w h =
    pick (fulfils (delivers (role_in k) h k.reception) k.reception k.service) Fulfilled (ending_of w (service_judged w k.service))

-- ---- its effects

-- the winner is taken in the last command slot, whoever sends
unfoldable pub reception_judged : List ℕ → Hearing → Reception → ℕ → Reception
reception_judged m h r v =
    pick (command_ended (reception_after h r v)) (winner_taken (reception_after h r v) m) (reception_after h r v)

-- 0x07, then what the frame did, then 0x05 at an error, then the end of the service, then the reply; q is what the sample is for it
unfoldable pub report_after : Core → Verdict → Verdict → Hearing → Report
report_after k w q h =
    report_replied q
    (report_ended (ending k w h)
    (report_judged w (report_delivered (delivers (role_in k) h k.reception) (report_heard h k.report) k.reception) (service_judged w k.service))
    (service_judged w k.service))
    k.reply.channel

-- the store or CHER first, then the marks of a service that ends, then those of the reply
unfoldable pub memory_judged : List ℕ → Core → Verdict → Verdict → Hearing → List ℕ
memory_judged m k w q h =
    memory_replied q (memory_ended (ending k w h) (memory_delivered (delivers (role_in k) h k.reception) m k.reception) k.service.channel) k.reply.channel

-- the reply is taken in the R/W slot of another module's frame; r is the frame after the sample
unfoldable pub reply_after : Role → List ℕ → Core → Verdict → Reception → ImmediateReply
reply_after Nobody m k q r = k.reply
reply_after Receiver m k q r = pick (reads_asked r) (reply_taken m (longest_of k) r) k.reply
reply_after Sender m k q r = k.reply
reply_after Asker m k q r = k.reply
reply_after Replier m k q r = replied q k.reply

unfoldable pub core_judged : List ℕ → Core → Verdict → Verdict → Hearing → ℕ → Core
core_judged m k w q h v =
    with_reply
    (with_service
    (with_reception (with_line (with_report k (report_after k w q h)) (line_after h k.line v)) (reception_judged m h k.reception v))
    (settled (ending k w h) (service_judged w k.service)))
    (reply_after (role_in k) m k q (reception_judged m h k.reception v))

-- ---- what follows

-- "if active with no frame under way and no service"
unfoldable pub chooses : Core → Bool
chooses k = both (is_active k.activity.mode) (both (not (serving k.service)) (not (under_way k.reception.place)))

-- the service of the channel chosen, and 0x05
unfoldable pub choice_made : List ℕ → Core → Core
choice_made m k =
    pick (chooses k)
    (pick (serving (choose m (longest_of k))) (with_service (with_report k (report_sending k.report (choose m (longest_of k)))) (choose m (longest_of k))) k)
    k

unfoldable pub start_made : List ℕ → Core → Core
start_made m k = with_service k (started k.service (autonomous (get_or m transmit_control 0)) k.line k.reception)

unfoldable pub follows_on : List ℕ → Core → Core
follows_on m k = start_made m (choice_made m (idle_due k))

-- the level for the next slot, before the transmit inversion
unfoldable pub drives_as : Role → Core → ℕ
drives_as Nobody k = 1
drives_as Receiver k = receiver_level k.reception
drives_as Sender k = level_at k.service.effort.frame k.service.effort.progress.at
drives_as Asker k = receiver_level k.reception
drives_as Replier k = level_at k.reply.frame k.reply.at

unfoldable pub drives : Core → ℕ
drives k = drives_as (role_in k) k

-- ---- the slot

-- the levels of the three inputs
unfoldable pub levels_of : Controller → ℕ → ℕ
levels_of c levels = received (get_or c.memory line_control 0) levels

-- the level sampled: "that of the input selected as the slot begins, before its edges count" (02, Req 05)
unfoldable pub sample_of : Controller → ℕ → ℕ
sample_of c levels = input_level (levels_of c levels) (connected (get_or c.memory diagnosis_control 0) c.core.diagnosis)

-- memory map and state after a sample v that is w for the attempt, q for the reply and h for the line
unfoldable pub judged_slot : Controller → Verdict → Verdict → Hearing → ℕ → Controller
judged_slot c w q h v =
    record {
      memory = memory_judged c.memory c.core w q h;
      core = follows_on (memory_judged c.memory c.core w q h) (core_judged (memory_judged c.memory c.core w q h) c.core w q h v);
    }

unfoldable pub sampled_slot : Controller → ℕ → Controller
sampled_slot c v =
    judged_slot c (verdict c.core v) (reply_verdict (role_in c.core) c.core v) (heard c.core (verdict c.core v) v) v

-- ---- the diagnosis: the slot began with controller c

-- "a dominant - recessive transition" of the model's own frame: k is the state that the slot leaves
unfoldable pub turns : Core → Core → Bool
turns before k = both (own_frame (role_in before)) (both (eqb (drives before) 0) (eqb (drives k) 1))

-- turning: the model's own frame turns from dominant to recessive; ended: a good frame ends
unfoldable pub diagnosis_after : Controller → ℕ → Bool → Bool → Diagnosis
diagnosis_after c levels turning ended = diagnosed (get_or c.memory diagnosis_control 0) (levels_of c levels) turning ended c.core.diagnosis

unfoldable pub diagnosed_slot : Controller → ℕ → Controller → Bool → Bool → Controller
diagnosed_slot c levels after turning ended =
    record { memory = after.memory; core = with_diagnosis after.core (diagnosis_after c levels turning ended) }

unfoldable pub ended : Controller → ℕ → Bool
ended c v = ends_well (heard c.core (verdict c.core v) v)

-- ---- an active slot, and one with no sample: idle the diagnosis works too (000: "continuously"), "asleep nothing counts (house)" (02)

unfoldable pub active_slot : Controller → ℕ → Controller
active_slot c levels =
    diagnosed_slot c levels (sampled_slot c (sample_of c levels)) (turns c.core (sampled_slot c (sample_of c levels)).core) (ended c (sample_of c levels))

unfoldable pub resting_slot : Controller → ℕ → Controller
resting_slot c levels = pick (is_asleep c.core.activity.mode) c (diagnosed_slot c levels c false false)
