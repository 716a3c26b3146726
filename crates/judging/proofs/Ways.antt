-- The ordinary slot touches neither map nor registers; the sample is judged by who sends.
use Prim.Native.Nat.{ℕ, ◌<◌}
use mathlib.Core.Bool.{true, false≢true}
use mathlib.Core.List.{List}
use mathlib.Core.Path.{◌≡◌, refl}
use Rattle.line.proofs.Laws.{pick_same}
use Rattle.rules.specs.Definitions.Setters.{with_effort, with_service}
use Rattle.rules.specs.Definitions.Attempt.{advance, at_stage, between_attempts, is_between}
use Rattle.rules.specs.Definitions.Delivery.{delivery_of, delivery_to, memory_delivered, report_heard, report_delivered}
use Rattle.rules.specs.Definitions.Service.{stopped, ending_of, settled, memory_ended, report_judged, report_ended, fulfils, replied, reply_moved, memory_replied, report_replied, hear_own, receives}
use Rattle.rules.specs.Definitions.Slots.{role_in, verdict_as, verdict, reply_verdict, reply_after, heard_as, heard, delivers, service_judged, ending, memory_judged, report_after}
use Rattle.rules.specs.declared.Role.{Role}
use Rattle.rules.specs.declared.Role.TheVariants.{Nobody, Receiver, Sender, Asker, Replier}
use Rattle.rules.specs.declared.Hearing.{Hearing}
use Rattle.rules.specs.declared.Hearing.TheVariants.{Silent, Follows, Fault, Good}
use Rattle.rules.specs.declared.Delivery.TheVariants.{Nothing}
use Rattle.rules.specs.declared.Verdict.{Verdict}
use Rattle.rules.specs.declared.Verdict.TheVariants.{Unjudged, Goes, Lost, Failed, Done, Answered}
use Rattle.rules.specs.declared.Ending.{Ending}
use Rattle.rules.specs.declared.Ending.TheVariants.{Going, Sent, Exhausted, Aborted, Rearbitrated, Fulfilled}
use Rattle.rules.specs.declared.Reception.{Reception}
use Rattle.rules.specs.declared.Effort.{Effort}
use Rattle.rules.specs.declared.ImmediateReply.{ImmediateReply}
use Rattle.rules.specs.declared.Report.{Report}
use Rattle.rules.specs.declared.Service.{Service}
use Rattle.rules.specs.declared.Core.{Core}
use Rattle.attempt.specs.Following.{following}
use Rattle.attempt.proofs.Room.{next_is}
use Rattle.judging.specs.Judged as judged
use Rattle.judging.specs.Judged.{hears, tried, effected}
use Rattle.judging.specs.Ordinary.{passes, goes, stays, Marks}

going : (x : Ending) → goes x ≡ true → x ≡ Going
going Going e = refl
going Sent e = absurd (false≢true (unfold goes in e))
going Exhausted e = absurd (false≢true (unfold goes in e))
going Aborted e = absurd (false≢true (unfold goes in e))
going Rearbitrated e = absurd (false≢true (unfold goes in e))
going Fulfilled e = absurd (false≢true (unfold goes in e))

undelivered : (h : Hearing) (r : Reception) → passes h ≡ true → delivery_of h r ≡ Nothing
unfolding delivery_of delivery_to passes
undelivered Silent r e = pick_same r.winner.matched Nothing
undelivered Follows r e = pick_same r.winner.matched Nothing
undelivered (Fault code) r e = absurd (false≢true e)
undelivered Good r e = absurd (false≢true e)

nothing : (x : Role) (h : Hearing) (r : Reception) → passes h ≡ true → delivers x h r ≡ Nothing
unfolding delivers
nothing Nobody h r e = refl
nothing Receiver h r e = undelivered h r e
nothing Sender h r e = refl
nothing Asker h r e = undelivered h r e
nothing Replier h r e = refl

unheard : (h : Hearing) (a : Report) → passes h ≡ true → report_heard h a ≡ a
unfolding report_heard passes
unheard Silent a e = refl
unheard Follows a e = refl
unheard (Fault code) a e = absurd (false≢true e)
unheard Good a e = absurd (false≢true e)

-- a reply whose slot is no end for the line
replied_map_lem : (q : Verdict) (m : List ℕ) (c : ℕ) → passes (hear_own q) ≡ true → memory_replied q m c ≡ m
unfolding memory_replied hear_own passes
replied_map_lem Unjudged m c e = refl
replied_map_lem Goes m c e = refl
replied_map_lem Lost m c e = refl
replied_map_lem (Failed code) m c e = absurd (false≢true e)
replied_map_lem Done m c e = absurd (false≢true e)
replied_map_lem Answered m c e = refl

replied_report : (q : Verdict) (a : Report) (c : ℕ) → passes (hear_own q) ≡ true → report_replied q a c ≡ a
unfolding report_replied hear_own passes
replied_report Unjudged a c e = refl
replied_report Goes a c e = refl
replied_report Lost a c e = refl
replied_report (Failed code) a c e = absurd (false≢true e)
replied_report Done a c e = absurd (false≢true e)
replied_report Answered a c e = refl

reply_marks : (x : Role) (k : Core) (w : Verdict) (v : ℕ) → Marks (reply_verdict x k v) (heard_as x k w v)
unfolding Marks reply_verdict heard_as hear_own passes
reply_marks Nobody k w v e = refl
reply_marks Receiver k w v e = refl
reply_marks Sender k w v e = refl
reply_marks Asker k w v e = refl
reply_marks Replier k w v e = e

pub reply_marked : (k : Core) (v : ℕ) → Marks (reply_verdict (role_in k) k v) (heard k (verdict k v) v)
unfolding heard
reply_marked k v = reply_marks (role_in k) k (verdict k v) v

stays_on : (w : Verdict) (s : Service) → stays w s ≡ true → ending_of w (service_judged w s) ≡ Going
unfolding stays ending_of stopped service_judged advance at_stage between_attempts is_between
stays_on Unjudged s e = going (stopped s) e
stays_on Goes s e = refl
stays_on Lost s e = absurd (false≢true e)
stays_on (Failed code) s e = absurd (false≢true e)
stays_on Done s e = absurd (false≢true e)
stays_on Answered s e = refl

uncounted : (w : Verdict) (a : Report) (s b : Service) → stays w s ≡ true → report_judged w a b ≡ a
unfolding report_judged stays
uncounted Unjudged a s b u = refl
uncounted Goes a s b u = refl
uncounted Lost a s b u = absurd (false≢true u)
uncounted (Failed code) a s b u = absurd (false≢true u)
uncounted Done a s b u = absurd (false≢true u)
uncounted Answered a s b u = refl

module _ (k : Core) (w q : Verdict) (h : Hearing) (reply : Marks q h) (pass : passes h ≡ true) (stay : stays w k.service ≡ true) where
  unreplied : passes (hear_own q) ≡ true
  unfolding Marks
  unreplied = reply pass

  on : ending k w h ≡ Going
  unfolding ending fulfils
  on = rw (nothing (role_in k) h k.reception pass) (stays_on w k.service stay)

  pub memory_kept : (m : List ℕ) → m ≡ memory_judged m k w q h
  unfolding memory_judged memory_ended memory_delivered
  memory_kept m = rw (on, nothing (role_in k) h k.reception pass, replied_map_lem q m k.reply.channel unreplied)

  pub report_kept : k.report ≡ report_after k w q h
  unfolding report_after report_ended report_delivered
  report_kept =
      rw (on, nothing (role_in k) h k.reception pass, unheard h k.report pass, uncounted w k.report k.service (service_judged w k.service) stay, replied_report q k.report k.reply.channel unreplied)

  pub service_kept : service_judged w k.service ≡ settled (ending k w h) (service_judged w k.service)
  unfolding settled
  service_kept = rw on

  pub effect_kept : (e : Effort) → e ≡ advance w k.service.effort → with_service k (with_effort k.service e) ≡ effected k w q h
  unfolding effected settled service_judged
  effect_kept e d = rw (on, ← report_kept) (λ i. with_service k (with_effort k.service (d i)))

-- ---- what a sample is, from the parts of the state

module _ (k : Core) (v : ℕ) where
  pub tried_is : (x : Role) → tried x k.service.effort (hears x k.reception k.line v) k.reception v ≡ verdict_as x k v
  unfolding tried hears receives verdict_as
  tried_is Nobody = refl
  tried_is Receiver = refl
  tried_is Sender = refl
  tried_is Asker = refl
  tried_is Replier = refl

  pub reply_is : (x : Role) → judged.reply_verdict x k.reply v ≡ reply_verdict x k v
  unfolding judged.reply_verdict reply_verdict
  reply_is Nobody = refl
  reply_is Receiver = refl
  reply_is Sender = refl
  reply_is Asker = refl
  reply_is Replier = refl

  pub heard_is : (x : Role) (w : Verdict) → judged.heard x (hears x k.reception k.line v) w (judged.reply_verdict x k.reply v) ≡ heard_as x k w v
  unfolding judged.heard hears receives judged.reply_verdict heard_as
  heard_is Nobody w = refl
  heard_is Receiver w = refl
  heard_is Sender w = refl
  heard_is Asker w = refl
  heard_is Replier w = refl

pub reply_after_is : (x : Role) (m : List ℕ) (k : Core) (q : Verdict) (r : Reception) → judged.reply_after x m k.reply q r ≡ reply_after x m k q r
unfolding judged.reply_after reply_after
reply_after_is Nobody m k q r = refl
reply_after_is Receiver m k q r = refl
reply_after_is Sender m k q r = refl
reply_after_is Asker m k q r = refl
reply_after_is Replier m k q r = refl

-- where the next slot of the reply has its number
pub moved_is : (q : Verdict) (y : ImmediateReply) → following q y.at < 65536 → judged.reply_advanced q y ≡ replied q y
unfolding judged.reply_advanced replied reply_moved following
moved_is Unjudged y h = refl
moved_is Goes y h = rw (next_is y.at h)
moved_is Lost y h = refl
moved_is (Failed code) y h = refl
moved_is Done y h = refl
moved_is Answered y h = refl
