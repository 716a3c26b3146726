-- The claim on own frames, over every list of events.
--   slot_cases, slot_sampled == the controller after a slot
--   own, own_reply == the claim for a slot        own_every == the claim for every list of events
use Prim.Native.Nat.{ℕ, zero, suc, ◌+◌, ◌*◌, ◌/◌, ◌%◌, ◌≤◌, ◌<◌}
use mathlib.Core.Bool.{Bool, true, false, false≢true, not}
use mathlib.Core.List.{List, [], ◌∷◌}
use mathlib.Core.Path.{◌≡◌, refl, ap, ◌∙◌, sym, subst}
use native.Mathlib.Omega.{arith}
use lib.ListN.{length, get_or, set, take}
use lib.Seq.{get_or-set_other}
use Rattle.line.specs.Bits.{pick}
use Rattle.line.specs.Frame.{byte_bits}
use Rattle.line.proofs.Laws.{picked, code_length}
use Rattle.line.proofs.Levels.{recessive}
use Rattle.rules.specs.Definitions.Setters.{with_report, with_service, with_diagnosis}
use Rattle.rules.specs.Definitions.Longest.{capacity}
use Rattle.rules.specs.Definitions.Registers.{both, transmit_control, autonomous}
use Rattle.rules.specs.Definitions.Channels.{base, with_cher, with_chtx, with_chrx}
use Rattle.rules.specs.Definitions.Mailbox.{marked_cher, marked_chtx, marked_chrx}
use Rattle.rules.specs.Definitions.Reception.{quiet, at_place, under_way, is_under_way, is_body, in_body, behind, command_ended, winner_taken}
use Rattle.rules.specs.Definitions.Hearing.{reception_after}
use Rattle.rules.specs.Definitions.Delivery.{delivery_of, memory_delivered}
use Rattle.rules.specs.Definitions.Attempt.{at_stage, in_service, is_serving, between_attempts, is_between, waits, is_waiting, drives_frame, sent_slots, level_at, advance}
use Rattle.rules.specs.Definitions.Service.{stopped, ending_of, settled, memory_ended, report_ended, started, fulfils, judge_reply, reply_moved, replied, memory_replied, hear_own}
use Rattle.rules.specs.Definitions.State.{is_active, serving, reset_core, idled, idle_due, slept}
use Rattle.rules.specs.Definitions.Slots.{role_in, reply_verdict, heard_as, heard, delivers, verdict_as, verdict, service_judged, ending, reception_judged, memory_judged, reply_after, core_judged, chooses, choice_made, start_made, follows_on, drives_as, drives, sample_of, judged_slot, sampled_slot, active_slot}
use Rattle.rules.specs.Definitions.Host.{reset_all, resets, sleeps, core_written, service_asked, stopped_core, diagnosis_written, byte_written, host_written, kept_byte}
use Rattle.rules.specs.Definitions.Run.{fresh, next, after}
use Rattle.every_run.specs.Tally.{none}
use Rattle.every_run.proofs.Sending.Follow.{idle_service, follows_reception, follows_reply, stopped_service}
use Rattle.every_run.specs.Observer.{accepted}
use Rattle.every_run.proofs.Steps as steps
use Rattle.every_run.proofs.Steps.{Step, step_of, with_diagnosis_c, refused_next, refused_not, accepted_next, went_next, rested_next}
use Rattle.rules.proofs.Logic.{clash}
use Rattle.every_run.proofs.Roles as role
use Rattle.every_run.proofs.Roles.{RoleIs, role_is, role_sender, heard_sender}
use Rattle.every_run.proofs.OwnFrames.Steady.{Steady, effort_asked, written_reply, steady_next, steady_fresh, steady_after, steady_role}
use Rattle.every_run.specs.OwnFrames.{sends, replies, status_at, reply_at, Ended, whole, error, Own, OwnReply, Left, on, gone, LeftReply, kept, dropped, Between, OwnIn, OwnOver, OwnFrames}
use Rattle.rules.specs.declared.Coded.{Coded}
use Rattle.rules.specs.declared.Stage.TheVariants.{Sending}
use Rattle.rules.specs.declared.Reception.{Reception}
use Rattle.rules.specs.declared.Hearing.{Hearing}
use Rattle.rules.specs.declared.Delivery.TheVariants.{Nothing}
use Rattle.rules.specs.declared.Effort.{Effort}
use Rattle.rules.specs.declared.Service.{Service}
use Rattle.rules.specs.declared.ImmediateReply.{ImmediateReply}
use Rattle.rules.specs.declared.Verdict.{Verdict}
use Rattle.rules.specs.declared.Verdict.TheVariants.{Unjudged, Goes, Lost, Failed, Done, Answered}
use Rattle.rules.specs.declared.Ending.{Ending}
use Rattle.rules.specs.declared.Ending.TheVariants.{Going, Sent, Exhausted, Aborted, Rearbitrated, Fulfilled}
use Rattle.rules.specs.declared.Role.{Role}
use Rattle.rules.specs.declared.Role.TheVariants.{Nobody, Receiver, Sender, Asker, Replier}
use Rattle.rules.specs.declared.Activity.{Activity}
use Rattle.rules.specs.declared.Core.{Core}
use Rattle.rules.specs.declared.Controller.{Controller}
use Rattle.rules.specs.declared.Event.{Event}
use Rattle.rules.specs.declared.Event.TheVariants.{Reset, Write, Read, Slot}

-- ---- it delivers nothing; the end of the service marks one byte, the end of the reply another

pub own_delivers : (k : Core) → drives_frame k.service.effort.progress ≡ true → (h : Hearing) → delivers (role_in k) h k.reception ≡ Nothing
unfolding delivers
own_delivers k d h = rw (role_sender k.service.effort.progress k.reply.going k.reception.place d)

pub reply_delivers : (k : Core) → role_in k ≡ Replier → (h : Hearing) → delivers (role_in k) h k.reception ≡ Nothing
reply_delivers k r h = ap (λ (x : Role). delivers x h k.reception) r ∙ (unfold delivers in refl)

unmatched_delivers : (x : Role) (h : Hearing) (r : Reception) → r.winner.matched ≡ false → delivers x h r ≡ Nothing
unfolding delivers delivery_of
unmatched_delivers Nobody h r e = refl
unmatched_delivers Receiver h r e = rw e
unmatched_delivers Sender h r e = refl
unmatched_delivers Asker h r e = rw e
unmatched_delivers Replier h r e = refl

nothing_judged : (m : List ℕ) (k : Core) (w q : Verdict) (h : Hearing) → delivers (role_in k) h k.reception ≡ Nothing
    → memory_judged m k w q h ≡ memory_replied q (memory_ended (ending k w h) m k.service.channel) k.reply.channel
unfolding memory_judged memory_delivered
nothing_judged m k w q h e = rw e

pub ended_elsewhere : (x : Ending) (m : List ℕ) (ch a : ℕ) → (a ≡ base ch + 3 → ⊥) → get_or (memory_ended x m ch) a 0 ≡ get_or m a 0
unfolding memory_ended marked_cher marked_chtx
ended_elsewhere Going m ch a h = refl
ended_elsewhere Sent m ch a h = get_or-set_other m (base ch + 3) a _ 0 h
ended_elsewhere Exhausted m ch a h = get_or-set_other (marked_cher m ch) (base ch + 3) a _ 0 h ∙ get_or-set_other m (base ch + 3) a _ 0 h
ended_elsewhere Aborted m ch a h = get_or-set_other m (base ch + 3) a _ 0 h
ended_elsewhere Rearbitrated m ch a h = refl
ended_elsewhere Fulfilled m ch a h = refl

pub replied_elsewhere : (q : Verdict) (m : List ℕ) (ch a : ℕ) → (a ≡ base ch + 3 → ⊥) → get_or (memory_replied q m ch) a 0 ≡ get_or m a 0
unfolding memory_replied marked_cher marked_chtx marked_chrx
replied_elsewhere Unjudged m ch a h = refl
replied_elsewhere Goes m ch a h = refl
replied_elsewhere Lost m ch a h = refl
replied_elsewhere (Failed code) m ch a h = get_or-set_other m (base ch + 3) a _ 0 h
replied_elsewhere Done m ch a h = get_or-set_other (marked_chtx m ch) (base ch + 3) a _ 0 h ∙ get_or-set_other m (base ch + 3) a _ 0 h
replied_elsewhere Answered m ch a h = refl

-- a byte rewritten in place keeps what its new value keeps
set_keeps : (f : ℕ → ℕ) (g : ℕ → ℕ) → ((s : ℕ) → f (g s) ≡ f s) → (m : List ℕ) (i : ℕ) → f (get_or (set m i (g (get_or m i 0))) i 0) ≡ f (get_or m i 0)
set_keeps f g h [] i = refl
set_keeps f g h (x ∷ xs) zero = h x
set_keeps f g h (x ∷ xs) (suc i) = set_keeps f g h xs i

pub ended_keeps : (f : ℕ → ℕ) → ((s : ℕ) → f (with_cher s) ≡ f s) → ((s : ℕ) → f (with_chtx s) ≡ f s) → (x : Ending) (m : List ℕ) (ch : ℕ)
    → f (get_or (memory_ended x m ch) (base ch + 3) 0) ≡ f (get_or m (base ch + 3) 0)
unfolding memory_ended marked_cher marked_chtx
ended_keeps f p q Going m ch = refl
ended_keeps f p q Sent m ch = set_keeps f with_chtx q m (base ch + 3)
ended_keeps f p q Exhausted m ch = set_keeps f with_chtx q (marked_cher m ch) (base ch + 3) ∙ set_keeps f with_cher p m (base ch + 3)
ended_keeps f p q Aborted m ch = set_keeps f with_chtx q m (base ch + 3)
ended_keeps f p q Rearbitrated m ch = refl
ended_keeps f p q Fulfilled m ch = refl

pub cher_length : (s : ℕ) → with_cher s / 8 ≡ s / 8
unfolding with_cher
cher_length s = omega arith

pub chtx_length : (s : ℕ) → with_chtx s / 8 ≡ s / 8
unfolding with_chtx
chtx_length s = omega arith

pub cher_chrx : (s : ℕ) → with_cher s % 2 ≡ s % 2
unfolding with_cher
cher_chrx s = omega arith

pub chtx_chrx : (s : ℕ) → with_chtx s % 2 ≡ s % 2
unfolding with_chtx
chtx_chrx s = omega arith

chrx_length : (s : ℕ) → with_chrx s / 8 ≡ s / 8
unfolding with_chrx
chrx_length s = omega arith

replied_length : (q : Verdict) (m : List ℕ) (ch : ℕ) → get_or (memory_replied q m ch) (base ch + 3) 0 / 8 ≡ get_or m (base ch + 3) 0 / 8
unfolding memory_replied marked_cher marked_chtx marked_chrx
replied_length Unjudged m ch = refl
replied_length Goes m ch = refl
replied_length Lost m ch = refl
replied_length (Failed code) m ch = set_keeps (λ s. s / 8) with_cher cher_length m (base ch + 3)
replied_length Done m ch = set_keeps (λ s. s / 8) with_chrx chrx_length (marked_chtx m ch) (base ch + 3) ∙ set_keeps (λ s. s / 8) with_chtx chtx_length m (base ch + 3)
replied_length Answered m ch = refl

base_small : (ch : ℕ) → base ch + 3 < 0x80
unfolding base
base_small ch = omega arith

-- ---- the slot

-- a slot leaves the memory map as it is, or it is sampled
pub slot_cases : (c : Controller) (l : ℕ) (P : List ℕ → Type 0) → P c.memory → P (sampled_slot c (sample_of c l)).memory → P (next c (Slot l)).memory
slot_cases c l P same sampled = go (step_of c (Slot l))
  where
    Q : Controller → Type 0
    Q x = P x.memory

    go : Step c (Slot l) → P (next c (Slot l)).memory
    go (steps.refusal n h) = subst Q (sym (refused_next c none (Slot l) n h)) same
    go (steps.went a h) =
        subst Q (sym (went_next c none l h)) sampled
    go (steps.rested a h) =
        subst Q (sym (rested_next c none l h)) same

-- an accepted slot of an active controller is sampled
pub slot_sampled : (c : Controller) (l : ℕ) → accepted c (Slot l) ≡ true → is_active c.core.activity.mode ≡ true → next c (Slot l) ≡ with_diagnosis_c (sampled_slot c (sample_of c l)) (active_slot c l).core.diagnosis
slot_sampled c l i j = go (step_of c (Slot l))
  where
    go : Step c (Slot l) → next c (Slot l) ≡ with_diagnosis_c (sampled_slot c (sample_of c l)) (active_slot c l).core.diagnosis
    go (steps.refusal n h) = absurd (false≢true (sym (refused_not c none (Slot l) n h) ∙ i))
    go (steps.went a h) = went_next c none l h
    go (steps.rested a h) = absurd (false≢true (sym a ∙ j))

-- ---- what a sample is for the reply, and for the attempt beside it

sender_reply : (k : Core) (v : ℕ) → drives_frame k.service.effort.progress ≡ true → reply_verdict (role_in k) k v ≡ Unjudged
unfolding reply_verdict
sender_reply k v d = rw (role_sender k.service.effort.progress k.reply.going k.reception.place d)

reply_unjudged : (k : Core) (v : ℕ) → k.reply.going ≡ false → reply_verdict (role_in k) k v ≡ Unjudged
reply_unjudged k v e = go (role_is k.service.effort.progress k.reply.going k.reception.place)
  where
    go : {x : Role} → RoleIs k.service.effort.progress k.reply.going k.reception.place x → reply_verdict x k v ≡ Unjudged
    go (role.sends d) = unfold reply_verdict in refl
    go (role.asks d a) = unfold reply_verdict in refl
    go (role.replying d a y) = clash e y
    go (role.receives d a y u) = unfold reply_verdict in refl
    go (role.rests d a y u) = unfold reply_verdict in refl

module _ (k : Core) (v : ℕ) (r : role_in k ≡ Replier) where
  replier_reply : reply_verdict (role_in k) k v ≡ judge_reply k.reply v
  replier_reply = ap (λ (x : Role). reply_verdict x k v) r ∙ (unfold reply_verdict in refl)

  replier_attempt : verdict k v ≡ Unjudged
  unfolding verdict
  replier_attempt = ap (λ (x : Role). verdict_as x k v) r ∙ (unfold verdict_as in refl)

  replier_hears : (w : Verdict) → heard k w v ≡ hear_own (judge_reply k.reply v)
  unfolding heard
  replier_hears w = ap (λ (x : Role). heard_as x k w v) r ∙ (unfold heard_as in refl)

reply_ending : (k : Core) (h : Hearing) → role_in k ≡ Replier → stopped k.service ≡ Going → ending k Unjudged h ≡ Going
unfolding ending ending_of service_judged advance
reply_ending k h r s = rw (reply_delivers k r h) (unfold fulfils in s)

module _ (c : Controller) (v : ℕ) where
  abbrev w : Verdict
  w = verdict c.core v

  abbrev h : Hearing
  h = heard c.core w v

  abbrev q : Verdict
  q = reply_verdict (role_in c.core) c.core v

  -- the map after a sample that delivers nothing
  map_after : delivers (role_in c.core) h c.core.reception ≡ Nothing
      → (sampled_slot c v).memory ≡ memory_replied q (memory_ended (ending c.core w h) c.memory c.core.service.channel) c.core.reply.channel
  unfolding sampled_slot judged_slot
  map_after e = nothing_judged c.memory c.core w q h e

  unreplied : (m : List ℕ) (ch : ℕ) → q ≡ Unjudged → memory_replied q m ch ≡ m
  unreplied m ch e = ap (λ (x : Verdict). memory_replied x m ch) e ∙ (unfold memory_replied in refl)

  own_map : sends c ≡ true → (sampled_slot c v).memory ≡ memory_ended (ending c.core w h) c.memory c.core.service.channel
  own_map d = map_after (own_delivers c.core d h) ∙ unreplied _ c.core.reply.channel (sender_reply c.core v d)

  unmatched_map : replies c ≡ false → c.core.reception.winner.matched ≡ false
      → (sampled_slot c v).memory ≡ memory_ended (ending c.core w h) c.memory c.core.service.channel
  unmatched_map y e =
      map_after (unmatched_delivers (role_in c.core) h c.core.reception e) ∙ unreplied _ c.core.reply.channel (reply_unjudged c.core v y)

  module _ (s : Steady c.core) (r : role_in c.core ≡ Replier) where
    replier_going : ending c.core w h ≡ Going
    replier_going = ap (λ (x : Verdict). ending c.core x h) (replier_attempt c.core v r) ∙ reply_ending c.core h r s.still

    reply_map : (sampled_slot c v).memory ≡ memory_replied q c.memory c.core.reply.channel
    reply_map =
        map_after (reply_delivers c.core r h)
        ∙ ap (λ (x : Ending). memory_replied q (memory_ended x c.memory c.core.service.channel) c.core.reply.channel) replier_going ∙ (unfold memory_ended in refl)

-- ---- no frame is left where it ended

quiet_kept : (m : List ℕ) → pick (command_ended quiet) (winner_taken quiet m) quiet ≡ quiet
unfolding command_ended behind in_body is_body quiet at_place
quiet_kept m = refl

ended_quiet : {w : Verdict} → Ended w → (m : List ℕ) (r : Reception) (v : ℕ) → reception_judged m (hear_own w) r v ≡ quiet
unfolding reception_judged reception_after hear_own
ended_quiet whole m r v = quiet_kept m
ended_quiet (error code) m r v = quiet_kept m

none_left : under_way quiet.place ≡ false
unfolding quiet at_place under_way is_under_way
none_left = refl

idle_quiet : (k : Core) → k.reception ≡ quiet → under_way (idle_due k).reception.place ≡ false
unfolding idle_due idled under_way
idle_quiet k e = go k.activity.waiting (serving k.service)
  where
    go : (a b : Bool) → is_under_way (pick a (pick b k (idled k)) k).reception.place.phase ≡ false
    go true true = rw e none_left
    go true false = unfold idled in none_left
    go false b = rw e none_left

judged_quiet : (k : Core) (w q : Verdict) (v : ℕ) (m : List ℕ) (x : Verdict) → heard k w v ≡ hear_own x → Ended x → (core_judged m k w q (heard k w v) v).reception ≡ quiet
unfolding core_judged
judged_quiet k w q v m x e d = ap (λ (h : Hearing). reception_judged m h k.reception v) e ∙ ended_quiet d m k.reception v

own_over : (c : Controller) (v : ℕ) (x : Verdict) → heard c.core (verdict c.core v) v ≡ hear_own x → Ended x → under_way (sampled_slot c v).core.reception.place ≡ false
unfolding sampled_slot judged_slot
own_over c v x e d =
    let w : Verdict = verdict c.core v in
    let q : Verdict = reply_verdict (role_in c.core) c.core v in
    let h : Hearing = heard c.core w v in
    let m : List ℕ = memory_judged c.memory c.core w q h in
    let k : Core = core_judged m c.core w q h v in
    ap (λ (r : Reception). under_way r.place) (follows_reception m k) ∙ idle_quiet k (judged_quiet c.core w q v m x e d)

-- ---- and till then the attempt goes on

going_stage : (s : Service) → settled (ending_of Goes (service_judged Goes s)) (service_judged Goes s) ≡ service_judged Goes s
unfolding settled ending_of service_judged advance at_stage stopped between_attempts is_between
going_stage s = refl

sender_ending : (k : Core) (w : Verdict) (h : Hearing) → drives_frame k.service.effort.progress ≡ true → ending k w h ≡ ending_of w (service_judged w k.service)
unfolding ending
sender_ending k w h d = rw (own_delivers k d h) (unfold fulfils in refl)

-- choice and start leave a service with an attempt under way
module _ (m : List ℕ) (k : Core) (e : k.service.effort.progress.stage ≡ Sending) where
  busy : chooses k ≡ false
  unfolding chooses serving in_service is_serving
  busy = rw e (go (is_active k.activity.mode))
    where
      go : (a : Bool) → both a (both (not true) (not (under_way k.reception.place))) ≡ false
      go true = refl
      go false = refl

  not_chosen : choice_made m k ≡ k
  unfolding choice_made
  not_chosen = rw busy

  not_started : started k.service (autonomous (get_or m transmit_control 0)) k.line k.reception ≡ k.service
  unfolding started waits is_waiting
  not_started = rw e

  started_on : (start_made m k).service ≡ k.service
  unfolding start_made
  started_on = not_started

sending_stays : (m : List ℕ) (k : Core) → k.service.effort.progress.stage ≡ Sending → (follows_on m k).service ≡ k.service
unfolding follows_on
sending_stays m k e =
    let i : (idle_due k).service.effort.progress.stage ≡ Sending = ap (λ (s : Service). s.effort.progress.stage) (idle_service k) ∙ e in
    ap (λ (x : Core). (start_made m x).service) (not_chosen m (idle_due k) i) ∙ started_on m (idle_due k) i ∙ idle_service k

judged_on : (m : List ℕ) (k : Core) (q : Verdict) (h : Hearing) (v : ℕ) → drives_frame k.service.effort.progress ≡ true → (core_judged m k Goes q h v).service.effort.progress.stage ≡ Sending
unfolding core_judged
judged_on m k q h v d =
    ap (λ (x : Ending). (settled x (service_judged Goes k.service)).effort.progress.stage) (sender_ending k Goes h d)
    ∙ ap (λ (s : Service). s.effort.progress.stage) (going_stage k.service) ∙ (unfold service_judged advance at_stage in refl)

sampled_on : (c : Controller) (v : ℕ) → sends c ≡ true → verdict c.core v ≡ Goes → (sampled_slot c v).core.service.effort.progress.stage ≡ Sending
unfolding sampled_slot judged_slot
sampled_on c v d e =
    let w : Verdict = verdict c.core v in
    let q : Verdict = reply_verdict (role_in c.core) c.core v in
    let h : Hearing = heard c.core w v in
    let m : List ℕ = memory_judged c.memory c.core w q h in
    let j : (core_judged m c.core w q h v).service.effort.progress.stage ≡ Sending =
    ap (λ (x : Verdict). (core_judged m c.core x q h v).service.effort.progress.stage) e ∙ judged_on m c.core q h v d in
    ap (λ (s : Service). s.effort.progress.stage) (sending_stays m (core_judged m c.core w q h v) j) ∙ j

-- so does the reply

idle_stays : (k : Core) → (k.activity.waiting ≡ true → serving k.service ≡ true) → idle_due k ≡ k
unfolding idle_due
idle_stays k i = go k.activity.waiting refl (serving k.service) refl
  where
    go : (a : Bool) → k.activity.waiting ≡ a → (b : Bool) → serving k.service ≡ b → pick a (pick b k (idled k)) k ≡ k
    go true e true d = refl
    go true e false d = clash d (i e)
    go false e b d = refl

replier_on : (m : List ℕ) (k : Core) (q : Verdict) (r : Reception) → role_in k ≡ Replier → q ≡ Goes → (reply_after (role_in k) m k q r).going ≡ k.reply.going
replier_on m k q r i e =
    ap (λ (x : Verdict). (reply_after (role_in k) m k x r).going) e ∙ ap (λ (x : Role). (reply_after x m k Goes r).going) i ∙ (unfold reply_after replied reply_moved in refl)

replier_service : (k : Core) (w : Verdict) (h : Hearing) → w ≡ Unjudged → ending k w h ≡ Going → settled (ending k w h) (service_judged w k.service) ≡ k.service
replier_service k w h u e =
    ap (λ (x : Ending). settled x (service_judged w k.service)) e ∙ ap (λ (x : Verdict). settled Going (service_judged x k.service)) u ∙ (unfold settled service_judged advance in refl)

-- what a judged sample leaves of the state, part by part
module _ (m : List ℕ) (k : Core) (w q : Verdict) (h : Hearing) (v : ℕ) where
  judged_activity : (core_judged m k w q h v).activity ≡ k.activity
  unfolding core_judged
  judged_activity = refl

  judged_service : (core_judged m k w q h v).service ≡ settled (ending k w h) (service_judged w k.service)
  unfolding core_judged
  judged_service = refl

  judged_reply : (core_judged m k w q h v).reply ≡ reply_after (role_in k) m k q (reception_judged m h k.reception v)
  unfolding core_judged
  judged_reply = refl

reply_on : (c : Controller) (v : ℕ) → Steady c.core → role_in c.core ≡ Replier → reply_verdict (role_in c.core) c.core v ≡ Goes → (sampled_slot c v).core.reply.going ≡ c.core.reply.going
unfolding sampled_slot judged_slot
reply_on c v s r e =
    let w : Verdict = verdict c.core v in
    let q : Verdict = reply_verdict (role_in c.core) c.core v in
    let h : Hearing = heard c.core w v in
    let m : List ℕ = memory_judged c.memory c.core w q h in
    let k : Core = core_judged m c.core w q h v in
    let j : k.service ≡ c.core.service = judged_service m c.core w q h v ∙ replier_service c.core w h (replier_attempt c.core v r) (replier_going c v s r) in
    let n : k.activity ≡ c.core.activity = judged_activity m c.core w q h v in
    let i : idle_due k ≡ k = idle_stays k (λ a. ap serving j ∙ s.idles (ap (λ (x : Activity). x.waiting) (sym n) ∙ a)) in
    ap (λ (y : ImmediateReply). y.going) (follows_reply m k) ∙ ap (λ (x : Core). x.reply.going) i
    ∙ ap (λ (y : ImmediateReply). y.going) (judged_reply m c.core w q h v) ∙ replier_on m c.core q (reception_judged m h c.core.reception v) r e

-- a host write

stays : (s : Service) → s.effort.progress.stage ≡ Sending → (settled (stopped s) s).effort.progress.stage ≡ Sending
unfolding stopped between_attempts is_between settled
stays s e = rw e

byte_on : (c : Controller) (a v : ℕ) → c.core.service.effort.progress.stage ≡ Sending → (byte_written c a v).core.service.effort.progress.stage ≡ Sending
unfolding byte_written
byte_on c a v e =
    ap (λ (s : Service). s.effort.progress.stage) (stopped_service (core_written c.core a v) (service_asked c.core.service a v))
    ∙ stays (service_asked c.core.service a v) (ap (λ (x : Effort). x.progress.stage) (effort_asked c.core.service a v) ∙ e)

reset_left : (c : Controller) → Left (reset_all c)
unfolding reset_all reset_core
reset_left c = gone none_left

written_left : (c : Controller) (a v : ℕ) → c.core.service.effort.progress.stage ≡ Sending → Left (host_written c a v)
unfolding host_written slept
written_left c a v e =
    picked Left (resets a v) (reset_all c) _ (λ d. reset_left c) (λ d. picked Left (sleeps a v) _ (byte_written c a v) (λ h. gone none_left) (λ h. on (byte_on c a v e)))

-- idle due cuts a reply off, and the frame with it
module _ (c : Controller) (a v : ℕ) where
  abbrev t : Service
  t = service_asked c.core.service a v

  abbrev j : Core
  j = with_service (with_report (core_written c.core a v) (report_ended (stopped t) (core_written c.core a v).report t)) (settled (stopped t) t)

  byte_left : LeftReply c (byte_written c a v)
  unfolding byte_written stopped_core idle_due
  byte_left = go j.activity.waiting (serving j.service)
    where
      go : (x y : Bool) → LeftReply c (record { memory = memory_ended (stopped t) (kept_byte c.memory a v) c.core.service.channel; core = with_diagnosis (pick x (pick y j (idled j)) j) (diagnosis_written c.memory c.core.diagnosis a v) })
      go true true = kept (written_reply c.core a v)
      go true false = dropped (unfold idled in none_left)
      go false y = kept (written_reply c.core a v)

written_reply_left : (c : Controller) (a v : ℕ) → LeftReply c (host_written c a v)
unfolding host_written slept
written_reply_left c a v =
    picked (LeftReply c) (resets a v) (reset_all c) _ (λ d. dropped (unfold reset_all reset_core in none_left))
    (λ d. picked (LeftReply c) (sleeps a v) _ (byte_written c a v) (λ h. dropped none_left) (λ h. byte_left c a v))

between_reset : (c : Controller) → Between c Reset
between_reset c = go (step_of c Reset)
  where
    go : Step c Reset → Between c Reset
    go (steps.refusal n h) =
        let e : next c Reset ≡ c = refused_next c none Reset n h in
        record { attempt = λ i. subst Left (sym e) (on i); reply = λ i. subst (LeftReply c) (sym e) (kept refl) }
    go (steps.reset h) =
        let e : next c Reset ≡ reset_all c = accepted_next c none Reset 0 (reset_all c) h in
        record { attempt = λ i. subst Left (sym e) (reset_left c); reply = λ i. subst (LeftReply c) (sym e) (dropped (unfold reset_all reset_core in none_left)) }

between_write : (c : Controller) (a v : ℕ) → Between c (Write a v)
between_write c a v = go (step_of c (Write a v))
  where
    go : Step c (Write a v) → Between c (Write a v)
    go (steps.refusal n h) =
        let e : next c (Write a v) ≡ c = refused_next c none (Write a v) n h in
        record { attempt = λ i. subst Left (sym e) (on i); reply = λ i. subst (LeftReply c) (sym e) (kept refl) }
    go (steps.wrote h) =
        let e : next c (Write a v) ≡ host_written c a (v % 256) = accepted_next c none (Write a v) 0 (host_written c a (v % 256)) h in
        record { attempt = λ i. subst Left (sym e) (written_left c a (v % 256) i); reply = λ i. subst (LeftReply c) (sym e) (written_reply_left c a (v % 256)) }

between_read : (c : Controller) (a : ℕ) → Between c (Read a)
between_read c a = go (step_of c (Read a))
  where
    same : next c (Read a) ≡ c → Between c (Read a)
    same e = record { attempt = λ i. subst Left (sym e) (on i); reply = λ i. subst (LeftReply c) (sym e) (kept refl) }

    go : Step c (Read a) → Between c (Read a)
    go (steps.refusal n h) = same (refused_next c none (Read a) n h)
    go (steps.gave value h) = same (accepted_next c none (Read a) value c h)

-- ---- both acknowledge slots are recessive, and so is all that follows

take_short : (n : ℕ) (s : List ℕ) → length (take n s) ≤ n
take_short zero s = omega arith
take_short (suc n) [] = omega arith
take_short (suc n) (x ∷ s) = let h = take_short n s in omega arith

late_recessive : (x : Coded) (k : ℕ) → 50 + 10 * x.n ≤ k → level_at x k ≡ 1
unfolding level_at sent_slots
late_recessive x k h =
    let s : List ℕ = take (31 + 8 * (x.n % (capacity + 1))) (byte_bits x.bytes) in
    let a = code_length s in
    let b = take_short (31 + 8 * (x.n % (capacity + 1))) (byte_bits x.bytes) in
    sym (recessive s k (omega arith))

own_recessive : (k : Core) → drives_frame k.service.effort.progress ≡ true → 50 + 10 * k.service.effort.frame.n ≤ k.service.effort.progress.at → drives k ≡ 1
unfolding drives
own_recessive k d h =
    ap (λ (x : Role). drives_as x k) (role_sender k.service.effort.progress k.reply.going k.reception.place d)
    ∙ (unfold drives_as in late_recessive k.service.effort.frame k.service.effort.progress.at h)

reply_recessive : (k : Core) → role_in k ≡ Replier → 50 + 10 * k.reply.frame.n ≤ k.reply.at → drives k ≡ 1
unfolding drives
reply_recessive k r h = ap (λ (x : Role). drives_as x k) r ∙ (unfold drives_as in late_recessive k.reply.frame k.reply.at h)

-- ---- the claim

module _ (c : Controller) (l : ℕ) where
  abbrev v : ℕ
  v = sample_of c l

  -- what holds of the map where the slot changes nothing but by the end of the service
  by_map : (P : List ℕ → Type 0) → P c.memory → ((x : Ending) → P (memory_ended x c.memory c.core.service.channel))
      → (sampled_slot c v).memory ≡ memory_ended (ending c.core (verdict c.core v) (heard c.core (verdict c.core v) v)) c.memory c.core.service.channel
      → P (next c (Slot l)).memory
  by_map P same end e =
      slot_cases c l P same (subst P (sym e) (end (ending c.core (verdict c.core v) (heard c.core (verdict c.core v) v))))

  pub own : Own c l
  own =
      record {
        mailbox = λ d a h. by_map (λ m. get_or m a 0 ≡ get_or c.memory a 0) refl
            (λ x. ended_elsewhere x c.memory c.core.service.channel a (λ e. omega (arith, base_small c.core.service.channel))) (own_map c v d);
        elsewhere = λ d a h. by_map (λ m. get_or m a 0 ≡ get_or c.memory a 0) refl
            (λ x. ended_elsewhere x c.memory c.core.service.channel a h) (own_map c v d);
        status = λ d. (
          by_map (λ m. get_or m (status_at c) 0 / 8 ≡ get_or c.memory (status_at c) 0 / 8) refl
              (λ x. ended_keeps (λ s. s / 8) cher_length chtx_length x c.memory c.core.service.channel) (own_map c v d),
          by_map (λ m. get_or m (status_at c) 0 % 2 ≡ get_or c.memory (status_at c) 0 % 2) refl
              (λ x. ended_keeps (λ s. s % 2) cher_chrx chtx_chrx x c.memory c.core.service.channel) (own_map c v d),
        );
        going = λ d e. slot_cases c l (λ x. x ≡ c.memory) refl
            (own_map c v d ∙ ap (λ (x : Ending). memory_ended x c.memory c.core.service.channel) e ∙ (unfold memory_ended in refl));
        first = λ d e. own_recessive c.core d (omega arith);
        second = λ d e. own_recessive c.core d (omega arith);
        over = λ i a d x. ap (λ (y : Controller). under_way y.core.reception.place) (slot_sampled c l i a)
            ∙ own_over c v (verdict c.core v) (heard_sender c.core (verdict c.core v) v d) x;
        goes_on = λ i a d e. ap (λ (y : Controller). y.core.service.effort.progress.stage) (slot_sampled c l i a) ∙ sampled_on c v d e;
        unmatched = λ d y e a h. by_map (λ m. get_or m a 0 ≡ get_or c.memory a 0) refl
            (λ x. ended_elsewhere x c.memory c.core.service.channel a h) (unmatched_map c v y e);
      }

  module _ (s : Steady c.core) where
    -- and where it changes nothing but by the end of the reply
    by_reply : (P : List ℕ → Type 0) → P c.memory → ((q : Verdict) → P (memory_replied q c.memory c.core.reply.channel)) → replies c ≡ true → P (next c (Slot l)).memory
    by_reply P same end g =
        slot_cases c l P same (subst P (sym (reply_map c v s (steady_role c.core s g))) (end (reply_verdict (role_in c.core) c.core v)))

    reply_same : (q : Verdict) → memory_replied q c.memory c.core.reply.channel ≡ c.memory → replies c ≡ true → reply_verdict (role_in c.core) c.core v ≡ q → (next c (Slot l)).memory ≡ c.memory
    reply_same q n g e =
        slot_cases c l (λ x. x ≡ c.memory) refl
        (reply_map c v s (steady_role c.core s g) ∙ ap (λ (x : Verdict). memory_replied x c.memory c.core.reply.channel) e ∙ n)

    pub own_reply : OwnReply c l
    own_reply =
        record {
          role = steady_role c.core s;
          mailbox = λ g a h. by_reply (λ m. get_or m a 0 ≡ get_or c.memory a 0) refl
              (λ q. replied_elsewhere q c.memory c.core.reply.channel a (λ e. omega (arith, base_small c.core.reply.channel))) g;
          elsewhere = λ g a h. by_reply (λ m. get_or m a 0 ≡ get_or c.memory a 0) refl (λ q. replied_elsewhere q c.memory c.core.reply.channel a h) g;
          status = λ g. by_reply (λ m. get_or m (reply_at c) 0 / 8 ≡ get_or c.memory (reply_at c) 0 / 8) refl (λ q. replied_length q c.memory c.core.reply.channel) g;
          going = reply_same Goes (unfold memory_replied in refl);
          lost = reply_same Lost (unfold memory_replied in refl);
          first = λ g e. reply_recessive c.core (steady_role c.core s g) (omega arith);
          second = λ g e. reply_recessive c.core (steady_role c.core s g) (omega arith);
          over = λ i a g x.
              let r = steady_role c.core s g in
              ap (λ (y : Controller). under_way y.core.reception.place) (slot_sampled c l i a)
              ∙ own_over c v (judge_reply c.core.reply v) (replier_hears c.core v r (verdict c.core v)) (subst Ended (replier_reply c.core v r) x);
          goes_on = λ i a g e.
              ap (λ (y : Controller). y.core.reply.going) (slot_sampled c l i a) ∙ reply_on c v s (steady_role c.core s g) e ∙ g;
        }

own_in_event : (c : Controller) → Steady c.core → (e : Event) → OwnIn c e
own_in_event c s Reset = between_reset c
own_in_event c s (Write a x) = between_write c a x
own_in_event c s (Read a) = between_read c a
own_in_event c s (Slot l) = (own c l, own_reply c l s)

-- ---- every list of events

from : (c : Controller) → Steady c.core → (es : List Event) → OwnOver c es
from c s [] = tt
from c s (e ∷ es) = (own_in_event c s e, from (next c e) (steady_next c e s) es)

pub own_every : (es : List Event) → OwnOver fresh es
own_every es = from fresh steady_fresh es

pub own_frames : OwnFrames
own_frames = record { every = own_every; reached = λ es l. own (after fresh es) l; reached_reply = λ es l. own_reply (after fresh es) l (steady_after es) }
