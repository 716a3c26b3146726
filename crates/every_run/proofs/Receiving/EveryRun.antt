-- Delivery and acknowledge over every list of events.
use Prim.Native.Nat.{ℕ, ◌+◌, ◌*◌, ◌/◌, ◌%◌, ◌≤◌}
use mathlib.Core.Bool.{Bool, true, false, false≢true}
use mathlib.Core.List.{List, [], ◌∷◌, ◌++◌}
use mathlib.Core.Path.{◌≡◌, refl, ap, ◌∙◌, sym, subst}
use native.Mathlib.Omega.{arith}
use borrow.Author.Tests.{eq-eqb, ltb-true, ltb-false}
use lib.Dec.{eqb, ltb, leb}
use lib.ListN.{length, get_or, take, drop, length-append}
use lib.Seq.{get_or-set_other}
use Rattle.line.specs.Bits.{pick, bits}
use Rattle.line.specs.LineCode.{line_code}
use Rattle.line.specs.Frame.{Frame, Fits, slots, size}
use Rattle.line.proofs.Laws.{bits_length, code_length, slots_length, picked}
use Rattle.rules.specs.Definitions.Channels.{base}
use Rattle.rules.specs.Definitions.Mailbox.{places_filled, stored, check_bytes, marked_cher}
use Rattle.rules.specs.Definitions.Reception.{at_place, is_under_way, takes_start, under_way, command_ended, begun, moved, entered, bit_taken, bits_laid, data_ended, nibble_taken, follow_start, follow_body, follow_in, followed, winner_taken, follow_acknowledge, follow_end}
use Rattle.rules.specs.Definitions.Hearing.{reception_after, hear_frame, hear_quiet, acknowledges, acknowledge_level, receiver_in, receiver_level, fits}
use Rattle.every_run.specs.Valid.{high, low, owes, Valid}
use Rattle.every_run.proofs.Receiving.Invariant.{InBody, InAcknowledge, InvariantIn, Invariant, Whole}
use Rattle.every_run.proofs.Receiving.Held.{places_hold}
use Rattle.every_run.proofs.Receiving.InvariantFrames.{start_long, acknowledge_long, end_long, closing, closing_length, body_opens, acknowledge_same, end_same}
use Rattle.every_run.proofs.Receiving.InvariantLaws.{invariant_silent, invariant_header, invariant_good, invariant_last, invariant_fault, invariant_acknowledges}
use Rattle.rules.specs.Definitions.Delivery.{delivery_to, delivered, delivery_of, memory_stored, memory_delivered, report_heard, report_delivered, report_stored, receive_error}
use Rattle.rules.specs.Definitions.Attempt.{drives_frame, advance, is_answered}
use Rattle.rules.specs.Definitions.Service.{stopped, ending_of, memory_ended, report_judged, report_ended, report_sending, good_for, answered_as, fulfils, memory_replied, report_replied, receives, own_frame}
use Rattle.rules.specs.Definitions.State.{is_active, in_mode, serving, idled, idle_due}
use Rattle.diagnosis.specs.declared.Diagnosis.{Diagnosis}
use Rattle.rules.specs.Definitions.Longest.{longest_of}
use Rattle.rules.specs.Definitions.Registers.{BOV, CV}
use Rattle.rules.specs.declared.Report.{Report}
use Rattle.rules.specs.Definitions.Slots.{role_in, heard_as, heard, service_judged, reception_judged, delivers, ending, report_after, memory_judged, core_judged, follows_on, drives_as, drives, sample_of, judged_slot, sampled_slot, active_slot, reply_verdict, verdict_as, verdict}
use Rattle.rules.specs.Definitions.Run.{fresh, next}
use Rattle.every_run.specs.Tally.{Tally, none}
use Rattle.every_run.specs.Observer.{accepted}
use Rattle.every_run.proofs.Sending.Beside.{next_t}
use Rattle.every_run.proofs.Steps.{Step, refusal, went, rested, with_diagnosis_c, step_of, refused_not, went_next}
use Rattle.every_run.proofs.Sending.Follow.{follows_activity, follows_reception, follows_error}
use Rattle.every_run.proofs.Ranges.Limits.{Fine}
use Rattle.every_run.proofs.Ranges.Reach.{fine_fresh, fine_next}
use Rattle.every_run.proofs.Sending.Demand3.{Joined, joined_next, joined_fresh}
use Rattle.every_run.specs.Receiving.{Log, no_log, stored_bytes, stored_frame, received, error_after, log_next, taker, hears, Taken, Delivers, role, Heeds, DeliversIn, Owing, Acknowledges, ReceivingOver, untaken_code}
use Rattle.every_run.proofs.Roles as roles
use Rattle.every_run.proofs.Roles.{RoleIs, sends, asks, rests, role_is}
use Rattle.every_run.proofs.Receiving.Log.{At, Following, apart, driving, none_wins, receiving, starting}
use Rattle.every_run.proofs.Receiving.Log as at
use Rattle.every_run.proofs.Receiving.LogSteps.{Logs}
use Rattle.every_run.proofs.Receiving.Answers.{is_asking, Kept, kept_fresh, kept_next, coming}
use Rattle.rules.proofs.Samples.{sample_small}
use Rattle.every_run.specs.OwnFrames.{status_at}
use Rattle.every_run.proofs.OwnFrames.EveryRun.{ended_elsewhere, replied_elsewhere, ended_keeps, cher_length, chtx_length, cher_chrx, chtx_chrx}
use Rattle.rules.specs.declared.Winner.{Winner}
use Rattle.rules.specs.declared.Phase.{Phase}
use Rattle.rules.specs.declared.Phase.TheVariants.{Quiet, Start, Body, Acknowledge, End}
use Rattle.rules.specs.declared.Reception.{Reception}
use Rattle.rules.specs.declared.Hearing.{Hearing}
use Rattle.rules.specs.declared.Hearing.TheVariants as hearing
use Rattle.rules.specs.declared.Delivery.{Delivery}
use Rattle.rules.specs.declared.Delivery.TheVariants as effect
use Rattle.rules.specs.declared.Effort.{Effort}
use Rattle.rules.specs.declared.ImmediateReply.{ImmediateReply}
use Rattle.rules.specs.declared.Service.{Service}
use Rattle.rules.specs.declared.Verdict.{Verdict}
use Rattle.rules.specs.declared.Verdict.TheVariants.{Unjudged}
use Rattle.rules.specs.declared.Ending.{Ending}
use Rattle.rules.specs.declared.Ending.TheVariants.{Going, Sent, Exhausted, Aborted, Rearbitrated, Fulfilled}
use Rattle.rules.specs.declared.Role.{Role}
use Rattle.rules.specs.declared.Role.TheVariants.{Nobody, Receiver, Sender, Asker, Replier}
use Rattle.rules.specs.declared.Activity.{Activity}
use Rattle.rules.specs.declared.Core.{Core}
use Rattle.rules.specs.declared.Controller.{Controller}
use Rattle.rules.specs.declared.Event.{Event}
use Rattle.rules.specs.declared.Event.TheVariants.{Reset, Write, Read, Slot}

-- ---- another module's frame

following_at : {longest : ℕ} {e : Effort} {y : ImmediateReply} {r : Reception} {l : Log} → At longest e y r l
    → drives_frame e.progress ≡ false → is_answered e.progress ≡ false → y.going ≡ false → under_way r.place ≡ true → Following longest r l
following_at (apart d g u) a i n b = absurd (false≢true (sym u ∙ b))
following_at (receiving d g f) a i n b = f
following_at (at.asking d k g f) a i n b = f
following_at (starting d g z u) a i n b = absurd (false≢true (sym a ∙ d))
following_at (driving d g f p h) a i n b = f
following_at (at.closing d g k h) a i n b = absurd (false≢true (sym a ∙ d))
following_at (at.replying d g o f p k h) a i n b = f
following_at (at.replied d g k h) a i n b = absurd (false≢true (sym n ∙ g))

receives_follows : (k : Core) (l : Log) → At (longest_of k) k.service.effort k.reply k.reception l → receives (role_in k) ≡ true → Following (longest_of k) k.reception l
receives_follows k l s h = go (role_is k.service.effort.progress k.reply.going k.reception.place) h
  where
    go : {x : Role} → RoleIs k.service.effort.progress k.reply.going k.reception.place x → receives x ≡ true → Following (longest_of k) k.reception l
    go (sends d) h = absurd (false≢true (unfold receives in h))
    go (asks d a) h = is_asking s a
    go (roles.replying d a y) h = absurd (false≢true (unfold receives in h))
    go (roles.receives d a y u) h = following_at s d a y u
    go (rests d a y u) h = absurd (false≢true (unfold receives in h))

module _ {longest : ℕ} (r : Reception) (l : Log) (w : Following longest r l) where
  taker_is : (f : Frame) → get_or r.bytes 0 0 ≡ high f → get_or r.bytes 1 0 ≡ low f → r.winner ≡ taker l f
  taker_is f h k = w.winner ∙ rw (h, k)

  -- who takes a frame that the samples open
  taker_opens : (f : Frame) → Fits longest f → (rest : List ℕ) → l.samples ++ rest ≡ slots f → r.winner ≡ taker l f
  taker_opens f i rest e = go (ltb (length l.samples) 30) refl
    where
      go : (b : Bool) → ltb (length l.samples) 30 ≡ b → r.winner ≡ taker l f
      go true d = let n : l.held ≡ [] = w.before (ltb-true _ _ d) in w.winner ∙ rw (n, none_wins) (sym (none_wins _ _))
      go false d = let k = invariant_header r l.samples w.invariant (ltb-false _ _ d) f i rest e in taker_is f k.0 k.1

-- ---- the memory map

receiver_memory : (m : List ℕ) (k : Core) (h : Hearing) → role_in k ≡ Receiver → stopped k.service ≡ Going → memory_judged m k Unjudged Unjudged h ≡ memory_delivered (delivery_of h k.reception) m k.reception
unfolding memory_judged memory_replied ending ending_of service_judged advance delivers
receiver_memory m k h q g = rw (q, g) (go (fulfils (delivery_of h k.reception) k.reception k.service))
  where
    go : (b : Bool) → memory_ended (pick b Fulfilled Going) (memory_delivered (delivery_of h k.reception) m k.reception) k.service.channel ≡ memory_delivered (delivery_of h k.reception) m k.reception
    go true = unfold memory_ended in refl
    go false = unfold memory_ended in refl

-- what a good frame fills of the mailbox
filled_places : {longest : ℕ} (r : Reception) {s : List ℕ} (w : Whole longest r s)
    → take (places_filled r.winner.length (length w.frame.bytes)) (drop 2 r.bytes) ≡ w.frame.bytes ++ pick (leb (length w.frame.bytes + 3) r.winner.length) (check_bytes w.frame) []
filled_places r w = rw w.coded_is (places_hold w.frame r.winner.length)

-- what a good frame does to the memory map
good_memory : {longest : ℕ} (m : List ℕ) (r : Reception) {s : List ℕ} (w : Whole longest r s) → memory_delivered (delivery_of hearing.Good r) m r ≡ received m r.winner w.frame
unfolding delivery_of delivery_to delivered fits received
good_memory m r w = rw w.count_is (go r.winner.matched (leb (length w.frame.bytes + 1) r.winner.length))
  where
    go : (a b : Bool) → memory_delivered (pick a (pick b effect.Stored effect.Overflowed) effect.Nothing) m r
        ≡ pick a (pick b (stored_frame m r.winner w.frame) (marked_cher m r.winner.channel)) m
    go true true = unfold memory_delivered memory_stored stored stored_frame stored_bytes in rw (w.high_is, w.low_is, w.count_is, filled_places r w)
    go true false = unfold memory_delivered in refl
    go false b = unfold memory_delivered in refl

-- what it does to 0x07
good_error : {longest : ℕ} (x : Report) (r : Reception) {s : List ℕ} (w : Whole longest r s) → (report_delivered (delivery_of hearing.Good r) (report_heard hearing.Good x) r).error ≡ error_after x.error x.error r.winner w.frame
unfolding delivery_of delivery_to delivered fits error_after report_heard
good_error x r w = rw w.count_is (go r.winner.matched (leb (length w.frame.bytes + 1) r.winner.length))
  where
    go : (a b : Bool) → (report_delivered (pick a (pick b effect.Stored effect.Overflowed) effect.Nothing) x r).error ≡ pick a (pick b x.error BOV) x.error
    go true true = unfold report_delivered report_stored in refl
    go true false = unfold report_delivered receive_error in refl
    go false b = unfold report_delivered in refl

ended_error : (x : Ending) (p : Report) (s : Service) → (report_ended x p s).error ≡ p.error
unfolding report_ended
ended_error Going p s = refl
ended_error Sent p s = refl
ended_error Exhausted p s = refl
ended_error Aborted p s = refl
ended_error Rearbitrated p s = refl
ended_error Fulfilled p s = refl

receiver_error : (k : Core) (h : Hearing) → role_in k ≡ Receiver → (report_after k Unjudged Unjudged h).error ≡ (report_delivered (delivery_of h k.reception) (report_heard h k.report) k.reception).error
unfolding report_after report_replied report_judged delivers
receiver_error k h q = rw q (ended_error _ (report_delivered (delivery_of h k.reception) (report_heard h k.report) k.reception) _)

-- an answer to the model's request
answer_error : (d : Delivery) (p : Report) (r : Reception) (s : Service) → ℕ
answer_error d p r s = (report_judged (good_for d) (report_delivered d (report_heard hearing.Good p) r) s).error

answers_error : (p : Report) (r : Reception) (s : Service) {l : List ℕ} {longest : ℕ} (w : Whole longest r l) → answer_error (delivery_of hearing.Good r) p r s ≡ error_after p.error CV r.winner w.frame
unfolding answer_error delivery_of delivery_to delivered fits error_after report_heard
answers_error p r s w = rw w.count_is (go r.winner.matched (leb (length w.frame.bytes + 1) r.winner.length))
  where
    go : (a b : Bool) → (report_judged (good_for (pick a (pick b effect.Stored effect.Overflowed) effect.Nothing)) (report_delivered (pick a (pick b effect.Stored effect.Overflowed) effect.Nothing) p r) s).error
        ≡ pick a (pick b p.error BOV) CV
    go true true = unfold good_for report_judged report_delivered report_stored in refl
    go true false = unfold good_for report_judged report_sending in refl
    go false b = unfold good_for report_judged report_sending in refl

asker_error : (k : Core) (w : Verdict) → role_in k ≡ Asker → w ≡ good_for (delivery_of hearing.Good k.reception)
    → (report_after k w Unjudged hearing.Good).error ≡ answer_error (delivery_of hearing.Good k.reception) k.report k.reception (service_judged w k.service)
unfolding report_after report_replied delivers answer_error
asker_error k w q e = rw (q, e) (ended_error _ (report_judged (good_for (delivery_of hearing.Good k.reception)) (report_delivered (delivery_of hearing.Good k.reception) (report_heard hearing.Good k.report) k.reception) _) _)

-- the mailbox stands behind the channels
cher_mailbox : (m : List ℕ) (c a : ℕ) → 128 ≤ a → get_or (marked_cher m c) a 0 ≡ get_or m a 0
unfolding marked_cher base
cher_mailbox m c a h = get_or-set_other m (0x10 + 8 * (c % 14) + 3) a _ 0 (λ e. omega arith)

early_memory : (m : List ℕ) (r : Reception) (h : Hearing) → (h ≡ hearing.Good → ⊥) → (a : ℕ) → 128 ≤ a → get_or (memory_delivered (delivery_of h r) m r) a 0 ≡ get_or m a 0
unfolding delivery_of delivery_to
early_memory m r h n a i = go h n
  where
    P : Delivery → Type 0
    P d = get_or (memory_delivered d m r) a 0 ≡ get_or m a 0

    nothing : P effect.Nothing
    nothing = unfold memory_delivered in refl

    go : (h : Hearing) → (h ≡ hearing.Good → ⊥) → P (pick r.winner.matched (delivery_to h r) effect.Nothing)
    go hearing.Silent n = picked P r.winner.matched effect.Nothing effect.Nothing (λ e. nothing) (λ e. nothing)
    go hearing.Follows n = picked P r.winner.matched effect.Nothing effect.Nothing (λ e. nothing) (λ e. nothing)
    go (hearing.Fault code) n = picked P r.winner.matched effect.Spoiled effect.Nothing (λ e. unfold memory_delivered in cher_mailbox m r.winner.channel a i) (λ e. nothing)
    go hearing.Good n = absurd (n refl)

-- ---- the claims

active_next : (c : Controller) (t : Tally) (levels : ℕ) → accepted c (Slot levels) ≡ true → is_active c.core.activity.mode ≡ true → Step c (Slot levels)
    → next c (Slot levels) ≡ with_diagnosis_c (sampled_slot c (sample_of c levels)) (active_slot c levels).core.diagnosis
active_next c t levels y a (refusal n h) = absurd (false≢true (sym (refused_not c t (Slot levels) n h) ∙ y))
active_next c t levels y a (went b h) = went_next c t levels h
active_next c t levels y a (rested b h) = absurd (false≢true (sym b ∙ a))

-- ---- a slot, whoever sends

module _ (c : Controller) (levels : ℕ) where
  begins_frame : role c ≡ Nobody → takes_start c.core.line ≡ true → sample_of c levels ≡ 0 → hears c levels ≡ hearing.Follows
  unfolding heard
  begins_frame q t z = rw q (unfold heard_as hear_quiet in rw (eq-eqb (sample_of c levels) 0 z, t))

-- a frame that follows is under way
follow_under_way : (p : Phase) (r : Reception) (v : ℕ) → r.place.phase ≡ p → under_way (follow_in p r v).place ≡ true
unfolding follow_in follow_start follow_body follow_acknowledge follow_end moved entered bit_taken nibble_taken data_ended bits_laid begun at_place under_way is_under_way
follow_under_way Quiet r v e = refl
follow_under_way Start r v e = picked (λ (x : Reception). under_way x.place ≡ true) (ltb r.place.at 9) (moved r) (entered r Body) (λ d. rw e) (λ d. refl)
follow_under_way Body r v e =
    picked (λ (x : Reception). under_way x.place ≡ true) (ltb r.place.at 4) (bit_taken r v) _ (λ d. rw e)
    (λ d. picked (λ (x : Reception). under_way x.place ≡ true) (eqb v (r.bits % 2)) (data_ended r) (nibble_taken r) (λ i. refl) (λ i. refl))
follow_under_way Acknowledge r v e = picked (λ (x : Reception). under_way x.place ≡ true) (eqb r.place.at 0) (bit_taken r v) (entered r End) (λ d. rw e) (λ d. refl)
follow_under_way End r v e = picked (λ (x : Reception). under_way x.place ≡ true) (ltb r.place.at 7) (moved r) r (λ d. rw e) (λ d. rw e)

followed_under_way : (r : Reception) (v : ℕ) → under_way (followed r v).place ≡ true
unfolding followed
followed_under_way r v = follow_under_way r.place.phase r v refl

judged_under_way : (m : List ℕ) (r : Reception) (v : ℕ) → under_way (reception_judged m hearing.Follows r v).place ≡ true
unfolding reception_judged reception_after winner_taken
judged_under_way m r v =
    picked (λ (x : Reception). under_way x.place ≡ true) (command_ended (followed r v)) (winner_taken (followed r v) m) (followed r v) (λ e. followed_under_way r v) (λ e. followed_under_way r v)

-- a controller that is still active has dropped no frame
idle_active : (k : Core) → is_active (idle_due k).activity.mode ≡ true → (idle_due k).reception ≡ k.reception
unfolding idle_due
idle_active k =
    picked P k.activity.waiting _ k (λ e. picked P (serving k.service) k (idled k) (λ d a. refl) (λ d a. absurd (false≢true (unfold idled in_mode is_active in a)))) (λ e a. refl)
  where
    P : Core → Type 0
    P x = is_active x.activity.mode ≡ true → x.reception ≡ k.reception

judged_reception : (m : List ℕ) (k : Core) (w q : Verdict) (h : Hearing) (v : ℕ) → (core_judged m k w q h v).reception ≡ reception_judged m h k.reception v
unfolding core_judged
judged_reception m k w q h v = refl

module _ (c : Controller) (w q : Verdict) (v : ℕ) where
  kept_judged : is_active (judged_slot c w q hearing.Follows v).core.activity.mode ≡ true → under_way (judged_slot c w q hearing.Follows v).core.reception.place ≡ true
  unfolding judged_slot
  kept_judged a =
      let m : List ℕ = memory_judged c.memory c.core w q hearing.Follows in
      let k : Core = core_judged m c.core w q hearing.Follows v in
      let e : (follows_on m k).reception ≡ k.reception = follows_reception m k ∙ idle_active k (ap (λ (x : Activity). is_active x.mode) (sym (follows_activity m k)) ∙ a) in
      ap (λ (x : Reception). under_way x.place) (e ∙ judged_reception m c.core w q hearing.Follows v) ∙ judged_under_way m c.core.reception v

-- marks stand in the channels: the mailboxes are as the delivery leaves them
judged_mailbox : (m : List ℕ) (k : Core) (w q : Verdict) (h : Hearing) (a : ℕ) → 128 ≤ a → get_or (memory_judged m k w q h) a 0 ≡ get_or (memory_delivered (delivers (role_in k) h k.reception) m k.reception) a 0
unfolding memory_judged
judged_mailbox m k w q h a i =
    replied_elsewhere q _ k.reply.channel a (λ e. unfold base in omega arith)
    ∙ ended_elsewhere (ending k w h) (memory_delivered (delivers (role_in k) h k.reception) m k.reception) k.service.channel a (λ e. unfold base in omega arith)

-- a sample that is none of another module's frame leaves them
other_mailbox : (x : Role) → receives x ≡ false → (h : Hearing) (m : List ℕ) (r : Reception) (a : ℕ) → get_or (memory_delivered (delivers x h r) m r) a 0 ≡ get_or m a 0
unfolding receives delivers
other_mailbox Nobody e h m r a = unfold memory_delivered in refl
other_mailbox Receiver e h m r a = absurd (false≢true (sym e))
other_mailbox Sender e h m r a = unfold memory_delivered in refl
other_mailbox Asker e h m r a = absurd (false≢true (sym e))
other_mailbox Replier e h m r a = unfold memory_delivered in refl

receives_delivers : (x : Role) → receives x ≡ true → (h : Hearing) (r : Reception) → delivers x h r ≡ delivery_of h r
unfolding receives delivers
receives_delivers Nobody e h r = absurd (false≢true e)
receives_delivers Receiver e h r = refl
receives_delivers Sender e h r = absurd (false≢true e)
receives_delivers Asker e h r = refl
receives_delivers Replier e h r = absurd (false≢true e)

receives_drives : (x : Role) → receives x ≡ true → (k : Core) → drives_as x k ≡ receiver_level k.reception
unfolding receives drives_as
receives_drives Nobody e k = absurd (false≢true e)
receives_drives Receiver e k = refl
receives_drives Sender e k = absurd (false≢true e)
receives_drives Asker e k = refl
receives_drives Replier e k = absurd (false≢true e)

receives_hears : (x : Role) → receives x ≡ true → (k : Core) (w : Verdict) (v : ℕ) → heard_as x k w v ≡ hear_frame k.reception (longest_of k) v
unfolding receives heard_as
receives_hears Nobody e k w v = absurd (false≢true e)
receives_hears Receiver e k w v = refl
receives_hears Sender e k w v = absurd (false≢true e)
receives_hears Asker e k w v = refl
receives_hears Replier e k w v = absurd (false≢true e)

module _ (c : Controller) (t : Tally) (levels : ℕ) (y : accepted c (Slot levels) ≡ true) (a : is_active c.core.activity.mode ≡ true) where
  slot_next : next c (Slot levels) ≡ with_diagnosis_c (sampled_slot c (sample_of c levels)) (active_slot c levels).core.diagnosis
  slot_next = active_next c t levels y a (step_of c (Slot levels))

  abbrev v : ℕ
  v = sample_of c levels

  abbrev w : Verdict
  w = verdict c.core v

  abbrev q : Verdict
  q = reply_verdict (role_in c.core) c.core v

  heeds_kept : hears c levels ≡ hearing.Follows → is_active (next c (Slot levels)).core.activity.mode ≡ true → under_way (next c (Slot levels)).core.reception.place ≡ true
  heeds_kept h =
      let d : Diagnosis = (active_slot c levels).core.diagnosis in
      let n : next c (Slot levels) ≡ with_diagnosis_c (judged_slot c w q hearing.Follows v) d = slot_next ∙ (unfold sampled_slot in ap (λ (x : Hearing). with_diagnosis_c (judged_slot c w q x v) d) h) in
      rw n (kept_judged c w q v)

  slot_memory : (next c (Slot levels)).memory ≡ memory_judged c.memory c.core w q (hears c levels)
  unfolding sampled_slot judged_slot
  slot_memory = ap (λ (x : Controller). x.memory) slot_next

  slot_error : (next c (Slot levels)).core.report.error ≡ (report_after c.core w q (hears c levels)).error
  unfolding sampled_slot judged_slot core_judged
  slot_error = ap (λ (x : Controller). x.core.report.error) slot_next ∙ follows_error (memory_judged c.memory c.core w q (hears c levels)) _

  slot_mailbox : (b : ℕ) → 128 ≤ b → get_or (next c (Slot levels)).memory b 0 ≡ get_or (memory_delivered (delivers (role c) (hears c levels) c.core.reception) c.memory c.core.reception) b 0
  slot_mailbox b i = ap (λ (x : List ℕ). get_or x b 0) slot_memory ∙ judged_mailbox c.memory c.core w q (hears c levels) b i

  heeds_mailbox : receives (role c) ≡ false → (b : ℕ) → 128 ≤ b → get_or (next c (Slot levels)).memory b 0 ≡ get_or c.memory b 0
  heeds_mailbox n b i = slot_mailbox b i ∙ other_mailbox (role c) n (hears c levels) c.memory c.core.reception b

  heeds : Heeds c levels
  heeds = record { begins = begins_frame c levels; kept = heeds_kept; mailbox = heeds_mailbox }

-- ---- a slot of another module's frame

valid_as : {w x : Winner} {f : Frame} → w ≡ x → Valid x f → Valid w f
valid_as {w} {x} {f} e v = subst (λ (z : Winner). Valid z f) (sym e) v

-- what the sample is for attempt and reply, where the model receives
receiver_verdict : (k : Core) (v : ℕ) → role_in k ≡ Receiver → verdict k v ≡ Unjudged
unfolding verdict verdict_as
receiver_verdict k v q = rw q

asker_verdict : (k : Core) (v : ℕ) → role_in k ≡ Asker → hear_frame k.reception (longest_of k) v ≡ hearing.Good → verdict k v ≡ good_for (delivery_of hearing.Good k.reception)
unfolding verdict verdict_as answered_as
asker_verdict k v q h = rw (q, h)

no_reply_judged : (k : Core) (v : ℕ) → receives (role_in k) ≡ true → reply_verdict (role_in k) k v ≡ Unjudged
no_reply_judged k v h = go (role_in k) h
  where
    go : (x : Role) → receives x ≡ true → reply_verdict x k v ≡ Unjudged
    go Nobody e = absurd (false≢true (unfold receives in e))
    go Receiver e = unfold reply_verdict in refl
    go Sender e = absurd (false≢true (unfold receives in e))
    go Asker e = unfold reply_verdict in refl
    go Replier e = absurd (false≢true (unfold receives in e))

module _ (c : Controller) (t : Tally) (l : Log) (i : Logs c l) (levels : ℕ) (y : accepted c (Slot levels) ≡ true) (a : is_active c.core.activity.mode ≡ true) (q : receives (role c) ≡ true) where
  abbrev r : Reception
  r = c.core.reception

  abbrev u : ℕ
  u = sample_of c levels

  follows : Following (longest_of c.core) r l
  follows = receives_follows c.core l i.stands.stage q

  invariant : Invariant (longest_of c.core) r l.samples
  invariant = follows.invariant

  hears_is : hears c levels ≡ hear_frame r (longest_of c.core) u
  unfolding heard
  hears_is = receives_hears (role c) q c.core _ u

  next_memory : role c ≡ Receiver → (next c (Slot levels)).memory ≡ memory_delivered (delivery_of (hears c levels) r) c.memory r
  next_memory e =
      slot_memory c t levels y a
      ∙ ap (λ (x : Verdict). memory_judged c.memory c.core x (reply_verdict (role c) c.core u) (hears c levels)) (receiver_verdict c.core u e)
      ∙ ap (λ (x : Verdict). memory_judged c.memory c.core Unjudged x (hears c levels)) (no_reply_judged c.core u q)
      ∙ receiver_memory c.memory c.core (hears c levels) e i.stands.going

  next_marked : (next c (Slot levels)).memory
      ≡ memory_ended (ending c.core (verdict c.core u) (hears c levels)) (memory_delivered (delivery_of (hears c levels) r) c.memory r) c.core.service.channel
  unfolding memory_judged
  next_marked =
      slot_memory c t levels y a
      ∙ ap (λ (x : Verdict). memory_judged c.memory c.core (verdict c.core u) x (hears c levels)) (no_reply_judged c.core u q)
      ∙ unfold memory_replied in ap (λ (d : Delivery). memory_ended (ending c.core (verdict c.core u) (hears c levels)) (memory_delivered d c.memory r) c.core.service.channel) (receives_delivers (role c) q (hears c levels) r)

  next_mailbox : (b : ℕ) → 128 ≤ b → get_or (next c (Slot levels)).memory b 0 ≡ get_or (memory_delivered (delivery_of (hears c levels) r) c.memory r) b 0
  next_mailbox b h =
      slot_mailbox c t levels y a b h ∙ ap (λ (d : Delivery). get_or (memory_delivered d c.memory r) b 0) (receives_delivers (role c) q (hears c levels) r)

  good_next : hears c levels ≡ hearing.Good → (w : Whole (longest_of c.core) r (l.samples ++ (u ∷ []))) → (x : Role) → role c ≡ x
      → (next c (Slot levels)).core.report.error ≡ error_after c.core.report.error (untaken_code x c.core.report.error) r.winner w.frame
  good_next h w Nobody e = absurd (false≢true (unfold receives in (subst (λ (x : Role). receives x ≡ true) e q)))
  good_next h w Receiver e =
      slot_error c t levels y a
      ∙ ap (λ (x : Verdict). (report_after c.core x (reply_verdict (role c) c.core u) (hears c levels)).error) (receiver_verdict c.core u e)
      ∙ ap (λ (x : Verdict). (report_after c.core Unjudged x (hears c levels)).error) (no_reply_judged c.core u q)
      ∙ receiver_error c.core (hears c levels) e
      ∙ ap (λ (x : Hearing). (report_delivered (delivery_of x r) (report_heard x c.core.report) r).error) h
      ∙ good_error c.core.report r w ∙ (unfold untaken_code in refl)
  good_next h w Sender e = absurd (false≢true (unfold receives in (subst (λ (x : Role). receives x ≡ true) e q)))
  good_next h w Asker e =
      let g : hear_frame r (longest_of c.core) u ≡ hearing.Good = sym hears_is ∙ h in
      slot_error c t levels y a
      ∙ ap (λ (x : Verdict). (report_after c.core (verdict c.core u) x (hears c levels)).error) (no_reply_judged c.core u q)
      ∙ ap (λ (x : Hearing). (report_after c.core (verdict c.core u) Unjudged x).error) h
      ∙ asker_error c.core (verdict c.core u) e (asker_verdict c.core u e g)
      ∙ answers_error c.core.report r _ w ∙ (unfold untaken_code in refl)
  good_next h w Replier e = absurd (false≢true (unfold receives in (subst (λ (x : Role). receives x ≡ true) e q)))

  taken : hears c levels ≡ hearing.Good → Taken c l levels
  taken h =
      let w = invariant_good r l.samples invariant u (sample_small c levels) (sym hears_is ∙ h) in
      let n : r.winner ≡ taker l w.frame = taker_is r l follows w.frame w.high_is w.low_is in
      let m : memory_delivered (delivery_of (hears c levels) r) c.memory r ≡ received c.memory (taker l w.frame) w.frame
      = ap (λ (x : Hearing). memory_delivered (delivery_of x r) c.memory r) h ∙ good_memory c.memory r w ∙ ap (λ (x : Winner). received c.memory x w.frame) n in
      record {
        frame = w.frame;
        fits = w.fits;
        whole = w.slots_are;
        valid = valid_as (sym n) w.valid;
        memory = λ e. next_memory e ∙ m;
        elsewhere = λ b k. ap (λ (x : List ℕ). get_or x b 0) next_marked ∙ ended_elsewhere _ _ c.core.service.channel b k ∙ ap (λ (x : List ℕ). get_or x b 0) m;
        status = (
          ap (λ (x : List ℕ). get_or x (status_at c) 0 / 8) next_marked ∙ ended_keeps (λ s. s / 8) cher_length chtx_length _ _ c.core.service.channel ∙ ap (λ (x : List ℕ). get_or x (status_at c) 0 / 8) m,
          ap (λ (x : List ℕ). get_or x (status_at c) 0 % 2) next_marked ∙ ended_keeps (λ s. s % 2) cher_chrx chtx_chrx _ _ c.core.service.channel ∙ ap (λ (x : List ℕ). get_or x (status_at c) 0 % 2) m,
        );
        error = good_next h w (role c) refl ∙ ap (λ (x : Winner). error_after c.core.report.error (untaken_code (role c) c.core.report.error) x w.frame) n;
      }

  delivers_slot : Delivers c l levels
  delivers_slot =
      record {
        good = taken;
        complete = λ f g e. hears_is ∙ invariant_last c.core.reception l.samples invariant f g (sample_of c levels) e;
        faultless =
            λ code h f g v rest e.
            invariant_fault c.core.reception l.samples invariant f g (valid_as (taker_opens c.core.reception l follows f g (sample_of c levels ∷ rest) e) v) (sample_of c levels) code rest e (sym hears_is ∙ h);
        silent = λ h. invariant_silent c.core.reception l.samples invariant (sample_of c levels) (sym hears_is ∙ h);
        early = λ n b h. next_mailbox b h ∙ early_memory c.memory c.core.reception (hears c levels) n b h;
      }

-- ---- the acknowledge

-- nine slots before the end of a frame the acknowledge's second slot is next
module _ (longest : ℕ) (r : Reception) (s : List ℕ) (f : Frame) (g : Fits longest f) (o : owes r.winner f ≡ true) (rest : List ℕ) (nine : length rest ≡ 9) (e : s ++ rest ≡ slots f) where
  so_long : length s ≡ 51 + 10 * length f.bytes
  unfolding size
  so_long = let a = length-append s rest in let b : length (s ++ rest) ≡ size (length f.bytes) = ap length e ∙ slots_length f in omega arith

  body_short : InBody longest r s → ⊥
  body_short t =
      let k = body_opens f r s t rest e in
      let a = ap length k.slots_are in
      let b = length-append (bits r.place.at r.bits) rest in
      let d = length-append (line_code k.rest) (0 ∷ 0 ∷ closing f) in
      let h = code_length k.rest in
      omega (arith, bits_length r.place.at r.bits, closing_length f, t.within, k.long)

  owed_acknowledges : (t : InAcknowledge longest r s) → acknowledges r ≡ true
  unfolding acknowledges owes
  owed_acknowledges t =
      let k = acknowledge_same f g r s t rest e in
      rw (k.count, k.low_is) o

  second_driven : (at : ℕ) → at ≡ 1 → acknowledges r ≡ true → acknowledge_level at r ≡ 0
  unfolding acknowledge_level
  second_driven at a b = rw (a, b)

  owed_in : (p : Phase) → InvariantIn longest p r s → receiver_in p r ≡ 0
  unfolding InvariantIn receiver_in
  owed_in Quiet t = absurd t
  owed_in Start t = absurd (omega (arith, start_long r s t, so_long, t.within))
  owed_in Body t = absurd (body_short t)
  owed_in Acknowledge t =
      let k = acknowledge_same f g r s t rest e in
      second_driven r.place.at (omega (arith, acknowledge_long r s t, so_long, k.count)) (owed_acknowledges t)
  owed_in End t = let k = end_same f g r s t rest e in absurd (omega (arith, end_long r s t, so_long, k.count))

invariant_owed : {longest : ℕ} (r : Reception) (s : List ℕ) → Invariant longest r s → (f : Frame) → Fits longest f → owes r.winner f ≡ true → (rest : List ℕ) → length rest ≡ 9 → s ++ rest ≡ slots f → receiver_level r ≡ 0
unfolding receiver_level
invariant_owed {longest} r s t f g o rest n e = owed_in longest r s f g o rest n e r.place.phase t.holds

module _ (c : Controller) (l : Log) (i : Logs c l) where
  owing : receives (role c) ≡ true → receiver_level c.core.reception ≡ 0 → Owing (longest_of c.core) l
  owing q h =
      let f : Following (longest_of c.core) c.core.reception l = receives_follows c.core l i.stands.stage q in
      let o = invariant_acknowledges c.core.reception l.samples f.invariant h in
      let n : c.core.reception.winner ≡ taker l o.frame = taker_is c.core.reception l f o.frame o.high_is o.low_is in
      record {
        frame = o.frame;
        fits = o.fits;
        valid = valid_as (sym n) o.valid;
        owed = ap (λ (x : Winner). owes x o.frame) (sym n) ∙ o.owed;
        first = o.first;
        samples = o.samples;
      }

  only_owed : drives c.core ≡ 0 → own_frame (role c) ≡ false → Owing (longest_of c.core) l
  unfolding drives
  only_owed h n = go (role c) refl h
    where
      go : (x : Role) → role c ≡ x → drives_as x c.core ≡ 0 → Owing (longest_of c.core) l
      go Nobody e d = absurd (let z : ◌≡◌ {A = ℕ} 1 0 = unfold drives_as in d in omega arith)
      go Receiver e d = owing (rw e (unfold receives in refl)) (unfold drives_as in d)
      go Sender e d = absurd (false≢true (sym (subst (λ (x : Role). own_frame x ≡ false) e n) ∙ (unfold own_frame in refl)))
      go Asker e d = owing (rw e (unfold receives in refl)) (unfold drives_as in d)
      go Replier e d = absurd (false≢true (sym (subst (λ (x : Role). own_frame x ≡ false) e n) ∙ (unfold own_frame in refl)))

  due_driven : receives (role c) ≡ true → (f : Frame) → Fits (longest_of c.core) f → owes (taker l f) f ≡ true → (rest : List ℕ) → length rest ≡ 9 → l.samples ++ rest ≡ slots f → drives c.core ≡ 0
  unfolding drives
  due_driven q f g o rest n e =
      let w : Following (longest_of c.core) c.core.reception l = receives_follows c.core l i.stands.stage q in
      let k : c.core.reception.winner ≡ taker l f = taker_opens c.core.reception l w f g rest e in
      receives_drives (role c) q c.core ∙ invariant_owed c.core.reception l.samples w.invariant f g (ap (λ (x : Winner). owes x f) k ∙ o) rest n e

  acknowledged : Acknowledges c l
  acknowledged = record { only = only_owed; due = due_driven }

delivers_in : (c : Controller) (t : Tally) (l : Log) → Logs c l → (e : Event) → DeliversIn c l e
delivers_in c t l i Reset = tt
delivers_in c t l i (Write a v) = tt
delivers_in c t l i (Read a) = tt
delivers_in c t l i (Slot levels) = λ y a. (heeds c t levels y a, delivers_slot c t l i levels y a)

-- ---- every list of events

from : (c : Controller) (t : Tally) (l : Log) → Kept c t l → Joined c t → Fine c → (es : List Event) → ReceivingOver c l es
from c t l k j f [] = acknowledged c l k.logs
from c t l k j f (e ∷ es) =
    (acknowledged c l k.logs, delivers_in c t l k.logs e, from (next c e) (next_t c t e) (log_next c l e) (kept_next c t l f j k e) (joined_next c t j f (coming c t l f j k) e (step_of c e)) (fine_next c e f) es)

-- every list of events from a fresh controller
pub delivery : (es : List Event) → ReceivingOver fresh no_log es
delivery es = from fresh none no_log kept_fresh joined_fresh fine_fresh es
