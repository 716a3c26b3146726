-- The two common samples: what the slot leaves, and that nothing follows.
use Prim.Native.Nat.{ℕ, ◌+◌, ◌<◌, ◌%◌}
use mathlib.Core.Bool.{Bool, true, false, false≢true, not}
use mathlib.Core.List.{List, []}
use mathlib.Core.Path.{◌≡◌, refl, sym, ap, subst, ◌∙◌}
use lib.Dec.{eqb, ltb}
use lib.ListN.{get_or}
use Rattle.line.specs.Bits.{pick}
use Rattle.diagnosis.specs.Control.{compares_transmission}
use Rattle.rules.specs.Definitions.Setters.{with_effort, with_line, with_reception, with_service, with_reply}
use Rattle.rules.specs.Definitions.Longest.{capacity, longest_of}
use Rattle.rules.specs.Definitions.Registers.{both}
use Rattle.rules.specs.Definitions.Reception.{at_place, begun, moved, entered, bit_taken, bits_laid, nibble_taken, data_ended, follow_start, follow_body, follow_acknowledge, follow_end, follow_in, followed, under_way, is_under_way, command_ended, winner_taken}
use Rattle.rules.specs.Definitions.Hearing.{line_after, reception_after, hear_frame, hear_in, ends_well}
use Rattle.rules.specs.Definitions.Attempt.{drives_frame, is_driving, is_answered, is_answering, in_service, is_serving, between_attempts, is_between, waits, is_waiting, at_stage, judge_slot, level_at, advance}
use Rattle.rules.specs.Definitions.Service.{role_of, own_frame, hear_own, stopped, started}
use Rattle.rules.specs.Definitions.State.{is_active, serving, idle_due}
use Rattle.rules.specs.Definitions.Slots.{role_in, verdict_as, verdict, reply_verdict, heard_as, heard, service_judged, core_judged, reception_judged, reply_after, chooses, choice_made, start_made, follows_on, judged_slot, sampled_slot, drives, drives_as, ended}
use Rattle.rules.specs.Definitions.Answers.{controller}
use Rattle.rules.specs.declared.Phase.{Phase}
use Rattle.rules.specs.declared.Phase.TheVariants.{Quiet, Start, Body, Acknowledge, End}
use Rattle.rules.specs.declared.Stage.{Stage}
use Rattle.rules.specs.declared.Stage.TheVariants.{Resting, Waiting, Opening, Sending, Receiving}
use Rattle.rules.specs.declared.Role.{Role}
use Rattle.rules.specs.declared.Role.TheVariants.{Nobody, Receiver, Sender}
use Rattle.rules.specs.declared.Hearing.{Hearing}
use Rattle.rules.specs.declared.Hearing.TheVariants.{Silent, Follows, Fault, Good}
use Rattle.rules.specs.declared.Verdict.{Verdict}
use Rattle.rules.specs.declared.Verdict.TheVariants.{Unjudged, Goes, Lost, Failed, Done, Answered}
use Rattle.rules.specs.declared.Coded.{Coded}
use Rattle.rules.specs.declared.Effort.{Effort}
use Rattle.rules.specs.declared.ImmediateReply.{ImmediateReply}
use Rattle.rules.specs.declared.Reception.{Reception}
use Rattle.rules.specs.declared.Core.{Core}
use Rattle.rules.proofs.Logic.{both_true, both_false, not_true, left}
use Rattle.attempt.specs.Following.{following}
use Rattle.judging.specs.Ordinary.{passes, goes, stays}
use Rattle.judging.specs.Judged as judged
use Rattle.judging.proofs.Ways as ways
use Rattle.slots.specs.Follow.{own_dominant, turning, is_resting, is_followed, is_going, receives, sends}

-- ---- neither map nor registers change

module _ (m : List ℕ) (k : Core) (v : ℕ) where
  abbrev w : Verdict
  w = verdict k v

  abbrev q : Verdict
  q = reply_verdict (role_in k) k v

  abbrev h : Hearing
  h = heard k w v

  abbrev frame : Reception
  frame = reception_judged m h k.reception v

  -- line, frame, service and reply once the sample is judged
  abbrev pub judged_core : Core
  judged_core =
      with_reply (with_service (with_reception (with_line k (line_after h k.line v)) frame) (service_judged w k.service)) (reply_after (role_in k) m k q frame)

  pub plainly : passes h ≡ true → stays w k.service ≡ true → sampled_slot (controller m k) v ≡ controller m (follows_on m judged_core)
  unfolding sampled_slot judged_slot core_judged
  plainly p s =
      rw (← (ways.memory_kept k w q h (ways.reply_marked k v) p s m), ← (ways.report_kept k w q h (ways.reply_marked k v) p s), ← (ways.service_kept k w q h (ways.reply_marked k v) p s))

-- ---- the frame that is followed is under way

follows_on_lem : (p : Phase) (r : Reception) (v : ℕ) → r.place.phase ≡ p → is_under_way (follow_in p r v).place.phase ≡ true
unfolding follow_in begun is_under_way follow_start follow_body follow_acknowledge follow_end moved entered bit_taken nibble_taken data_ended bits_laid at_place
follows_on_lem Quiet r v e = refl
follows_on_lem Start r v e = left (λ (t : Reception). is_under_way t.place.phase) (ltb r.place.at 9) (moved r) (entered r Body) true (ap is_under_way e) refl
follows_on_lem Body r v e =
    left (λ (t : Reception). is_under_way t.place.phase) (ltb r.place.at 4) (bit_taken r v) (pick (eqb v (r.bits % 2)) (data_ended r) (nibble_taken r)) true (ap is_under_way e)
    (left (λ (t : Reception). is_under_way t.place.phase) (eqb v (r.bits % 2)) (data_ended r) (nibble_taken r) true refl refl)
follows_on_lem Acknowledge r v e = left (λ (t : Reception). is_under_way t.place.phase) (eqb r.place.at 0) (bit_taken r v) (entered r End) true (ap is_under_way e) refl
follows_on_lem End r v e = left (λ (t : Reception). is_under_way t.place.phase) (ltb r.place.at 7) (moved r) r true (ap is_under_way e) (ap is_under_way e)

going_on : (m : List ℕ) (r : Reception) (v : ℕ) → under_way (reception_judged m Follows r v).place ≡ true
unfolding under_way reception_judged reception_after winner_taken followed
going_on m r v =
    let e : is_under_way (follow_in r.place.phase r v).place.phase ≡ true = follows_on_lem r.place.phase r v refl in
    left (λ (t : Reception). is_under_way t.place.phase) (command_ended (follow_in r.place.phase r v)) (winner_taken (follow_in r.place.phase r v) m) (follow_in r.place.phase r v) true e e

-- ---- another module's frame

followed_is : (h : Hearing) → is_followed h ≡ true → h ≡ Follows
unfolding is_followed
followed_is Silent e = absurd (false≢true e)
followed_is Follows e = refl
followed_is (Fault code) e = absurd (false≢true e)
followed_is Good e = absurd (false≢true e)

resting_is : (p : Stage) → is_resting p ≡ true → p ≡ Resting
unfolding is_resting
resting_is Resting e = refl
resting_is Waiting e = absurd (false≢true e)
resting_is Opening e = absurd (false≢true e)
resting_is Sending e = absurd (false≢true e)
resting_is Receiving e = absurd (false≢true e)

-- with no frame under way a sample is no part of one
followed_under_way : (r : Reception) (v : ℕ) (p : Phase) → is_followed (hear_in p r capacity v) ≡ true → is_under_way p ≡ true
unfolding hear_in is_followed is_under_way
followed_under_way r v Quiet e = absurd (false≢true e)
followed_under_way r v Start e = refl
followed_under_way r v Body e = refl
followed_under_way r v Acknowledge e = refl
followed_under_way r v End e = refl

module _ (m : List ℕ) (k : Core) (v : ℕ) (r : receives k v ≡ true) where
  abbrev split : (is_resting k.service.effort.progress.stage ≡ true) × (both (not k.reply.going) (is_followed (hear_frame k.reception capacity v)) ≡ true)
  unfolding receives
  split = both_true (is_resting k.service.effort.progress.stage) _ r

  abbrev rests : k.service.effort.progress.stage ≡ Resting
  rests = resting_is k.service.effort.progress.stage split.0

  abbrev silent : k.reply.going ≡ false
  silent = not_true k.reply.going (both_true (not k.reply.going) _ split.1).0

  abbrev is_heard : is_followed (hear_frame k.reception capacity v) ≡ true
  is_heard = (both_true (not k.reply.going) _ split.1).1

  on_line : under_way k.reception.place ≡ true
  unfolding under_way hear_frame
  on_line = followed_under_way k.reception v k.reception.place.phase is_heard

  role_is : role_in k ≡ Receiver
  unfolding role_of drives_frame is_driving is_answered is_answering
  role_is = rw (rests, silent, on_line)

  unjudged : verdict k v ≡ Unjudged
  unfolding verdict verdict_as
  unjudged = ap (λ (x : Role). verdict_as x k v) role_is

  unreplied : reply_verdict (role_in k) k v ≡ Unjudged
  unfolding reply_verdict
  unreplied = ap (λ (x : Role). reply_verdict x k v) role_is

  heard_is : heard k (verdict k v) v ≡ Follows
  unfolding heard heard_as
  heard_is = (λ i. heard_as (role_is i) k (unjudged i) v) ∙ followed_is _ is_heard

  going : stays Unjudged k.service ≡ true
  unfolding stays goes stopped between_attempts is_between
  going = rw rests

  abbrev received : Core
  received = with_reply (with_reception k (reception_judged m Follows k.reception v)) (reply_after Receiver m k Unjudged (reception_judged m Follows k.reception v))

  alone : k.activity.waiting ≡ false → follows_on m received ≡ received
  unfolding follows_on idle_due choice_made chooses start_made started waits is_waiting
  alone w = rw (w, going_on m k.reception v, both_false (not (serving k.service)), both_false (is_active k.activity.mode), rests)

  received_state : k.activity.waiting ≡ false → controller m received ≡ sampled_slot (controller m k) v
  unfolding line_after service_judged advance passes
  received_state w =
      sym
      (plainly m k v (ap passes heard_is) (ap (λ (x : Verdict). stays x k.service) unjudged ∙ going)
      ∙ (λ i.
      controller m
      (follows_on m
      (with_reply
      (with_service
      (with_reception (with_line k (line_after (heard_is i) k.line v)) (reception_judged m (heard_is i) k.reception v))
      (service_judged (unjudged i) k.service))
      (reply_after (role_is i) m k (unreplied i) (reception_judged m (heard_is i) k.reception v)))))
      ∙ ap (controller m) (alone w))

  pub received_as : (t : Reception) (y : ImmediateReply) → t ≡ reception_judged m Follows k.reception v → y ≡ judged.reply_after Receiver m k.reply Unjudged t → k.activity.waiting ≡ false → controller m (with_reply (with_reception k t) y) ≡ sampled_slot (controller m k) v
  received_as t y e d w =
      let z : y ≡ reply_after Receiver m k Unjudged (reception_judged m Follows k.reception v) =
      d ∙ ap (λ (x : Reception). judged.reply_after Receiver m k.reply Unjudged x) e ∙ ways.reply_after_is Receiver m k Unjudged (reception_judged m Follows k.reception v) in
      (λ i. controller m (with_reply (with_reception k (e i)) (z i))) ∙ received_state w

  pub received_on : false ≡ ended (controller m k) v
  unfolding ended ends_well
  received_on = sym (ap ends_well heard_is)

pub unturned : (control : ℕ) (k t : Core) (v : ℕ) → receives k v ≡ true → false ≡ turning control k t
unfolding turning own_dominant own_frame
unturned control k t v r = go (compares_transmission control) where
  go : (b : Bool) → false ≡ both (pick b (both (own_frame (role_in k)) (eqb (drives k) 0)) false) (eqb (drives t) 1)
  go true = rw (role_is [] k v r)
  go false = refl

-- ---- the model's own frame

going_is : (x : Verdict) → is_going x ≡ true → x ≡ Goes
unfolding is_going
going_is Unjudged e = absurd (false≢true e)
going_is Goes e = refl
going_is Lost e = absurd (false≢true e)
going_is (Failed code) e = absurd (false≢true e)
going_is Done e = absurd (false≢true e)
going_is Answered e = absurd (false≢true e)

-- the next slot has its number
pub room : (x : Verdict) (at : ℕ) → following x at < 65536 → is_going x ≡ true → at + 1 < 65536
unfolding following
room x at l e = subst (λ (y : Verdict). following y at < 65536) (going_is x e) l

module _ (m : List ℕ) (k : Core) (v : ℕ) (r : sends k v ≡ true) where
  abbrev both_of : (drives_frame k.service.effort.progress ≡ true) × (is_going (judge_slot k.service.effort.frame k.service.effort.progress.at v) ≡ true)
  unfolding sends
  both_of = both_true (drives_frame k.service.effort.progress) _ r

  sender : role_in k ≡ Sender
  unfolding role_of
  sender = rw both_of.0

  goes_on : verdict k v ≡ Goes
  unfolding verdict verdict_as
  goes_on = ap (λ (x : Role). verdict_as x k v) sender ∙ going_is _ both_of.1

  unanswered : reply_verdict (role_in k) k v ≡ Unjudged
  unfolding reply_verdict
  unanswered = ap (λ (x : Role). reply_verdict x k v) sender

  own_heard : heard k (verdict k v) v ≡ Follows
  unfolding heard heard_as hear_own
  own_heard = λ i. heard_as (sender i) k (goes_on i) v

  abbrev sent : Core
  sent = with_service (with_reception k (reception_judged m Follows k.reception v)) (service_judged Goes k.service)

  sent_alone : k.activity.waiting ≡ false → follows_on m sent ≡ sent
  unfolding follows_on idle_due choice_made chooses start_made started waits is_waiting serving in_service is_serving service_judged advance at_stage
  sent_alone w = rw (w, both_false (is_active k.activity.mode))

  sent_state : k.activity.waiting ≡ false → controller m sent ≡ sampled_slot (controller m k) v
  unfolding line_after passes reply_after stays
  sent_state w =
      sym
      (plainly m k v (ap passes own_heard) (ap (λ (x : Verdict). stays x k.service) goes_on)
      ∙ (λ i.
      controller m
      (follows_on m
      (with_reply
      (with_service
      (with_reception (with_line k (line_after (own_heard i) k.line v)) (reception_judged m (own_heard i) k.reception v))
      (service_judged (goes_on i) k.service))
      (reply_after (sender i) m k (unanswered i) (reception_judged m (own_heard i) k.reception v)))))
      ∙ ap (controller m) (sent_alone w))

  pub sent_as : (t : Reception) (x : Effort) → t ≡ reception_judged m Follows k.reception v → x ≡ advance Goes k.service.effort → k.activity.waiting ≡ false → controller m (with_service (with_reception k t) (with_effort k.service x)) ≡ sampled_slot (controller m k) v
  unfolding service_judged
  sent_as t x e d w = (λ i. controller m (with_service (with_reception k (e i)) (with_effort k.service (d i)))) ∙ sent_state w

  pub sent_on : false ≡ ended (controller m k) v
  unfolding ended ends_well
  sent_on = sym (ap ends_well own_heard)

pub sent_level : (k : Core) (t : Reception) (x : Effort) → x ≡ advance Goes k.service.effort → drives_as Sender (with_service (with_reception k t) (with_effort k.service x)) ≡ drives (with_service (with_reception k t) (with_effort k.service x))
unfolding drives role_of drives_frame is_driving advance at_stage
sent_level k t x e = rw e
