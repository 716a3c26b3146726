-- Demand 3 over an event, of the tally that is stepped with the controller's own mode, line and frame.
use Prim.Native.Nat.{ℕ, ◌+◌, ◌≤◌, ◌<◌, ◌%◌}
use mathlib.Core.Bool.{Bool, true, false, not, false≢true}
use mathlib.Core.List.{List}
use mathlib.Core.Path.{◌≡◌, refl, ap, ◌∙◌, sym, subst}
use native.Mathlib.Omega.{arith}
use borrow.Author.Tests.{lt-ltb, le-ltb, ltb-true}
use lib.Dec.{eqb, ltb}
use lib.ListN.{length, get_or}
use Rattle.line.specs.Bits.{pick, Below}
use Rattle.line.specs.Frame.{Fits}
use Rattle.rules.specs.Definitions.Registers.{both, CV, BOV, reset_report}
use Rattle.rules.specs.Definitions.Mailbox.{coded}
use Rattle.rules.specs.Definitions.Reception.{free, takes_start}
use Rattle.rules.specs.Definitions.Hearing.{fits, hear_frame, hear_quiet}
use Rattle.rules.specs.Definitions.Delivery.{delivered, delivery_to, delivery_of}
use Rattle.rules.specs.Definitions.Attempt.{level_at, judge_slot, drives_frame, is_driving, is_answered, is_answering, at_stage, is_between, between_attempts}
use Rattle.rules.specs.Definitions.Service.{resting, stopped, ending_of, settled, good_for, answered_as, fulfils}
use Rattle.rules.specs.Definitions.Longest.{capacity, longest_of}
use Rattle.rules.specs.Definitions.State.{is_active, reset_core, slept}
use Rattle.rules.specs.Definitions.Slots.{role_in, reply_verdict, heard_as, heard, delivers, verdict_as, verdict, service_judged, ending, memory_judged, core_judged, drives_as, drives, sample_of, judged_slot, sampled_slot, active_slot, resting_slot}
use Rattle.rules.specs.Definitions.Host.{reset_all, resets, sleeps, core_written, service_asked, byte_written, host_written}
use Rattle.rules.specs.Definitions.Run as run
use Rattle.rules.specs.Definitions.Run.{fresh, rested_slot, step, next}
use Rattle.line.proofs.Laws.{pick_same}
use Rattle.rules.proofs.Logic.{both_true, both_false}
use Rattle.every_run.proofs.Roles.{RoleIs, sends, asks, replying, receives, rests, role_is, role_sender, role_asker}
use Rattle.rules.proofs.Samples.{sample_small}
use Rattle.every_run.proofs.Ranges.Limits.{Fine}
use Rattle.every_run.proofs.Sending.Join.{made, service_in, service_of, settled_is, request_same, slot_settled, asked_is, driven_in, attempting, Replies, on, off, well, JudgedIn}
use Rattle.every_run.proofs.Sending.Follow.{is_exhausted, te_judged, follows_te, follows_service, written_te, stopped_service, stopped_te}
use Rattle.every_run.proofs.Sending.Ends.{stopped_is, exhausts_rest, tells}
use Rattle.every_run.proofs.Ranges.Reach.{fine_next}
use Rattle.every_run.specs.Tally.{Stand, away, between, opening, inside, answered, Tally, none, taken, wasted, request_t, counted_in, counted_t, ended_t, asked_t, is_away}
use Rattle.every_run.specs.Observer.{fitting, heard_delivery, is_stored, answer_in, waits, fulfilled_t, accepted}
use Rattle.every_run.specs.Settled.{exhausted_in}
use Rattle.every_run.specs.Sending.{Drives, InSlot, te}
use Rattle.every_run.proofs.Sending.Beside.{answer_c, seen_in, follow_t, after_slot, ended_c, seen_t, next_t, Holds}
use Rattle.every_run.proofs.Sending.Frames.{level_coded}
use Rattle.every_run.proofs.Steps.{Step, refusal, reset, wrote, gave, went, rested, with_diagnosis_c, refused_next, refused_seen, refused_tally, refused_not, accepted_next, accepted_seen, accepted_tally, went_next, rested_next}
use Rattle.diagnosis.specs.declared.Diagnosis.{Diagnosis}
use Rattle.every_run.proofs.Sending.Bound.{Good, level_in, Coming, drives_in, bounded_now, good_none, pick_good, ended_good, counted_good, after_good, asked_good}
use Rattle.rules.specs.declared.Line.{Line}
use Rattle.rules.specs.declared.Reception.{Reception}
use Rattle.rules.specs.declared.Hearing.{Hearing}
use Rattle.rules.specs.declared.Hearing.TheVariants as hearing
use Rattle.rules.specs.declared.Hearing.TheVariants.{Silent, Follows, Fault}
use Rattle.rules.specs.declared.Delivery.{Delivery}
use Rattle.rules.specs.declared.Delivery.TheVariants as delivery
use Rattle.rules.specs.declared.Verdict.{Verdict}
use Rattle.rules.specs.declared.Verdict.TheVariants.{Unjudged}
use Rattle.rules.specs.declared.Ending.TheVariants.{Fulfilled}
use Rattle.rules.specs.declared.Stage.{Stage}
use Rattle.rules.specs.declared.Stage.TheVariants.{Waiting, Opening, Sending}
use Rattle.rules.specs.declared.Service.{Service}
use Rattle.rules.specs.declared.Role.{Role}
use Rattle.rules.specs.declared.Role.TheVariants.{Receiver, Sender, Replier}
use Rattle.rules.specs.declared.Core.{Core}
use Rattle.rules.specs.declared.Controller.{Controller}
use Rattle.rules.specs.declared.Event.{Event}
use Rattle.rules.specs.declared.Event.TheVariants.{Reset, Write, Read, Slot}

-- controller and tally belong together
pub record Joined (c : Controller) (t : Tally) : Type 0 where
  pub service : c.core.service ≡ service_of t
  pub good : Good (longest_of c.core) t

-- ---- the level driven

sends_role : (k : Core) (t : Tally) (stage : Stage) (at : ℕ) → is_driving stage ≡ true → k.service ≡ made t stage at → role_in k ≡ Sender
unfolding drives_frame made at_stage
sends_role k t stage at b e = role_sender k.service.effort.progress k.reply.going k.reception.place (rw (e, b))

sends_level : (k : Core) (t : Tally) (stage : Stage) (at : ℕ) → is_driving stage ≡ true → k.service ≡ made t stage at → drives k ≡ level_at (coded t.frame) at
unfolding drives drives_as
sends_level k t stage at b e =
    ap (λ (x : Role). drives_as x k) (sends_role k t stage at b e) ∙ ap (λ (s : Service). level_at s.effort.frame s.effort.progress.at) e ∙ unfold made at_stage in refl

drives_is : (s : Stand) (t : Tally) (k : Core) → k.service ≡ service_in s t → attempting s ≡ true → drives k ≡ driven_in s t
drives_is away t k e a = absurd (false≢true (unfold attempting in a))
drives_is between t k e a = absurd (false≢true (unfold attempting in a))
drives_is (opening start) t k e a = unfold driven_in in sends_level k t Opening start (unfold is_driving in refl) (unfold service_in in e)
drives_is (inside start levels) t k e a = unfold driven_in in sends_level k t Sending (start + length levels) (unfold is_driving in refl) (unfold service_in in e)
drives_is (answered start n) t k e a = absurd (false≢true (unfold attempting in a))

frame_level : (s : Stand) (t : Tally) → Fits capacity t.frame × (t.frame.acknowledge ≡ false) → driven_in s t ≡ level_in s t.frame
unfolding driven_in level_in
frame_level away t f = refl
frame_level between t f = refl
frame_level (opening start) t f = level_coded t.frame f.0 f.1 start
frame_level (inside start levels) t f = level_coded t.frame f.0 f.1 (start + length levels)
frame_level (answered start n) t f = refl

-- an attempt that drives is a service
attempt_serves : (s : Stand) → attempting s ≡ true → is_away s ≡ false
unfolding attempting is_away
attempt_serves away a = absurd (false≢true a)
attempt_serves between a = refl
attempt_serves (opening start) a = refl
attempt_serves (inside start levels) a = refl
attempt_serves (answered start n) a = refl

module _ (c : Controller) (t : Tally) (j : Joined c t) where
  pub driven_is : attempting t.stand ≡ true → drives c.core ≡ driven_in t.stand t
  driven_is a = drives_is t.stand t c.core (unfold service_of in j.service) a

  pub level_is : attempting t.stand ≡ true → drives c.core ≡ level_in t.stand t.frame
  level_is a = driven_is a ∙ frame_level t.stand t (j.good.fits (attempt_serves t.stand a))

-- ---- what a sample is for the attempt

good_replies : (d : Delivery) → Replies (good_for d) (pick (is_stored d) taken wasted)
unfolding good_for is_stored
good_replies delivery.Nothing = off CV
good_replies delivery.Stored = well
good_replies delivery.Overflowed = off BOV
good_replies delivery.Spoiled = off CV

-- the delivery as the claims say it
pub delivery_heard : (h : Hearing) (r : Reception) → delivery_of h r ≡ heard_delivery h r
unfolding delivery_of delivery_to heard_delivery delivered fits fitting
delivery_heard Silent r = pick_same r.winner.matched delivery.Nothing
delivery_heard Follows r = pick_same r.winner.matched delivery.Nothing
delivery_heard (Fault code) r = refl
delivery_heard hearing.Good r = refl

answer_replies : (h : Hearing) (r : Reception) → Replies (answered_as h (delivery_of h r)) (answer_in h r)
unfolding answered_as answer_in
answer_replies Silent r = on
answer_replies Follows r = on
answer_replies (Fault code) r = off code
answer_replies hearing.Good r = rw (delivery_heard hearing.Good r) (good_replies (heard_delivery hearing.Good r))

-- outside an attempt nothing is judged
apart_verdict : (k : Core) (v : ℕ) → drives_frame k.service.effort.progress ≡ false → is_answered k.service.effort.progress ≡ false → verdict k v ≡ Unjudged
unfolding verdict
apart_verdict k v d a = go (role_is k.service.effort.progress k.reply.going k.reception.place)
  where
    go : {x : Role} → RoleIs k.service.effort.progress k.reply.going k.reception.place x → verdict_as x k v ≡ Unjudged
    go (sends e) = absurd (false≢true (sym d ∙ e))
    go (asks e i) = absurd (false≢true (sym a ∙ i))
    go (replying e i y) = unfold verdict_as in refl
    go (receives e i y u) = unfold verdict_as in refl
    go (rests e i y u) = unfold verdict_as in refl

own_verdict : (k : Core) (t : Tally) (stage : Stage) (at v : ℕ) → is_driving stage ≡ true → k.service ≡ made t stage at → verdict k v ≡ judge_slot (coded t.frame) at v
unfolding verdict verdict_as
own_verdict k t stage at v b e =
    ap (λ (x : Role). verdict_as x k v) (sends_role k t stage at b e) ∙ ap (λ (s : Service). judge_slot s.effort.frame s.effort.progress.at v) e ∙ unfold made at_stage in refl

asker_verdict : (k : Core) (v : ℕ) → drives_frame k.service.effort.progress ≡ false → is_answered k.service.effort.progress ≡ true
    → verdict k v ≡ answered_as (hear_frame k.reception (longest_of k) v) (delivery_of (hear_frame k.reception (longest_of k) v) k.reception)
unfolding verdict verdict_as
asker_verdict k v d a = ap (λ (x : Role). verdict_as x k v) (role_asker k.service.effort.progress k.reply.going k.reception.place d a)

judged_in : (s : Stand) (t : Tally) (k : Core) (v : ℕ) → k.service ≡ service_in s t → JudgedIn s t v (answer_in (hear_frame k.reception (longest_of k) v) k.reception) (verdict k v)
unfolding service_in
judged_in away t k v e = apart_verdict k v (rw e (unfold resting at_stage drives_frame is_driving in refl)) (rw e (unfold resting at_stage is_answered is_answering in refl))
judged_in between t k v e = apart_verdict k v (rw e (unfold made at_stage drives_frame is_driving in refl)) (rw e (unfold made at_stage is_answered is_answering in refl))
judged_in (opening start) t k v e = own_verdict k t Opening start v (unfold is_driving in refl) e
judged_in (inside start levels) t k v e = own_verdict k t Sending (start + length levels) v (unfold is_driving in refl) e
judged_in (answered start n) t k v e =
    rw (asker_verdict k v (rw e (unfold made at_stage drives_frame is_driving in refl)) (rw e (unfold made at_stage is_answered is_answering in refl)))
    (answer_replies (hear_frame k.reception (longest_of k) v) k.reception)

-- ---- a waiting request that is fulfilled

pub never_fulfils : (d : Delivery) (r : Reception) (s : Service) → between_attempts s.effort.progress ≡ false → fulfils d r s ≡ false
unfolding fulfils
never_fulfils delivery.Nothing r s e = refl
never_fulfils delivery.Stored r s e = rw e
never_fulfils delivery.Overflowed r s e = refl
never_fulfils delivery.Spoiled r s e = refl

-- a stored reply, of a waiting request
stored_fulfils : (d : Delivery) (r : Reception) (t : Tally) → fulfils d r (made t Waiting 0) ≡ both (both true (request_t t.frame)) (both (not false) (both (is_stored d) (both (eqb r.winner.channel t.channel) (eqb (get_or r.bytes 1 0 % 4) 2))))
unfolding fulfils is_stored made at_stage between_attempts is_between
stored_fulfils delivery.Nothing r t = sym (both_false (request_t t.frame))
stored_fulfils delivery.Stored r t = rw (request_same t.frame)
stored_fulfils delivery.Overflowed r t = sym (both_false (request_t t.frame))
stored_fulfils delivery.Spoiled r t = sym (both_false (request_t t.frame))

-- on a quiet line nothing is delivered
quiet_nothing : (l : Line) (v : ℕ) (r : Reception) → is_stored (heard_delivery (hear_quiet l v) r) ≡ false
unfolding hear_quiet
quiet_nothing l v r = go (eqb v 0) (takes_start l)
  where
    go : (a b : Bool) → is_stored (heard_delivery (pick a (pick b Follows Silent) Silent) r) ≡ false
    go true true = unfold heard_delivery is_stored in refl
    go true false = unfold heard_delivery is_stored in refl
    go false b = unfold heard_delivery is_stored in refl

module _ (k : Core) (t : Tally) (w : Verdict) (v : ℕ) (e : k.service ≡ made t Waiting 0) where
  abbrev Fulfils : Role → Bool → Type 0
  Fulfils x y = fulfils (delivers x (heard_as x k w v) k.reception) k.reception k.service
      ≡ both (both true (request_t t.frame)) (both (not y) (both (is_stored (heard_delivery (heard_as x k w v) k.reception)) (both (eqb k.reception.winner.channel t.channel) (eqb (get_or k.reception.bytes 1 0 % 4) 2))))

  apart : drives_frame k.service.effort.progress ≡ false
  apart = rw e (unfold made at_stage drives_frame is_driving in refl)

  unanswered : is_answered k.service.effort.progress ≡ false
  unanswered = rw e (unfold made at_stage is_answered is_answering in refl)

  waiting_fulfils : {x : Role} → RoleIs k.service.effort.progress k.reply.going k.reception.place x → Fulfils x k.reply.going
  waiting_fulfils (sends d) = absurd (false≢true (sym apart ∙ d))
  waiting_fulfils (asks d a) = absurd (false≢true (sym unanswered ∙ a))
  waiting_fulfils (replying d a y) = subst (λ (b : Bool). Fulfils Replier b) (sym y) (unfold delivers fulfils in sym (both_false (request_t t.frame)))
  waiting_fulfils (receives d a y u) = subst (λ (b : Bool). Fulfils Receiver b) (sym y) received
    where
      received : Fulfils Receiver false
      received =
          let x : Hearing = heard_as Receiver k w v in
          unfold delivers in
          (ap (λ (s : Service). fulfils (delivery_of x k.reception) k.reception s) e ∙ ap (λ (d : Delivery). fulfils d k.reception (made t Waiting 0)) (delivery_heard x k.reception)
          ∙ stored_fulfils (heard_delivery x k.reception) k.reception t)
  waiting_fulfils (rests d a y u) = unfold delivers fulfils heard_as in (rw (quiet_nothing k.line v k.reception) (none (request_t t.frame) k.reply.going))
    where
      none : (a b : Bool) → false ≡ both (both true a) (both (not b) (both false (both (eqb k.reception.winner.channel t.channel) (eqb (get_or k.reception.bytes 1 0 % 4) 2))))
      none true true = refl
      none true false = refl
      none false b = refl

fulfils_in : (s : Stand) (k : Core) (t : Tally) (w : Verdict) (v : ℕ) → t.stand ≡ s → k.service ≡ service_in s t
    → fulfils (delivers (role_in k) (heard k w v) k.reception) k.reception k.service ≡ fulfilled_t t k.reply.going k.reception (heard k w v)
unfolding fulfilled_t service_in
fulfils_in away k t w v i e = rw i (never_fulfils _ k.reception k.service (rw e (unfold resting at_stage between_attempts is_between in refl)) ∙ unfold waits in refl)
fulfils_in between k t w v i e = rw i (unfold waits heard in waiting_fulfils k t w v e (role_is k.service.effort.progress k.reply.going k.reception.place))
fulfils_in (opening start) k t w v i e = rw (i, sends_role k t Opening start (unfold is_driving in refl) e) (unfold delivers fulfils waits in refl)
fulfils_in (inside start levels) k t w v i e = rw (i, sends_role k t Sending (start + length levels) (unfold is_driving in refl) e) (unfold delivers fulfils waits in refl)
fulfils_in (answered start n) k t w v i e = rw i (never_fulfils _ k.reception k.service (rw e (unfold made at_stage between_attempts is_between in refl)) ∙ unfold waits in refl)

-- ---- between attempts errors are at most R, so that nothing but a slot exhausts a service

never_exhausted : {longest : ℕ} (t : Tally) → Good longest t → is_exhausted (stopped (service_of t)) ≡ false
unfolding exhausted_in
never_exhausted t g = ap is_exhausted (stopped_is t g.errors g.setting) ∙ exhausts_rest t ∙ le-ltb t.setting t.errors g.errors

-- ---- a host write

module _ (c : Controller) (t : Tally) (j : Joined c t) (a v : ℕ) where
  pub asked_same : service_asked c.core.service a v ≡ service_of (asked_t t a v)
  asked_same = ap (λ (s : Service). service_asked s a v) j.service ∙ asked_is t a v

  pub small_errors : (asked_t t a v).errors ≤ 16
  small_errors = let g = asked_good t a v j.good in omega (arith, g.errors, g.setting)

  pub settled_asked : settled (stopped (service_asked c.core.service a v)) (service_asked c.core.service a v) ≡ service_of (ended_t (asked_t t a v))
  settled_asked = ap (λ (s : Service). settled (stopped s) s) asked_same ∙ settled_is (asked_t t a v) small_errors

  byte_joined : (byte_written c a v).core.service ≡ service_of (ended_t (asked_t t a v))
  unfolding byte_written
  byte_joined = stopped_service (core_written c.core a v) (service_asked c.core.service a v) ∙ settled_asked

  byte_te : te c ≡ false → te (byte_written c a v) ≡ false
  unfolding byte_written
  byte_te e =
      let x : is_exhausted (stopped (service_asked c.core.service a v)) ≡ false = ap (λ (s : Service). is_exhausted (stopped s)) asked_same ∙ never_exhausted (asked_t t a v) (asked_good t a v j.good) in
      stopped_te (core_written c.core a v) (service_asked c.core.service a v) ∙ rw x (written_te c.core a v e)

  pub wrote_joined : Joined (host_written c a v) (pick (resets a v) none (pick (sleeps a v) none (ended_t (asked_t t a v))))
  unfolding host_written
  wrote_joined = go (resets a v) (sleeps a v)
    where
      go : (x y : Bool) → Joined (pick x (reset_all c) (pick y (record { memory = c.memory; core = slept c.core }) (byte_written c a v))) (pick x none (pick y none (ended_t (asked_t t a v))))
      go true y = record { service = unfold reset_all reset_core service_of service_in none in refl; good = good_none }
      go false true = record { service = unfold slept service_of service_in none in refl; good = good_none }
      go false false = record { service = byte_joined; good = ended_good (asked_t t a v) (asked_good t a v j.good) }

  pub wrote_te : te c ≡ false → te (host_written c a v) ≡ false
  unfolding host_written
  wrote_te e = go (resets a v) (sleeps a v)
    where
      go : (x y : Bool) → te (pick x (reset_all c) (pick y (record { memory = c.memory; core = slept c.core }) (byte_written c a v))) ≡ false
      go true y = unfold reset_all reset_core reset_report in refl
      go false true = unfold slept in e
      go false false = byte_te e

-- ---- a slot of an active controller

module _ (c : Controller) (t : Tally) (j : Joined c t) (v : ℕ) where
  few : t.errors ≤ 15
  few = omega (arith, j.good.errors, j.good.setting)

  abbrev w : Verdict
  w = verdict c.core v

  abbrev h : Hearing
  h = heard c.core w v

  abbrev q : Verdict
  q = reply_verdict (role_in c.core) c.core v

  abbrev counted : Tally
  counted = counted_t t (drives c.core) v (answer_c c v)

  pub is_judged : JudgedIn t.stand t v (answer_c c v) w
  is_judged = judged_in t.stand t c.core v (unfold service_of in j.service)

  pub is_fulfilled : fulfils (delivers (role_in c.core) h c.core.reception) c.core.reception c.core.service ≡ fulfilled_t t c.core.reply.going c.core.reception h
  is_fulfilled = fulfils_in t.stand c.core t w v refl (unfold service_of in j.service)

  pub sampled_service : (m : List ℕ) → (core_judged m c.core w q h v).service ≡ service_of (ended_c c t v)
  unfolding core_judged ending ended_c
  sampled_service m = rw is_fulfilled (go (fulfilled_t t c.core.reply.going c.core.reception h))
    where
      go : (b : Bool) → settled (pick b Fulfilled (ending_of w (service_judged w c.core.service))) (service_judged w c.core.service) ≡ service_of (pick b none (ended_t counted))
      go true = unfold settled service_of service_in none in refl
      go false = slot_settled c.core.service t (drives c.core) v (answer_c c v) w j.service is_judged (driven_is c t j) few

  slot_joined : (sampled_slot c v).core.service ≡ service_of (after_slot (ended_c c t v) (sampled_slot c v))
  unfolding sampled_slot judged_slot after_slot
  slot_joined = follows_service _ _ (ended_c c t v) (sampled_service _)

  -- a service that waits has at most R errors
  waits_few : (b : Bool) → fulfilled_t t c.core.reply.going c.core.reception h ≡ b → pick b false (ltb counted.setting counted.errors) ≡ ltb counted.setting counted.errors
  waits_few true e = sym (still t.stand refl (waiting_stand e))
    where
      waiting_stand : fulfilled_t t c.core.reply.going c.core.reception h ≡ true → waits t.stand ≡ true
      waiting_stand e = unfold fulfilled_t in (both_true (waits t.stand) (request_t t.frame) (both_true (both (waits t.stand) (request_t t.frame)) _ (unfold fulfilled_t in e)).0).0

      still : (s : Stand) → t.stand ≡ s → waits s ≡ true → ltb counted.setting counted.errors ≡ false
      still away i a = absurd (false≢true (unfold waits in a))
      still between i a = unfold counted_t in (rw i (unfold counted_in in le-ltb t.setting t.errors j.good.errors))
      still (opening start) i a = absurd (false≢true (unfold waits in a))
      still (inside start levels) i a = absurd (false≢true (unfold waits in a))
      still (answered start n) i a = absurd (false≢true (unfold waits in a))
  waits_few false e = refl

  pub slot_te : te (sampled_slot c v) ≡ pick (ltb counted.setting counted.errors) true (te c)
  unfolding sampled_slot judged_slot core_judged
  slot_te =
      let m : List ℕ = memory_judged c.memory c.core w q h in
      follows_te m (core_judged m c.core w q h v) ∙ te_judged c.core w q h ∙ ap (λ (b : Bool). pick b true (te c)) exhausts_so
    where
      exhausts_so : is_exhausted (ending c.core w h) ≡ ltb counted.setting counted.errors
      exhausts_so = unfold ending exhausted_in in (rw is_fulfilled (go (fulfilled_t t c.core.reply.going c.core.reception h) refl))
        where
          go : (b : Bool) → fulfilled_t t c.core.reply.going c.core.reception h ≡ b → is_exhausted (pick b Fulfilled (ending_of w (service_judged w c.core.service))) ≡ ltb counted.setting counted.errors
          go true e = unfold is_exhausted in waits_few true e
          go false e = unfold exhausted_in in (tells c.core.service t (drives c.core) v (answer_c c v) w j.service is_judged (driven_is c t j) j.good.errors j.good.setting).exhausts

  pub slot_good : Below 256 (sampled_slot c v).memory → Coming (longest_of c.core) t.stand (answer_c c v) → Good (longest_of c.core) (after_slot (ended_c c t v) (sampled_slot c v))
  unfolding after_slot ended_c
  slot_good b y =
      let x : Controller = sampled_slot c v in
      after_good (ended_c c t v) x.memory (longest_of x.core) (is_active x.core.activity.mode) (free x.core.line) x.core.reception b
      (unfold ended_c in pick_good (fulfilled_t t c.core.reply.going c.core.reception h) good_none (counted_good t j.good (drives c.core) v (answer_c c v) y (level_is c t j)).0)

-- ---- every event

-- what holds where the event leaves the tally as it is, and TE too or clears it
module _ (c : Controller) (t : Tally) (e : Event) (j : Joined c t) (same : seen_t c t e ≡ t) (quiet : te c ≡ false → te (next c e) ≡ false) where
  unchanged : (accepted c e ≡ true → InSlot e (Drives t.stand t.frame (drives c.core))) → Holds c t e
  unchanged driven =
      let b = bounded_now t j.good in
      record {
        fits = λ a. (j.good.fits a).0;
        driven = driven;
        errors = rw same b.errors;
        slots = rw same b.slots;
        raised = λ x. absurd (let y : t.errors ≡ t.setting + 1 = rw same at x in omega (arith, j.good.errors));
        only = λ x y. absurd (false≢true (sym (quiet x) ∙ y));
      }

moved : {c d : Controller} {t u : Tally} → c ≡ d → t ≡ u → Joined d u → Joined c t
moved {c} {d} {t} {u} p q j = subst (λ (x : Controller). Joined x t) (sym p) (subst (λ (x : Tally). Joined d x) (sym q) j)

-- the tally does not look at the diagnosis
pub after_beside : (t : Tally) (c : Controller) (x : Diagnosis) → after_slot t (with_diagnosis_c c x) ≡ after_slot t c
unfolding after_slot
after_beside t c x = refl

-- the slot of error R + 1, by the counts of a judged slot
only_then : (b : Bool) (x : Bool) → x ≡ false → pick b true x ≡ true → b ≡ true
only_then true x e h = refl
only_then false x e h = absurd (false≢true (sym e ∙ h))

-- y: an answer that comes is not at its longest
module _ (c : Controller) (t : Tally) (j : Joined c t) (f : Fine c) (y : (v : ℕ) → v < 2 → Coming (longest_of c.core) t.stand (answer_c c v)) where
  slot_claim : (l : ℕ) → is_active c.core.activity.mode ≡ true → step c (Slot l) ≡ run.answered (active_slot c l) → Holds c t (Slot l)
  slot_claim l a h =
      let v : ℕ = sample_of c l in
      let n : next c (Slot l) ≡ with_diagnosis_c (sampled_slot c v) (active_slot c l).core.diagnosis = went_next c t l h in
      let i : seen_in c t (Slot l) ≡ counted_t t (drives c.core) v (answer_c c v) = unfold seen_in in rw a in
      let o : seen_t c t (Slot l) ≡ seen_in c t (Slot l) = unfold run.answered in accepted_seen c t (Slot l) _ (active_slot c l) h in
      let s : seen_t c t (Slot l) ≡ counted_t t (drives c.core) v (answer_c c v) = o ∙ i in
      let b = (counted_good t j.good (drives c.core) v (answer_c c v) (y v (sample_small c l)) (level_is c t j)).1 in
      let x : te (next c (Slot l)) ≡ pick (ltb (counted_t t (drives c.core) v (answer_c c v)).setting (counted_t t (drives c.core) v (answer_c c v)).errors) true (te c) = ap te n ∙ slot_te c t j v in
      record {
        fits = λ u. (j.good.fits u).0;
        driven = λ u. drives_in (longest_of c.core) t.stand t.frame j.good.stands (drives c.core) (level_is c t j);
        errors = rw s b.errors;
        slots = rw s b.slots;
        raised = λ u. x ∙ (let z : (counted_t t (drives c.core) v (answer_c c v)).errors ≡ (counted_t t (drives c.core) v (answer_c c v)).setting + 1 = rw s at u in rw (lt-ltb (counted_t t (drives c.core) v (answer_c c v)).setting (counted_t t (drives c.core) v (answer_c c v)).errors (omega arith)));
        only = λ u z. rw s (let q = ltb-true (counted_t t (drives c.core) v (answer_c c v)).setting (counted_t t (drives c.core) v (answer_c c v)).errors (only_then (ltb (counted_t t (drives c.core) v (answer_c c v)).setting (counted_t t (drives c.core) v (answer_c c v)).errors) (te c) u (sym x ∙ z)) in omega (arith, b.errors));
      }

  pub claim : (e : Event) → Step c e → Holds c t e
  claim e (refusal n h) =
      unchanged c t e j (refused_seen c t e n h) (λ x. ap te (refused_next c t e n h) ∙ x) (λ x. absurd (false≢true (sym (refused_not c t e n h) ∙ x)))
  claim Reset (reset h) =
      unchanged c t Reset j (accepted_seen c t Reset 0 (reset_all c) h ∙ (unfold seen_in in refl)) (λ x. ap te (accepted_next c t Reset 0 (reset_all c) h) ∙ (unfold reset_all reset_core reset_report in refl)) (λ x. tt)
  claim (Write a v) (wrote h) =
      unchanged c t (Write a v) j (accepted_seen c t (Write a v) 0 (host_written c a (v % 256)) h ∙ (unfold seen_in in refl)) (λ x. ap te (accepted_next c t (Write a v) 0 (host_written c a (v % 256)) h) ∙ wrote_te c t j a (v % 256) x) (λ x. tt)
  claim (Read a) (gave value h) =
      unchanged c t (Read a) j (accepted_seen c t (Read a) value c h ∙ (unfold seen_in in refl)) (λ x. ap te (accepted_next c t (Read a) value c h) ∙ x) (λ x. tt)
  claim (Slot l) (went a h) = slot_claim l a h
  claim (Slot l) (rested a h) =
      let i : seen_in c t (Slot l) ≡ t = unfold seen_in in rw a in
      let o : seen_t c t (Slot l) ≡ seen_in c t (Slot l) = unfold rested_slot in accepted_seen c t (Slot l) _ (resting_slot c l) h in
      let n : next c (Slot l) ≡ with_diagnosis_c c (resting_slot c l).core.diagnosis = rested_next c t l h in
      unchanged c t (Slot l) j (o ∙ i) (λ x. ap te n ∙ x) (λ x. drives_in (longest_of c.core) t.stand t.frame j.good.stands (drives c.core) (level_is c t j))

  went_joined : (l : ℕ) → is_active c.core.activity.mode ≡ true → step c (Slot l) ≡ run.answered (active_slot c l) → Joined (next c (Slot l)) (next_t c t (Slot l))
  unfolding run.answered follow_t seen_in
  went_joined l a h =
      let v : ℕ = sample_of c l in
      let n : next c (Slot l) ≡ with_diagnosis_c (sampled_slot c v) (active_slot c l).core.diagnosis = went_next c t l h in
      let o : next_t c t (Slot l) ≡ follow_t c t (Slot l) = accepted_tally c t (Slot l) _ (active_slot c l) h in
      let i : follow_t c t (Slot l) ≡ after_slot (ended_c c t v) (next c (Slot l)) = rw a in
      let b : Below 256 (sampled_slot c v).memory = subst (λ (x : Controller). Below 256 x.memory) n (fine_next c (Slot l) f).memory in
      moved n (o ∙ i ∙ ap (after_slot (ended_c c t v)) n ∙ after_beside (ended_c c t v) (sampled_slot c v) _) (record { service = slot_joined c t j v; good = slot_good c t j v b (y v (sample_small c l)) })

  pub joined_next : (e : Event) → Step c e → Joined (next c e) (next_t c t e)
  joined_next e (refusal n h) = moved (refused_next c t e n h) (refused_tally c t e n h) j
  joined_next Reset (reset h) =
      moved (accepted_next c t Reset 0 (reset_all c) h) (accepted_tally c t Reset 0 (reset_all c) h)
      (unfold follow_t in record { service = unfold reset_all reset_core service_of service_in none in refl; good = good_none })
  joined_next (Write a v) (wrote h) =
      moved (accepted_next c t (Write a v) 0 (host_written c a (v % 256)) h) (accepted_tally c t (Write a v) 0 (host_written c a (v % 256)) h)
      (unfold follow_t in wrote_joined c t j a (v % 256))
  joined_next (Read a) (gave value h) = moved (accepted_next c t (Read a) value c h) (accepted_tally c t (Read a) value c h) (unfold follow_t in j)
  joined_next (Slot l) (went a h) = went_joined l a h
  joined_next (Slot l) (rested a h) =
      let o : next_t c t (Slot l) ≡ follow_t c t (Slot l) = unfold rested_slot in accepted_tally c t (Slot l) _ (resting_slot c l) h in
      let i : follow_t c t (Slot l) ≡ t = unfold follow_t in rw a in
      moved (rested_next c t l h) (o ∙ i) (record { service = j.service; good = j.good })

pub joined_fresh : Joined fresh none
joined_fresh = record { service = unfold fresh reset_all reset_core service_of service_in none in refl; good = good_none }
