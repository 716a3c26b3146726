-- The controller's service and the tally, joined by one equation: each part of a step commutes with it.
use Prim.Native.Nat.{ℕ, ◌+◌, ◌*◌, ◌/◌, ◌%◌, ◌≤◌, min}
use mathlib.Core.Bool.{Bool, true, false, false≢true}
use mathlib.Core.List.{List, [], ◌∷◌, ◌++◌}
use mathlib.Core.Path.{◌≡◌, refl, ap, ◌∙◌, sym}
use native.Mathlib.Omega.{arith}
use borrow.Author.Tests.{ltb-true, ltb-false}
use lib.Dec.{eqb, ltb}
use lib.ListN.{length, get_or, length-append}
use Rattle.std.specs.Prelude.{Option, None, Some}
use Rattle.line.specs.Bits.{pick}
use Rattle.line.specs.Frame.{Frame, size}
use Rattle.line.specs.Layout.{part_of, half_of}
use Rattle.line.specs.declared.Part.{Part}
use Rattle.line.specs.declared.Part.TheVariants as part
use Rattle.line.specs.declared.Half.{Half}
use Rattle.line.specs.declared.Half.TheVariants.{Plain, First, Second}
use Rattle.rules.specs.Definitions.Registers.{both, CV, ACKE, FCSE, command, transmit_control, autonomous, asks_rearbitration}
use Rattle.rules.specs.Definitions.Channels.{acknowledge_asked, base, cher}
use Rattle.rules.specs.Definitions.Mailbox.{asks_reply, coded, coded_bytes}
use Rattle.rules.specs.Definitions.Reception.{free, under_way, start_ended}
use Rattle.rules.specs.Definitions.Attempt.{rtr_slot, is_request, largest, more_slots, more_attempts, no_counts, at_stage, in_service, is_serving, between_attempts, is_between, waits, is_waiting, level_at, due, open_half, arbitrated, in_check, in_acknowledge, difference_in, difference, judge_slot, slot_spent, lost_spent, error_spent, advance, exhausted}
use Rattle.rules.specs.Definitions.Service.{resting, stopped, ending_of, settled, chosen, choice_of, opened, started, abort_asked, rear_asked, aborts}
use Rattle.rules.specs.Definitions.Slots.{service_judged}
use Rattle.rules.specs.Definitions.Host.{rear_commanded, service_asked}
use Rattle.every_run.proofs.Judged as judged
use Rattle.every_run.proofs.Judged.{Judged, went, lost, broke, done, slot_judged}
use Rattle.every_run.specs.Tally as tally
use Rattle.every_run.specs.Tally.{Stand, away, between, opening, inside, answered, Tally, none, goes, contended, failed, sent, answers, Answering, comes, taken, wasted, request_t, replied_as, asks_acknowledge, due_level, verdict, spent_t, judged_as, counted_in, counted_t, given_up, ended_in, ended_t, chosen_t, choice_t, start_in, start_t, asks, asked_in, asked_t, open_half_t, arbitrated_t}
use Rattle.rules.specs.declared.Line.{Line}
use Rattle.rules.specs.declared.Reception.{Reception}
use Rattle.rules.specs.declared.Timeslots.{Timeslots}
use Rattle.rules.specs.declared.Attempts.{Attempts}
use Rattle.rules.specs.declared.Coded.{Coded}
use Rattle.rules.specs.declared.Stage.{Stage}
use Rattle.rules.specs.declared.Stage.TheVariants.{Waiting, Opening, Sending, Receiving}
use Rattle.rules.specs.declared.Counters.{Counters}
use Rattle.rules.specs.declared.Service.{Service}
use Rattle.rules.specs.declared.Verdict.{Verdict}
use Rattle.rules.specs.declared.Verdict.TheVariants.{Unjudged, Goes, Lost, Failed, Done, Answered}
use Rattle.rules.specs.declared.Ending.{Ending}
use Rattle.rules.specs.declared.Ending.TheVariants.{Going, Exhausted, Aborted, Rearbitrated}

-- ---- the service that a tally stands for; stored counts stop at their largest

unfoldable pub counters_of : Tally → Counters
counters_of t =
    record {
      slots = record { 0 = min t.slots largest };
      lost = record { 0 = min t.lost largest };
      errors = record { 0 = min t.errors largest };
    }

unfoldable pub made : Tally → Stage → ℕ → Service
made t stage at =
    record {
      channel = t.channel;
      abort = t.abort;
      rear = t.rear;
      effort = record { frame = coded t.frame; setting = t.setting; progress = at_stage stage at; counters = counters_of t };
    }

unfoldable pub service_in : Stand → Tally → Service
service_in away t = resting
service_in between t = made t Waiting 0
service_in (opening start) t = made t Opening start
service_in (inside start levels) t = made t Sending (start + length levels)
service_in (answered start n) t = made t Receiving 0

unfoldable pub service_of : Tally → Service
service_of t = service_in t.stand t

-- ---- the judgement

unfoldable pub kind : Verdict → tally.Verdict
kind Unjudged = goes
kind Goes = goes
kind Lost = contended
kind (Failed code) = failed
kind Done = sent
kind Answered = answers

difference_kind : (p : Part) (o : Bool) → kind (difference_in p o) ≡ pick (both o (arbitrated p)) contended failed
unfolding difference_in
difference_kind p o = go (both o (arbitrated p)) (both o (in_check p)) (in_acknowledge p)
  where
    go : (a b c : Bool) → kind (pick a Lost (pick b (Failed FCSE) (pick c (Failed ACKE) (Failed CV)))) ≡ pick a contended failed
    go true b c = unfold kind in refl
    go false true c = unfold kind in refl
    go false false true = unfold kind in refl
    go false false false = unfold kind in refl

-- the tally's own tests of a slot are those of the rules
pub open_same : (h : Half) → open_half h ≡ open_half_t h
unfolding open_half open_half_t
open_same Plain = refl
open_same First = refl
open_same Second = refl

pub arbitrated_same : (p : Part) → arbitrated p ≡ arbitrated_t p
unfolding arbitrated arbitrated_t
arbitrated_same part.Start = refl
arbitrated_same part.Identifier = refl
arbitrated_same part.Command = refl
arbitrated_same part.Data = refl
arbitrated_same part.Check = refl
arbitrated_same part.EndOfData = refl
arbitrated_same part.Acknowledge = refl
arbitrated_same part.EndOfFrame = refl
arbitrated_same part.After = refl

asks_same : (f : Frame) → acknowledge_asked (get_or (coded_bytes f) 1 0) ≡ asks_acknowledge f
unfolding acknowledge_asked asks_acknowledge coded_bytes
asks_same f = let e : (f.identifier % 16 * 16 + f.command) / 4 % 2 ≡ f.command / 4 % 2 = omega arith in rw e

pub due_same : (f : Frame) (k : ℕ) → due (coded f) k ≡ due_level f k (level_at (coded f) k)
unfolding due due_level coded
due_same f k = rw (asks_same f)

pub request_same : (f : Frame) → is_request (coded f) ≡ request_t f
unfolding is_request asks_reply request_t coded coded_bytes
request_same f = let e : (f.identifier % 16 * 16 + f.command) % 4 ≡ f.command % 4 = omega arith in rw e

-- driven and sampled levels are judged alike
pub kind_same : (f : Frame) (k v : ℕ) → kind (judge_slot (coded f) k v) ≡ verdict f k (level_at (coded f) k) v
unfolding judge_slot verdict coded
kind_same f k v =
    rw (due_same f k, request_same f) (go (eqb v (due_level f k (level_at (coded f) k))) (ltb (k + 1) (size (length f.bytes))) (both (eqb k rtr_slot) (request_t f)))
  where
    go : (a b r : Bool) → kind (pick a (pick b Goes Done) (pick r Answered (difference (length f.bytes) k (level_at (coded f) k))))
        ≡ pick a (pick b goes sent) (pick r answers (pick (both (both (eqb (level_at (coded f) k) 1) (open_half_t (half_of (length f.bytes) k))) (arbitrated_t (part_of (length f.bytes) k))) contended failed))
    go true true r = unfold kind in refl
    go true false r = unfold kind in refl
    go false b true = unfold kind in refl
    go false b false =
        unfold difference in
        rw (← (open_same (half_of (length f.bytes) k)), ← (arbitrated_same (part_of (length f.bytes) k)))
        (difference_kind (part_of (length f.bytes) k) (both (eqb (level_at (coded f) k) 1) (open_half (half_of (length f.bytes) k))))

-- ---- counts

slot_counted : (x : ℕ) → more_slots (record { 0 = min x largest }) ≡ record { 0 = min (x + 1) largest }
unfolding more_slots
slot_counted x = go (ltb (min x largest) largest) refl
  where
    go : (b : Bool) → ltb (min x largest) largest ≡ b → pick {A = Timeslots} b (record { 0 = min x largest + 1 }) (record { 0 = min x largest }) ≡ record { 0 = min (x + 1) largest }
    go true e = let q : min x largest + 1 ≡ min (x + 1) largest = omega (arith, ltb-true) in λ i. record { 0 = q i }
    go false e = let q : min x largest ≡ min (x + 1) largest = omega (arith, ltb-false) in λ i. record { 0 = q i }

attempt_counted : (x : ℕ) → more_attempts (record { 0 = min x largest }) ≡ record { 0 = min (x + 1) largest }
unfolding more_attempts
attempt_counted x = go (ltb (min x largest) largest) refl
  where
    go : (b : Bool) → ltb (min x largest) largest ≡ b → pick {A = Attempts} b (record { 0 = min x largest + 1 }) (record { 0 = min x largest }) ≡ record { 0 = min (x + 1) largest }
    go true e = let q : min x largest + 1 ≡ min (x + 1) largest = omega (arith, ltb-true) in λ i. record { 0 = q i }
    go false e = let q : min x largest ≡ min (x + 1) largest = omega (arith, ltb-false) in λ i. record { 0 = q i }

module _ (t : Tally) (s : Stand) where
  pub spent_slot : slot_spent (counters_of t) ≡ counters_of (spent_t t s)
  unfolding slot_spent counters_of spent_t
  spent_slot = rw (slot_counted t.slots)

  spent_lost : lost_spent (counters_of t) ≡ counters_of (tally.with_lost (spent_t t s) (t.lost + 1))
  unfolding lost_spent slot_spent counters_of spent_t
  spent_lost = rw (slot_counted t.slots, attempt_counted t.lost)

  spent_error : error_spent (counters_of t) ≡ counters_of (tally.with_errors (spent_t t s) (t.errors + 1))
  unfolding error_spent slot_spent counters_of spent_t
  spent_error = rw (slot_counted t.slots, attempt_counted t.errors)

-- ---- the attempt goes on, is lost or fails

module _ (t : Tally) (stage : Stage) (k start : ℕ) (levels : List ℕ) where
  pub gone_on : k + 1 ≡ start + length levels → service_judged Goes (made t stage k) ≡ service_of (judged_as goes t start levels)
  unfolding service_judged advance made service_of service_in judged_as spent_t at_stage
  gone_on e =
      let c = spent_slot t (inside start levels) in
      λ i. record { channel = t.channel; abort = t.abort; rear = t.rear; effort = record { frame = coded t.frame; setting = t.setting; progress = at_stage Sending (e i); counters = c i } }

  pub was_lost : service_judged Lost (made t stage k) ≡ service_of (judged_as contended t start levels)
  unfolding service_judged advance made service_of service_in judged_as spent_t
  was_lost =
      let c = spent_lost t between in
      λ i. record { channel = t.channel; abort = t.abort; rear = t.rear; effort = record { frame = coded t.frame; setting = t.setting; progress = at_stage Waiting 0; counters = c i } }

  pub has_failed : (code : ℕ) → service_judged (Failed code) (made t stage k) ≡ service_of (judged_as failed t start levels)
  unfolding service_judged advance made service_of service_in judged_as spent_t
  has_failed code =
      let c = spent_error t between in
      λ i. record { channel = t.channel; abort = t.abort; rear = t.rear; effort = record { frame = coded t.frame; setting = t.setting; progress = at_stage Waiting 0; counters = c i } }

  pub was_answered : service_judged Answered (made t stage k) ≡ service_of (judged_as answers t start levels)
  unfolding service_judged advance made service_of service_in judged_as spent_t
  was_answered =
      let c = spent_slot t (answered start (length levels)) in
      λ i. record { channel = t.channel; abort = t.abort; rear = t.rear; effort = record { frame = coded t.frame; setting = t.setting; progress = at_stage Receiving 0; counters = c i } }

-- ---- the end of a service

pub small : (x : ℕ) → x ≤ 16 → min x largest ≡ x
small x h = omega arith

-- between attempts: exhaustion, abort, REAR
pub stopped_made : (t : Tally) (stage : Stage) (at : ℕ) → is_between stage ≡ true → t.errors ≤ 16
    → stopped (made t stage at) ≡ pick (ltb t.setting t.errors) Exhausted (pick t.abort Aborted (pick t.rear Rearbitrated Going))
unfolding stopped made between_attempts at_stage exhausted counters_of
stopped_made t stage at b h = rw (b, small t.errors h)

give_up : (t : Tally) (stage : Stage) (at : ℕ) → is_between stage ≡ true → t.errors ≤ 16 → service_of t ≡ made t stage at
    → settled (stopped (made t stage at)) (made t stage at) ≡ service_of (pick (given_up t) none t)
unfolding given_up
give_up t stage at b h e =
    ap (λ (x : Ending). settled x (made t stage at)) (stopped_made t stage at b h) ∙ go (ltb t.setting t.errors) t.abort t.rear
  where
    go : (x y z : Bool) → settled (pick x Exhausted (pick y Aborted (pick z Rearbitrated Going))) (made t stage at) ≡ service_of (pick (pick x true (pick y true z)) none t)
    go true y z = unfold settled service_of service_in none in refl
    go false true z = unfold settled service_of service_in none in refl
    go false false true = unfold settled service_of service_in none in refl
    go false false false = unfold settled in (sym e)

pub settled_in : (s : Stand) (t : Tally) → t.stand ≡ s → t.errors ≤ 16 → settled (stopped (service_in s t)) (service_in s t) ≡ service_of (ended_in s t)
unfolding ended_in
settled_in away t e h = unfold settled stopped service_in resting at_stage between_attempts is_between service_of none in refl
settled_in between t e h = unfold service_in in give_up t Waiting 0 (unfold is_between in refl) h (unfold service_of service_in in rw e)
settled_in (opening start) t e h = unfold service_in in give_up t Opening start (unfold is_between in refl) h (unfold service_of service_in in rw e)
settled_in (inside start levels) t e h = unfold settled stopped service_in made at_stage between_attempts is_between service_of in rw e
settled_in (answered start n) t e h = unfold settled stopped service_in made at_stage between_attempts is_between service_of in rw e

pub settled_is : (t : Tally) → t.errors ≤ 16 → settled (stopped (service_of t)) (service_of t) ≡ service_of (ended_t t)
unfolding service_of ended_t
settled_is t h = settled_in t.stand t refl h

-- the sample judged, and the service settled
settle_judged : {x : Coded} {i v : ℕ} {w : Verdict} → Judged x i v w → (t : Tally) (stage : Stage) (k start : ℕ) (levels : List ℕ) → k + 1 ≡ start + length levels → t.errors ≤ 15
    → settled (ending_of w (service_judged w (made t stage k))) (service_judged w (made t stage k)) ≡ service_of (ended_t (judged_as (kind w) t start levels))
unfolding ending_of kind
settle_judged (went a b) t stage k start levels e h = rw (gone_on t stage k start levels e) (settled_is (judged_as goes t start levels) (unfold judged_as spent_t in omega arith))
settle_judged (lost a b c) t stage k start levels e h = rw (was_lost t stage k start levels) (settled_is (judged_as contended t start levels) (unfold judged_as spent_t in omega arith))
settle_judged (broke code c) t stage k start levels e h = rw (has_failed t stage k start levels code) (settled_is (judged_as failed t start levels) (unfold judged_as spent_t in omega arith))
settle_judged done t stage k start levels e h = unfold settled service_of service_in ended_t ended_in judged_as spent_t none in refl
settle_judged (judged.answered a b c) t stage k start levels e h = rw (was_answered t stage k start levels) (settled_is (judged_as answers t start levels) (unfold judged_as spent_t in omega arith))

-- ---- a slot's sample

-- the level that the tally expects to be driven
unfoldable pub driven_in : Stand → Tally → ℕ
driven_in away t = 1
driven_in between t = 1
driven_in (opening start) t = level_at (coded t.frame) start
driven_in (inside start levels) t = level_at (coded t.frame) (start + length levels)
driven_in (answered start n) t = 1

pub last_level : (start : ℕ) (levels : List ℕ) (d : ℕ) → start + length levels + 1 ≡ start + length (levels ++ (d ∷ []))
last_level start levels d = let l = length-append levels (d ∷ []) in omega arith

abbrev pub settled_after : Verdict → Service → Service
settled_after w s = settled (ending_of w (service_judged w s)) (service_judged w s)

-- an attempt drives in this slot
unfoldable pub attempting : Stand → Bool
attempting away = false
attempting between = false
attempting (opening start) = true
attempting (inside start levels) = true
attempting (answered start n) = false

-- the verdict of an answered attempt, and what the tally takes it for
pub data Replies : Verdict → Answering → Type 0 where
  on : Replies Answered comes
  off : (code : ℕ) → Replies (Failed code) wasted
  well : Replies Done taken

-- what a sample is for the attempt, where the tally stands so
abbrev pub JudgedIn : Stand → Tally → ℕ → Answering → Verdict → Type 0
JudgedIn away t v y w = w ≡ Unjudged
JudgedIn between t v y w = w ≡ Unjudged
JudgedIn (opening start) t v y w = w ≡ judge_slot (coded t.frame) start v
JudgedIn (inside start levels) t v y w = w ≡ judge_slot (coded t.frame) (start + length levels) v
JudgedIn (answered start n) t v y w = Replies w y

settled_away : (t : Tally) → t.stand ≡ away → settled_after Unjudged (service_in away t) ≡ service_of (ended_t t)
unfolding settled ending_of service_judged advance service_in resting at_stage stopped between_attempts is_between ended_t service_of ended_in none
settled_away t e = rw e

settled_between : (t : Tally) → t.stand ≡ between → t.errors ≤ 15 → settled_after Unjudged (service_in between t) ≡ service_of (ended_t t)
unfolding ending_of service_judged advance service_in ended_t
settled_between t e h = settled_in between t e (omega arith) ∙ ap (λ (s : Stand). service_of (ended_in s t)) (sym e)

-- in an attempt, with slot k driven
in_attempt : (t : Tally) (stage : Stage) (k start : ℕ) (levels : List ℕ) (v : ℕ) → k + 1 ≡ start + length levels → t.errors ≤ 15
    → settled_after (judge_slot (coded t.frame) k v) (made t stage k) ≡ service_of (ended_t (judged_as (verdict t.frame k (level_at (coded t.frame) k) v) t start levels))
in_attempt t stage k start levels v e h =
    settle_judged (slot_judged (coded t.frame) k v) t stage k start levels e h
    ∙ ap (λ (x : tally.Verdict). service_of (ended_t (judged_as x t start levels))) (kind_same t.frame k v)

-- in one that is answered
pub answered_on : (t : Tally) (start n : ℕ) → service_judged Answered (made t Receiving 0) ≡ service_of (replied_as comes t start n)
unfolding service_judged advance made service_of service_in replied_as spent_t
answered_on t start n =
    let c = spent_slot t (answered start (n + 1)) in
    λ i. record { channel = t.channel; abort = t.abort; rear = t.rear; effort = record { frame = coded t.frame; setting = t.setting; progress = at_stage Receiving 0; counters = c i } }

pub answered_off : (t : Tally) (start n code : ℕ) → service_judged (Failed code) (made t Receiving 0) ≡ service_of (replied_as wasted t start n)
unfolding replied_as
answered_off t start n code = has_failed t Receiving 0 start [] code ∙ unfold judged_as in refl

settle_replied : {w : Verdict} {y : Answering} → Replies w y → (t : Tally) (start n : ℕ) → t.errors ≤ 15 → settled_after w (made t Receiving 0) ≡ service_of (ended_t (replied_as y t start n))
unfolding ending_of
settle_replied on t start n h = rw (answered_on t start n) (settled_is (replied_as comes t start n) (unfold replied_as spent_t in omega arith))
settle_replied (off code) t start n h = rw (answered_off t start n code) (settled_is (replied_as wasted t start n) (unfold replied_as spent_t in omega arith))
settle_replied well t start n h = unfold settled service_of service_in ended_t ended_in replied_as spent_t none in refl

slot_settled_in : (s : Stand) (t : Tally) (d v : ℕ) (y : Answering) (w : Verdict) → t.stand ≡ s → JudgedIn s t v y w → (attempting s ≡ true → d ≡ driven_in s t) → t.errors ≤ 15
    → settled_after w (service_in s t) ≡ service_of (ended_t (counted_in s t d v y))
unfolding counted_in driven_in attempting
slot_settled_in away t d v y w e j q h = rw j (settled_away t e)
slot_settled_in between t d v y w e j q h = rw j (settled_between t e h)
slot_settled_in (opening start) t d v y w e j q h =
    rw (j, q refl) (unfold service_in in in_attempt t Opening start start (level_at (coded t.frame) start ∷ []) v (omega arith) h)
slot_settled_in (inside start levels) t d v y w e j q h =
    rw (j, q refl)
    (unfold service_in in in_attempt t Sending (start + length levels) start (levels ++ (level_at (coded t.frame) (start + length levels) ∷ [])) v (last_level start levels (level_at (coded t.frame) (start + length levels))) h)
slot_settled_in (answered start n) t d v y w e j q h = unfold service_in in settle_replied j t start n h

-- the service after a sample is that of the tally after it
pub slot_settled : (s : Service) (t : Tally) (d v : ℕ) (y : Answering) (w : Verdict) → s ≡ service_of t → JudgedIn t.stand t v y w → (attempting t.stand ≡ true → d ≡ driven_in t.stand t) → t.errors ≤ 15
    → settled_after w s ≡ service_of (ended_t (counted_t t d v y))
unfolding service_of counted_t
slot_settled s t d v y w e j q h = rw e (slot_settled_in t.stand t d v y w refl j q h)

-- ---- choice and start

pub chosen_is : (m : List ℕ) (c : ℕ) → chosen m c ≡ service_of (chosen_t m c)
unfolding chosen resting chosen_t none service_of service_in made counters_of no_counts at_stage
chosen_is m c = refl

pub choose_is : (m : List ℕ) (x : Option ℕ) → choice_of m x ≡ service_of (choice_t m x)
unfolding choice_of choice_t
choose_is m None = unfold service_of service_in none in refl
choose_is m (Some c) = chosen_is m c

opened_is : (t : Tally) (k : ℕ) → opened (made t Waiting 0) k ≡ service_of (tally.with_stand t (opening k))
unfolding opened made service_of service_in counters_of
opened_is t k = refl

start_go : (t : Tally) → service_of t ≡ made t Waiting 0 → (a b c : Bool)
    → pick a (opened (made t Waiting 0) 10) (pick b (made t Waiting 0) (pick c (opened (made t Waiting 0) 0) (made t Waiting 0)))
    ≡ service_of (pick a (tally.with_stand t (opening 10)) (pick b t (pick c (tally.with_stand t (opening 0)) t)))
start_go t e true b c = opened_is t 10
start_go t e false true c = sym e
start_go t e false false true = opened_is t 0
start_go t e false false false = sym e

between_is : (t : Tally) → t.stand ≡ between → service_of t ≡ made t Waiting 0
unfolding service_of service_in
between_is t e = ap (λ (s : Stand). service_in s t) e

module _ (m : List ℕ) (l : Line) (r : Reception) where
  started_in : (s : Stand) (t : Tally) → t.stand ≡ s → started (service_in s t) (autonomous (get_or m transmit_control 0)) l r ≡ service_of (start_in s t m (free l) r)
  unfolding started start_in
  started_in away t e = unfold service_of service_in resting at_stage waits is_waiting in rw e
  started_in between t e =
      unfold service_in made at_stage waits is_waiting in
      start_go t (between_is t e) (start_ended r) (under_way r.place) (both (autonomous (get_or m transmit_control 0)) (free l))
  started_in (opening start) t e = unfold service_of service_in made at_stage waits is_waiting in rw e
  started_in (inside start levels) t e = unfold service_of service_in made at_stage waits is_waiting in rw e
  started_in (answered start n) t e = unfold service_of service_in made at_stage waits is_waiting in rw e

  pub started_is : (t : Tally) → started (service_of t) (autonomous (get_or m transmit_control 0)) l r ≡ service_of (start_t t m (free l) r)
  unfolding service_of start_t
  started_is t = started_in t.stand t refl

-- ---- what a host write asks

abbrev asking : Tally → Bool → Bool → Tally
asking t a r = tally.with_rear (tally.with_abort t a) r

module _ (t : Tally) (stage : Stage) (at : ℕ) (serving : is_serving stage ≡ true) (same : (a r : Bool) → service_of (asking t a r) ≡ made (asking t a r) stage at) where
  rear_made : rear_asked (made t stage at) ≡ service_of (tally.with_rear t true)
  unfolding rear_asked made in_service at_stage counters_of
  rear_made = rw serving (sym (same t.abort true))

  abort_made : abort_asked (made t stage at) ≡ service_of (tally.with_abort t true)
  unfolding abort_asked made counters_of
  abort_made = sym (same true t.rear)

  same_made : made t stage at ≡ service_of t
  same_made = sym (same t.abort t.rear)

  asked_made : (address v : ℕ) → service_asked (made t stage at) address v ≡ service_of (asks t address v)
  unfolding service_asked asks rear_commanded aborts made
  asked_made address v =
      go (eqb address command) (asks_rearbitration v) (in_service (made t stage at).effort.progress) (unfold made in_service at_stage in serving) (eqb address (base t.channel + 3)) (cher v)
    where
      go : (x y s : Bool) → s ≡ true → (z u : Bool)
          → pick x (pick y (rear_asked (made t stage at)) (made t stage at)) (pick (both s (both z u)) (abort_asked (made t stage at)) (made t stage at))
          ≡ service_of (pick x (pick y (tally.with_rear t true) t) (pick (both z u) (tally.with_abort t true) t))
      go true true s e z u = rear_made
      go true false s e z u = same_made
      go false y true e true true = abort_made
      go false y true e true false = same_made
      go false y true e false u = same_made
      go false y false e z u = absurd (false≢true e)

asked_away : (address v : ℕ) → service_asked resting address v ≡ resting
unfolding service_asked rear_commanded aborts rear_asked resting at_stage in_service is_serving
asked_away address v = go (eqb address command) (asks_rearbitration v)
  where
    go : (x y : Bool) → pick x (pick y (rear_asked resting) resting) (pick (both (in_service resting.effort.progress) (both (eqb address (base resting.channel + 3)) (cher v))) (abort_asked resting) resting) ≡ resting
    go true true = refl
    go true false = refl
    go false y = refl

asked_service : (s : Stand) (t : Tally) → t.stand ≡ s → (address v : ℕ) → service_asked (service_in s t) address v ≡ service_of (asked_in s t address v)
unfolding asked_in service_of
asked_service away t e address v = unfold service_in in (asked_away address v ∙ ap (λ (s : Stand). service_in s t) (sym e))
asked_service between t e address v = unfold service_in in asked_made t Waiting 0 (unfold is_serving in refl) (λ a r. unfold service_of service_in in rw e) address v
asked_service (opening start) t e address v = unfold service_in in asked_made t Opening start (unfold is_serving in refl) (λ a r. unfold service_of service_in in rw e) address v
asked_service (inside start levels) t e address v = unfold service_in in asked_made t Sending (start + length levels) (unfold is_serving in refl) (λ a r. unfold service_of service_in in rw e) address v
asked_service (answered start n) t e address v = unfold service_in in asked_made t Receiving 0 (unfold is_serving in refl) (λ a r. unfold service_of service_in in rw e) address v

pub asked_is : (t : Tally) (address v : ℕ) → service_asked (service_of t) address v ≡ service_of (asked_t t address v)
unfolding service_of asked_t
asked_is t address v = asked_service t.stand t refl address v
