-- How a service ends, by the tally: the rules' ending is the claims' own tests.
--   end_t == the ending by these tests, as `Tells` says in a slot and stopped_is at a host write
use Prim.Native.Nat.{ℕ, ◌+◌, ◌%◌, ◌≤◌}
use mathlib.Core.Bool.{Bool, true, false, not, false≢true}
use mathlib.Core.List.{List, [], ◌∷◌, ◌++◌}
use mathlib.Core.Path.{◌≡◌, refl, ap, ◌∙◌, sym}
use native.Mathlib.Omega.{arith}
use borrow.Author.Tests.{le-ltb, lt-ltb}
use lib.Dec.{ltb}
use lib.ListN.{length}
use Rattle.line.specs.Bits.{pick}
use Rattle.rules.specs.Definitions.Registers.{both}
use Rattle.rules.specs.Definitions.Mailbox.{coded}
use Rattle.rules.specs.Definitions.Attempt.{level_at, judge_slot, advance, at_stage, between_attempts, is_between}
use Rattle.rules.specs.Definitions.Service.{resting, stopped, ending_of, retries_of, report_sending, report_judged}
use Rattle.rules.specs.Definitions.Slots.{service_judged}
use Rattle.every_run.specs.Tally as tally
use Rattle.every_run.specs.Tally.{Stand, away, between, opening, inside, answered, Tally, goes, contended, failed, sent, answers, Answering, comes, replied_as, verdict, spent_t, judged_as, counted_in, counted_t, is_away}
use Rattle.every_run.specs.Observer.{pausing}
use Rattle.every_run.specs.Settled.{sent_all, exhausted_in, aborted_in, retries_t}
use Rattle.every_run.proofs.Judged as judged
use Rattle.every_run.proofs.Judged.{Judged, went, lost, broke, done, slot_judged}
use Rattle.every_run.proofs.Sending.Join.{counters_of, made, service_in, service_of, kind, kind_same, stopped_made, gone_on, was_lost, has_failed, was_answered, answered_on, spent_slot, small, last_level, driven_in, attempting, Replies, on, off, well, JudgedIn}
use Rattle.every_run.proofs.Sending.Follow.{is_exhausted}
use Rattle.rules.specs.declared.Coded.{Coded}
use Rattle.rules.specs.declared.Stage.{Stage}
use Rattle.rules.specs.declared.Stage.TheVariants.{Waiting, Opening, Sending, Receiving}
use Rattle.rules.specs.declared.Report.{Report}
use Rattle.rules.specs.declared.Service.{Service}
use Rattle.rules.specs.declared.Verdict.{Verdict}
use Rattle.rules.specs.declared.Verdict.TheVariants.{Unjudged, Goes, Lost, Failed, Done, Answered}
use Rattle.rules.specs.declared.Ending.{Ending}
use Rattle.rules.specs.declared.Ending.TheVariants.{Going, Sent, Exhausted, Aborted, Rearbitrated}

-- no attempt has sent its last: exhaustion first, then an abort, then REAR
unfoldable pub rest_t : Tally → Ending
rest_t j = pick (exhausted_in j) Exhausted (pick (aborted_in j) Aborted (pick (both (pausing j.stand) j.rear) Rearbitrated Going))

unfoldable pub end_t : Tally → Tally → Ending
end_t t j = pick (sent_all t j) Sent (rest_t j)

-- ---- a service that stands

in_order : (a b c : Bool) → pick a Exhausted (pick b Aborted (pick c Rearbitrated Going)) ≡ pick a Exhausted (pick (both true (both (not a) b)) Aborted (pick (both true c) Rearbitrated Going))
in_order true b c = refl
in_order false b c = refl

pausing_is : (t : Tally) (stage : Stage) (at : ℕ) → is_between stage ≡ true → pausing t.stand ≡ true → t.errors ≤ 16 → stopped (made t stage at) ≡ rest_t t
unfolding rest_t aborted_in exhausted_in
pausing_is t stage at b p h = stopped_made t stage at b h ∙ rw p (in_order (ltb t.setting t.errors) t.abort t.rear)

going_is : (t : Tally) → pausing t.stand ≡ false → t.errors ≤ t.setting → Going ≡ rest_t t
unfolding rest_t aborted_in exhausted_in
going_is t p h = rw (le-ltb t.setting t.errors h, p)

stopped_in : (x : Stand) (t : Tally) → t.stand ≡ x → t.errors ≤ t.setting → t.setting ≤ 15 → stopped (service_in x t) ≡ rest_t t
unfolding service_in
stopped_in away t e h q =
    let g : stopped resting ≡ Going = unfold stopped resting between_attempts is_between at_stage in refl in
    g ∙ going_is t (rw e (unfold pausing in refl)) h
stopped_in between t e h q = pausing_is t Waiting 0 (unfold is_between in refl) (rw e (unfold pausing in refl)) (omega arith)
stopped_in (opening start) t e h q = pausing_is t Opening start (unfold is_between in refl) (rw e (unfold pausing in refl)) (omega arith)
stopped_in (answered start n) t e h q =
    let g : stopped (made t Receiving 0) ≡ Going = unfold stopped made between_attempts is_between at_stage in refl in
    g ∙ going_is t (rw e (unfold pausing in refl)) h
stopped_in (inside start levels) t e h q =
    let g : stopped (made t Sending (start + length levels)) ≡ Going = unfold stopped made between_attempts is_between at_stage in refl in
    g ∙ going_is t (rw e (unfold pausing in refl)) h

pub stopped_is : (t : Tally) → t.errors ≤ t.setting → t.setting ≤ 15 → stopped (service_of t) ≡ rest_t t
unfolding service_of
stopped_is t h q = stopped_in t.stand t refl h q

-- ---- a slot

-- in a service that the sample does not bring to its last slot
pub on_service : (t j : Tally) → is_away j.stand ≡ false → rest_t j ≡ end_t t j
unfolding end_t sent_all
on_service t j e = rw e (go (not (is_away t.stand)))
  where
    go : (b : Bool) → rest_t j ≡ pick (both b false) Sent (rest_t j)
    go true = refl
    go false = refl

pub off_service : (t j : Tally) → is_away t.stand ≡ true → rest_t j ≡ end_t t j
unfolding end_t sent_all
off_service t j e = rw e

has_sent : (t : Tally) (stage : Stage) (k : ℕ) → service_judged Done (made t stage k) ≡ made (spent_t t away) Waiting 0
unfolding service_judged advance made spent_t
has_sent t stage k =
    let c = spent_slot t away in
    λ i. record { channel = t.channel; abort = t.abort; rear = t.rear; effort = record { frame = coded t.frame; setting = t.setting; progress = at_stage Waiting 0; counters = c i } }

-- what 0x05 and 0x06 show of a service
retries_made : (t : Tally) (stage : Stage) (at : ℕ) → t.errors ≤ 16 → retries_of (made t stage at) ≡ retries_t t
unfolding retries_of retries_t made counters_of
retries_made t stage at h =
    let m : t.errors % 256 ≡ t.errors = omega arith in
    rw (small t.errors h, m)

pub retries_in : (x : Stand) (t : Tally) → is_away x ≡ false → t.errors ≤ 16 → retries_of (service_in x t) ≡ retries_t t
unfolding service_in
retries_in away t a h = absurd (false≢true (sym (unfold is_away in a)))
retries_in between t a h = retries_made t Waiting 0 h
retries_in (opening start) t a h = retries_made t Opening start h
retries_in (inside start levels) t a h = retries_made t Sending (start + length levels) h
retries_in (answered start n) t a h = retries_made t Receiving 0 h

-- a sample that is w for the attempt, and the service s once it is judged, by the tally before and after
pub record Tells (t j : Tally) (w : Verdict) (s : Service) : Type 0 where
  pub ending : ending_of w s ≡ end_t t j
  pub exhausts : is_exhausted (ending_of w s) ≡ exhausted_in j
  pub retries : is_away t.stand ≡ false → retries_of s ≡ retries_t j
  pub sending : (x : Report) → (report_judged w x s).sending ≡ pick (ltb t.errors j.errors) (retries_t j) x.sending

pub exhausts_rest : (j : Tally) → is_exhausted (rest_t j) ≡ exhausted_in j
unfolding rest_t
exhausts_rest j = go (exhausted_in j) (aborted_in j) (both (pausing j.stand) j.rear)
  where
    go : (a b c : Bool) → is_exhausted (pick a Exhausted (pick b Aborted (pick c Rearbitrated Going))) ≡ a
    go true b c = unfold is_exhausted in refl
    go false true c = unfold is_exhausted in refl
    go false false true = unfold is_exhausted in refl
    go false false false = unfold is_exhausted in refl

-- errors as before
same_errors : (t j : Tally) (x : Report) → j.errors ≡ t.errors → x.sending ≡ pick (ltb t.errors j.errors) (retries_t j) x.sending
same_errors t j x e = rw (e, le-ltb t.errors t.errors (omega arith))

module _ (t : Tally) (serving : is_away t.stand ≡ false) (few : t.errors ≤ t.setting) (most : t.setting ≤ 15) where
  abbrev Told : Verdict → Stage → ℕ → ℕ → List ℕ → Type 0
  Told w stage k start levels = Tells t (judged_as (kind w) t start levels) w (service_judged w (made t stage k))

  failed_tells : (stage : Stage) (k start : ℕ) (levels : List ℕ) (code : ℕ) → Tells t (judged_as failed t start levels) (Failed code) (service_judged (Failed code) (made t stage k))
  unfolding ending_of judged_as spent_t report_judged report_sending
  failed_tells stage k start levels code =
      let j : Tally = judged_as failed t start levels in
      let g : service_judged (Failed code) (made t stage k) ≡ service_of j = has_failed t stage k start levels code in
      let p : stopped (service_of j) ≡ rest_t j = unfold service_of service_in in pausing_is j Waiting 0 (unfold is_between in refl) (unfold pausing in refl) (omega arith) in
      let r : retries_of (service_judged (Failed code) (made t stage k)) ≡ retries_t j = ap retries_of g ∙ unfold service_of in retries_in j.stand j (unfold is_away in refl) (omega arith) in
      record {
        ending = ap stopped g ∙ p ∙ on_service t j (unfold is_away in refl);
        exhausts = ap (λ (x : Service). is_exhausted (stopped x)) g ∙ ap is_exhausted p ∙ exhausts_rest j;
        retries = λ y. r;
        sending = λ x. rw (lt-ltb t.errors (t.errors + 1) (omega arith)) r;
      }

  tells_judged : {x : Coded} {i v : ℕ} {w : Verdict} → Judged x i v w → (stage : Stage) (k start : ℕ) (levels : List ℕ) → k + 1 ≡ start + length levels → Told w stage k start levels
  unfolding ending_of kind judged_as spent_t report_judged
  tells_judged (went a b) stage k start levels e =
      let j : Tally = judged_as goes t start levels in
      let g : service_judged Goes (made t stage k) ≡ service_of j = gone_on t stage k start levels e in
      record {
        ending = ap stopped g ∙ stopped_is j few most ∙ on_service t j (unfold is_away in refl);
        exhausts = ap (λ (x : Service). is_exhausted (stopped x)) g ∙ ap is_exhausted (stopped_is j few most) ∙ exhausts_rest j;
        retries = λ y. ap retries_of g ∙ unfold service_of in retries_in j.stand j (unfold is_away in refl) (omega arith);
        sending = λ x. same_errors t j x refl;
      }
  tells_judged (lost a b c) stage k start levels e =
      let j : Tally = judged_as contended t start levels in
      let g : service_judged Lost (made t stage k) ≡ service_of j = was_lost t stage k start levels in
      record {
        ending = ap stopped g ∙ stopped_is j few most ∙ on_service t j (unfold is_away in refl);
        exhausts = ap (λ (x : Service). is_exhausted (stopped x)) g ∙ ap is_exhausted (stopped_is j few most) ∙ exhausts_rest j;
        retries = λ y. ap retries_of g ∙ unfold service_of in retries_in j.stand j (unfold is_away in refl) (omega arith);
        sending = λ x. same_errors t j x refl;
      }
  tells_judged (broke code c) stage k start levels e = failed_tells stage k start levels code
  tells_judged (judged.answered a b c) stage k start levels e =
      let j : Tally = judged_as answers t start levels in
      let g : service_judged Answered (made t stage k) ≡ service_of j = was_answered t stage k start levels in
      record {
        ending = ap stopped g ∙ stopped_is j few most ∙ on_service t j (unfold is_away in refl);
        exhausts = ap (λ (x : Service). is_exhausted (stopped x)) g ∙ ap is_exhausted (stopped_is j few most) ∙ exhausts_rest j;
        retries = λ y. ap retries_of g ∙ unfold service_of in retries_in j.stand j (unfold is_away in refl) (omega arith);
        sending = λ x. same_errors t j x refl;
      }
  tells_judged done stage k start levels e =
      let j : Tally = judged_as sent t start levels in
      record {
        ending = unfold end_t sent_all is_away in rw serving;
        exhausts = unfold is_exhausted exhausted_in in sym (le-ltb t.setting t.errors few);
        retries = λ y. ap retries_of (has_sent t stage k) ∙ retries_made (spent_t t away) Waiting 0 (omega arith);
        sending = λ x. same_errors t j x refl;
      }

in_attempt : (t : Tally) → is_away t.stand ≡ false → t.errors ≤ t.setting → t.setting ≤ 15 → (stage : Stage) (k start : ℕ) (levels : List ℕ) (v : ℕ) → k + 1 ≡ start + length levels
    → Tells t (judged_as (verdict t.frame k (level_at (coded t.frame) k) v) t start levels) (judge_slot (coded t.frame) k v) (service_judged (judge_slot (coded t.frame) k v) (made t stage k))
in_attempt t s g h stage k start levels v e =
    rw (← (kind_same t.frame k v)) (tells_judged t s g h (slot_judged (coded t.frame) k v) stage k start levels e)

-- an answered attempt
module _ (t : Tally) (serving : is_away t.stand ≡ false) (few : t.errors ≤ t.setting) (most : t.setting ≤ 15) (start n : ℕ) where
  awaited_tells : {w : Verdict} {y : Answering} → Replies w y → Tells t (replied_as y t start n) w (service_judged w (made t Receiving 0))
  unfolding ending_of replied_as spent_t report_judged
  awaited_tells on =
      let j : Tally = replied_as comes t start n in
      let g : service_judged Answered (made t Receiving 0) ≡ service_of j = answered_on t start n in
      record {
        ending = ap stopped g ∙ stopped_is j few most ∙ on_service t j (unfold is_away in refl);
        exhausts = ap (λ (x : Service). is_exhausted (stopped x)) g ∙ ap is_exhausted (stopped_is j few most) ∙ exhausts_rest j;
        retries = λ y. ap retries_of g ∙ unfold service_of in retries_in j.stand j (unfold is_away in refl) (omega arith);
        sending = λ x. same_errors t j x refl;
      }
  awaited_tells (off code) = unfold judged_as in failed_tells t serving few most Receiving 0 start [] code
  awaited_tells well =
      let j : Tally = replied_as tally.taken t start n in
      record {
        ending = unfold end_t sent_all is_away in rw serving;
        exhausts = unfold is_exhausted exhausted_in in sym (le-ltb t.setting t.errors few);
        retries = λ y. ap retries_of (has_sent t Receiving 0) ∙ retries_made (spent_t t away) Waiting 0 (omega arith);
        sending = λ x. same_errors t j x refl;
      }

unjudged_tells : (t : Tally) (s : Service) → s ≡ service_of t → t.errors ≤ t.setting → t.setting ≤ 15 → Tells t t Unjudged s
unfolding ending_of report_judged
unjudged_tells t s e g h =
    record {
      ending = ap stopped e ∙ stopped_is t g h ∙ same_stand (is_away t.stand) refl;
      exhausts = ap (λ (x : Service). is_exhausted (stopped x)) e ∙ ap is_exhausted (stopped_is t g h) ∙ exhausts_rest t;
      retries = λ a. ap retries_of e ∙ unfold service_of in retries_in t.stand t a (omega arith);
      sending = λ x. same_errors t t x refl;
    }
  where
    same_stand : (b : Bool) → is_away t.stand ≡ b → rest_t t ≡ end_t t t
    same_stand true a = off_service t t a
    same_stand false a = on_service t t a

tells_in : (x : Stand) (t : Tally) (d v : ℕ) (y : Answering) (w : Verdict) → t.stand ≡ x → JudgedIn x t v y w → (attempting x ≡ true → d ≡ driven_in x t) → t.errors ≤ t.setting → t.setting ≤ 15
    → Tells t (counted_in x t d v y) w (service_judged w (service_in x t))
unfolding counted_in service_in driven_in attempting
tells_in away t d v y w e j q g h = rw j (unfold service_judged advance in unjudged_tells t resting (unfold service_of in rw e (unfold service_in in refl)) g h)
tells_in between t d v y w e j q g h = rw j (unfold service_judged advance in unjudged_tells t (made t Waiting 0) (unfold service_of in rw e (unfold service_in in refl)) g h)
tells_in (opening start) t d v y w e j q g h =
    rw (j, q refl) (in_attempt t (rw e (unfold is_away in refl)) g h Opening start start (level_at (coded t.frame) start ∷ []) v (omega arith))
tells_in (inside start levels) t d v y w e j q g h =
    rw (j, q refl)
    (in_attempt t (rw e (unfold is_away in refl)) g h Sending (start + length levels) start (levels ++ (level_at (coded t.frame) (start + length levels) ∷ [])) v (last_level start levels (level_at (coded t.frame) (start + length levels))))
tells_in (answered start n) t d v y w e j q g h = awaited_tells t (rw e (unfold is_away in refl)) g h start n j

pub tells : (s : Service) (t : Tally) (d v : ℕ) (y : Answering) (w : Verdict) → s ≡ service_of t → JudgedIn t.stand t v y w → (attempting t.stand ≡ true → d ≡ driven_in t.stand t) → t.errors ≤ t.setting → t.setting ≤ 15
    → Tells t (counted_t t d v y) w (service_judged w s)
unfolding service_of counted_t
tells s t d v y w e j q g h = rw e (tells_in t.stand t d v y w refl j q g h)
