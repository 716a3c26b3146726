-- How far the answer to a request has come: the log has as many samples of the frame as the tally has slots of it.
--   Kept == controller, tally and log belong together: kept_fresh, kept_next        coming == so an answer that goes on is not yet at its longest
use Prim.Native.Nat.{ℕ, ◌+◌, ◌<◌, ◌%◌}
use mathlib.Core.Bool.{Bool, true, false, false≢true}
use mathlib.Core.List.{List, [], ◌∷◌, ◌++◌}
use mathlib.Core.Path.{◌≡◌, refl, ap, ◌∙◌, sym, subst}
use native.Mathlib.Omega.{arith}
use borrow.Author.Tests.{eqb-true}
use lib.Dec.{eqb, ltb}
use lib.ListN.{length, get_or, length-append}
use Rattle.std.specs.Prelude.{Option, None, Some}
use Rattle.line.specs.Bits.{pick}
use Rattle.line.specs.Frame.{Frame, size}
use Rattle.line.specs.Layout.{part_of, half_of}
use Rattle.line.proofs.Laws.{picked}
use Rattle.rules.specs.Definitions.Registers.{both, command, transmit_control, autonomous, asks_rearbitration}
use Rattle.rules.specs.Definitions.Channels.{base, cher, lowest_ready}
use Rattle.rules.specs.Definitions.Reception.{free, under_way, start_ended}
use Rattle.rules.specs.Definitions.Hearing.{hear_frame}
use Rattle.rules.specs.Definitions.Longest.{longest_of}
use Rattle.rules.specs.Definitions.Attempt.{at_stage, drives_frame, is_driving, is_answered, is_answering}
use Rattle.rules.specs.Definitions.State.{is_active, reset_core}
use Rattle.rules.specs.Definitions.Slots as slot_rule
use Rattle.rules.specs.Definitions.Slots.{heard, drives, sample_of, active_slot}
use Rattle.rules.specs.Definitions.Host.{reset_all, resets, sleeps, host_written}
use Rattle.rules.specs.Definitions.Run as run
use Rattle.rules.specs.Definitions.Run.{fresh, rested_slot, step, next}
use Rattle.every_run.specs.Tally.{Stand, away, between, opening, inside, answered, Tally, none, Verdict, goes, contended, failed, sent, answers, Answering, comes, taken, wasted, due_level, open_half_t, arbitrated_t, request_t, verdict, spent_t, judged_as, replied_as, counted_in, counted_t, given_up, ended_in, ended_t, chosen_t, choice_t, choose_in, choose_t, start_in, start_t, asks, asked_in, asked_t}
use Rattle.every_run.specs.Observer.{heard_delivery, is_stored, answer_in, fulfilled_t, accepted}
use Rattle.every_run.specs.Receiving.{Log, no_log, sampled_log, log_in, log_next}
use Rattle.rules.proofs.Logic.{both_true}
use Rattle.every_run.proofs.Steps.{Step, refusal, reset, wrote, gave, went, rested, step_of, refused_tally, refused_not, accepted_tally, accepted_so}
use Rattle.every_run.proofs.Ranges.Limits.{Fine}
use Rattle.every_run.proofs.Ranges.Reach.{fine_next}
use Rattle.every_run.proofs.Sending.Join.{made, service_in, service_of}
use Rattle.every_run.proofs.Sending.Bound.{Coming}
use Rattle.every_run.proofs.Sending.Beside.{answer_c, after_slot, ended_c, follow_t, next_t}
use Rattle.every_run.proofs.Sending.Demand3.{Joined, joined_next}
use Rattle.every_run.proofs.Receiving.InvariantLaws.{invariant_under_way, invariant_silent, invariant_body, invariant_short}
use Rattle.every_run.proofs.Receiving.OwnAttempt.{in_start, in_code}
use Rattle.every_run.proofs.Receiving.Log.{At, Following, apart, receiving, asking, starting, driving, closing, replying, replied}
use Rattle.every_run.proofs.Receiving.LogSteps.{Logs, apart_stands, next_logs}
use Rattle.rules.specs.declared.Reception.{Reception}
use Rattle.rules.specs.declared.Hearing.{Hearing}
use Rattle.rules.specs.declared.Hearing.TheVariants.{Silent, Follows, Fault, Good}
use Rattle.rules.specs.declared.Stage.{Stage}
use Rattle.rules.specs.declared.Stage.TheVariants as stage
use Rattle.rules.specs.declared.Effort.{Effort}
use Rattle.rules.specs.declared.ImmediateReply.{ImmediateReply}
use Rattle.rules.specs.declared.Service.{Service}
use Rattle.rules.specs.declared.Controller.{Controller}
use Rattle.rules.specs.declared.Event.{Event}
use Rattle.rules.specs.declared.Event.TheVariants.{Reset, Write, Read, Slot}

abbrev pub Aligned : Stand → Log → Type 0
Aligned away l = Unit {0}
Aligned between l = Unit {0}
Aligned (opening start) l = Unit {0}
Aligned (inside start levels) l = Unit {0}
Aligned (answered start n) l = start + n ≡ length l.samples

abbrev A : Log → Tally → Type 0
A l t = Aligned t.stand l

at_stand : (l : Log) (t : Tally) (s : Stand) → t.stand ≡ s → Aligned s l → A l t
at_stand l t s e a = subst (λ (x : Stand). Aligned x l) (sym e) a

-- ---- the end of a service, the choice, the start, what the host asks

ended_keeps : (l : Log) (s : Stand) (t : Tally) → t.stand ≡ s → Aligned s l → A l (ended_in s t)
unfolding ended_in
ended_keeps l away t e a = unfold none in tt
ended_keeps l between t e a = picked (A l) (given_up t) none t (λ d. unfold none in tt) (λ d. at_stand l t between e tt)
ended_keeps l (opening start) t e a = picked (A l) (given_up t) none t (λ d. unfold none in tt) (λ d. at_stand l t (opening start) e tt)
ended_keeps l (inside start levels) t e a = at_stand l t (inside start levels) e tt
ended_keeps l (answered start n) t e a = at_stand l t (answered start n) e a

ended_aligned : (l : Log) (t : Tally) → A l t → A l (ended_t t)
unfolding ended_t
ended_aligned l t a = ended_keeps l t.stand t refl a

choice_aligned : (l : Log) (m : List ℕ) (x : Option ℕ) → A l (choice_t m x)
unfolding choice_t
choice_aligned l m None = unfold none in tt
choice_aligned l m (Some c) = unfold chosen_t in tt

choose_aligned : (l : Log) (s : Stand) (t : Tally) (m : List ℕ) (longest : ℕ) (active : Bool) (r : Reception) → t.stand ≡ s → Aligned s l → A l (choose_in s t m longest active r)
unfolding choose_in
choose_aligned l away t m longest active r e a =
    picked (A l) active _ t (λ i. picked (A l) (under_way r.place) t (choice_t m (lowest_ready m longest)) (λ j. at_stand l t away e tt) (λ j. choice_aligned l m (lowest_ready m longest)))
    (λ i. at_stand l t away e tt)
choose_aligned l between t m longest active r e a = at_stand l t between e tt
choose_aligned l (opening start) t m longest active r e a = at_stand l t (opening start) e tt
choose_aligned l (inside start levels) t m longest active r e a = at_stand l t (inside start levels) e tt
choose_aligned l (answered start n) t m longest active r e a = at_stand l t (answered start n) e a

start_aligned : (l : Log) (s : Stand) (t : Tally) (m : List ℕ) (is_free : Bool) (r : Reception) → t.stand ≡ s → Aligned s l → A l (start_in s t m is_free r)
unfolding start_in
start_aligned l away t m is_free r e a = at_stand l t away e tt
start_aligned l between t m is_free r e a =
    picked (A l) (start_ended r) _ _ (λ i. tt)
    (λ i. picked (A l) (under_way r.place) t _ (λ j. at_stand l t between e tt)
    (λ j. picked (A l) (both (autonomous (get_or m transmit_control 0)) is_free) _ t (λ k. tt) (λ k. at_stand l t between e tt)))
start_aligned l (opening start) t m is_free r e a = at_stand l t (opening start) e tt
start_aligned l (inside start levels) t m is_free r e a = at_stand l t (inside start levels) e tt
start_aligned l (answered start n) t m is_free r e a = at_stand l t (answered start n) e a

after_aligned : (l : Log) (t : Tally) (c : Controller) → A l t → A l (after_slot t c)
unfolding after_slot choose_t start_t
after_aligned l t c a = start_aligned l _ _ c.memory (free c.core.line) c.core.reception refl (choose_aligned l t.stand t c.memory (longest_of c.core) (is_active c.core.activity.mode) c.core.reception refl a)

asks_stand : (t : Tally) (address v : ℕ) → (asks t address v).stand ≡ t.stand
unfolding asks
asks_stand t address v =
    picked (λ (x : Tally). x.stand ≡ t.stand) (eqb address command) _ _
    (λ e. picked (λ (x : Tally). x.stand ≡ t.stand) (asks_rearbitration v) _ t (λ d. refl) (λ d. refl))
    (λ e. picked (λ (x : Tally). x.stand ≡ t.stand) (both (eqb address (base t.channel + 3)) (cher v)) _ t (λ d. refl) (λ d. refl))

asked_stand : (s : Stand) (t : Tally) (address v : ℕ) → (asked_in s t address v).stand ≡ t.stand
unfolding asked_in
asked_stand away t address v = refl
asked_stand between t address v = asks_stand t address v
asked_stand (opening start) t address v = asks_stand t address v
asked_stand (inside start levels) t address v = asks_stand t address v
asked_stand (answered start n) t address v = asks_stand t address v

asked_aligned : (l : Log) (t : Tally) (address v : ℕ) → A l t → A l (asked_t t address v)
unfolding asked_t
asked_aligned l t address v a = at_stand l (asked_in t.stand t address v) t.stand (asked_stand t.stand t address v) a

-- ---- a sample

unfoldable is_answers : Verdict → Bool
is_answers goes = false
is_answers contended = false
is_answers failed = false
is_answers sent = false
is_answers answers = true

-- a request is answered in RTR's first half
verdict_rtr : (f : Frame) (k d v : ℕ) → is_answers (verdict f k d v) ≡ true → k ≡ 28
unfolding verdict is_answers
verdict_rtr f k d v =
    picked P (eqb v (due_level f k d)) _ _
    (λ e. picked P (ltb (k + 1) (size (length f.bytes))) goes sent (λ i h. absurd (false≢true h)) (λ i h. absurd (false≢true h)))
    (λ e. picked P (both (eqb k 28) (request_t f)) answers _ (λ i h. eqb-true k 28 (both_true (eqb k 28) (request_t f) i).0)
    (λ i. picked P (both (both (eqb d 1) (open_half_t (half_of (length f.bytes) k))) (arbitrated_t (part_of (length f.bytes) k))) contended failed (λ j h. absurd (false≢true h)) (λ j h. absurd (false≢true h))))
  where
    P : Verdict → Type 0
    P x = is_answers x ≡ true → k ≡ 28

judged_aligned : (l : Log) (t : Tally) (start : ℕ) (levels : List ℕ) (w : Verdict) → (is_answers w ≡ true → start + length levels ≡ length l.samples) → A l (judged_as w t start levels)
unfolding judged_as spent_t is_answers
judged_aligned l t start levels goes h = tt
judged_aligned l t start levels contended h = tt
judged_aligned l t start levels failed h = tt
judged_aligned l t start levels sent h = tt
judged_aligned l t start levels answers h = h refl

drives_answers : (p : Stage) → is_driving p ≡ true → is_answering p ≡ true → ⊥
unfolding is_driving is_answering
drives_answers stage.Resting d a = absurd (false≢true d)
drives_answers stage.Waiting d a = absurd (false≢true d)
drives_answers stage.Opening d a = absurd (false≢true a)
drives_answers stage.Sending d a = absurd (false≢true a)
drives_answers stage.Receiving d a = absurd (false≢true d)

-- the own frame at RTR's first half
own_aligned : {longest : ℕ} {e : Effort} {y : ImmediateReply} {r : Reception} {l : Log} → At longest e y r l → drives_frame e.progress ≡ true → e.progress.at ≡ 28 → length l.samples ≡ 28
own_aligned (apart d g u) b k = absurd (false≢true (sym d.drives ∙ b))
own_aligned (receiving d g f) b k = absurd (false≢true (sym d.drives ∙ b))
own_aligned (asking d a g f) b k = absurd (false≢true (sym d ∙ b))
own_aligned (starting d g z u) b k = absurd (omega arith)
own_aligned (driving d g f (in_start p q h z) i) b k = absurd (omega arith)
own_aligned {r = r} {l = l} (driving d g f (in_code p q h z) i) b k = invariant_body r l.samples f.invariant p ∙ sym q ∙ k
own_aligned (closing d g n h) b k = absurd (omega arith)
own_aligned (replying d g o f p i h) b k = absurd (false≢true (sym d.drives ∙ b))
own_aligned (replied d g n h) b k = absurd (false≢true (sym d.drives ∙ b))

-- the frame that answers is followed
pub is_asking : {longest : ℕ} {e : Effort} {y : ImmediateReply} {r : Reception} {l : Log} → At longest e y r l → is_answered e.progress ≡ true → Following longest r l
is_asking (apart d g u) a = absurd (false≢true (sym d.answers ∙ a))
is_asking (receiving d g f) a = f
is_asking (asking d i g f) a = f
is_asking {e = e} (starting d g z u) a = absurd (unfold drives_frame is_answered in drives_answers e.progress.stage d a)
is_asking (driving d g f p h) a = f
is_asking {e = e} (closing d g b h) a = absurd (unfold drives_frame is_answered in drives_answers e.progress.stage d a)
is_asking (replying d g o f p i h) a = f
is_asking (replied d g k h) a = absurd (false≢true (sym d.answers ∙ a))

one_more : (xs : List ℕ) (v : ℕ) → length (xs ++ (v ∷ [])) ≡ length xs + 1
one_more xs v = length-append xs (v ∷ [])

asked_effort : (s : Service) (t : Tally) → s ≡ made t stage.Receiving 0 → is_answered s.effort.progress ≡ true
unfolding is_answered made at_stage is_answering
asked_effort s t e = rw e

module _ (c : Controller) (t : Tally) (l : Log) (i : Logs c l) (j : Joined c t) where
  -- RTR's first half, where a slot of the attempt stands at k
  rtr_samples : (p : Stage) (k : ℕ) → is_driving p ≡ true → c.core.service ≡ made t p k → k ≡ 28 → length l.samples ≡ 28
  rtr_samples p k d s h =
      own_aligned i.stands.stage (unfold drives_frame in (rw s (unfold made at_stage in d))) (ap (λ (x : Service). x.effort.progress.at) s ∙ (unfold made at_stage in h))

  counted_aligned : (s : Stand) → t.stand ≡ s → (d v : ℕ) (y : Answering) (m : List ℕ) → Aligned s l → c.core.service ≡ service_in s t → A (sampled_log l v m) (counted_in s t d v y)
  unfolding counted_in sampled_log service_in
  counted_aligned away q d v y m a s = at_stand _ t away q tt
  counted_aligned between q d v y m a s = at_stand _ t between q tt
  counted_aligned (opening start) q d v y m a s =
      judged_aligned _ t start (d ∷ []) (verdict t.frame start d v)
      (λ h. let k = verdict_rtr t.frame start d v h in let n = rtr_samples stage.Opening start (unfold is_driving in refl) s k in let o = one_more l.samples v in omega arith)
  counted_aligned (inside start levels) q d v y m a s =
      judged_aligned _ t start (levels ++ (d ∷ [])) (verdict t.frame (start + length levels) d v)
      (λ h. let k = verdict_rtr t.frame (start + length levels) d v h in let n = rtr_samples stage.Sending (start + length levels) (unfold is_driving in refl) s k in
      let o = one_more l.samples v in let r = one_more levels d in omega arith)
  counted_aligned (answered start n) q d v comes m a s = unfold replied_as spent_t in (let o = one_more l.samples v in omega arith)
  counted_aligned (answered start n) q d v taken m a s = unfold replied_as spent_t in tt
  counted_aligned (answered start n) q d v wasted m a s = unfold replied_as spent_t in tt

  slot_aligned : (v : ℕ) (m : List ℕ) (d : Controller) → Aligned t.stand l → A (sampled_log l v m) (after_slot (ended_c c t v) d)
  unfolding ended_c counted_t
  slot_aligned v m d a =
      after_aligned (sampled_log l v m) _ d
      (picked (A (sampled_log l v m)) (fulfilled_t t c.core.reply.going c.core.reception (heard c.core (slot_rule.verdict c.core v) v)) none _ (λ e. unfold none in tt)
      (λ e. ended_aligned (sampled_log l v m) _ (counted_aligned t.stand refl (drives c.core) v (answer_c c v) m a (unfold service_of in j.service))))

  asked_so : (start n : ℕ) → t.stand ≡ answered start n → Following (longest_of c.core) c.core.reception l
  asked_so start n q =
      let a : c.core.service ≡ service_in t.stand t = unfold service_of in j.service in
      let s : c.core.service ≡ made t stage.Receiving 0 = subst (λ (x : Stand). c.core.service ≡ service_in x t) q a ∙ unfold service_in in refl in
      is_asking i.stands.stage (asked_effort c.core.service t s)

-- ---- an answer that goes on

unfoldable is_coming : Answering → Bool
is_coming comes = true
is_coming taken = false
is_coming wasted = false

comes_follows : (h : Hearing) (r : Reception) → (h ≡ Silent → ⊥) → is_coming (answer_in h r) ≡ true → h ≡ Follows
unfolding answer_in
comes_follows Silent r n e = absurd (n refl)
comes_follows Follows r n e = refl
comes_follows (Fault code) r n e = absurd (false≢true (unfold is_coming in e))
comes_follows Good r n e = absurd (false≢true (go (is_stored (heard_delivery Good r)) e))
  where
    go : (b : Bool) → is_coming (pick b taken wasted) ≡ true → false ≡ true
    go true e = unfold is_coming in e
    go false e = unfold is_coming in e

module _ (c : Controller) (t : Tally) (l : Log) (i : Logs c l) (j : Joined c t) where
  coming_in : (s : Stand) → t.stand ≡ s → Aligned s l → (v : ℕ) → v < 2 → Coming (longest_of c.core) s (answer_c c v)
  coming_in away q a v h = tt
  coming_in between q a v h = tt
  coming_in (opening start) q a v h = tt
  coming_in (inside start levels) q a v h = tt
  coming_in (answered start n) q a v h = λ y.
      let f = asked_so c t l i j start n q in
      let r : Reception = c.core.reception in
      let g : hear_frame r (longest_of c.core) v ≡ Follows = comes_follows (hear_frame r (longest_of c.core) v) r (invariant_silent r l.samples f.invariant v) (ap is_coming y ∙ (unfold is_coming in refl)) in
      let k = invariant_short r l.samples f.invariant v g in
      rw a k

-- ---- every event

pub record Kept (c : Controller) (t : Tally) (l : Log) : Type 0 where
  pub logs : Logs c l
  pub aligned : Aligned t.stand l

pub logs_fresh : Logs fresh no_log
logs_fresh = record { stands = unfold fresh reset_all reset_core in apart_stands no_log; empty = λ e. refl }

pub kept_fresh : Kept fresh none no_log
kept_fresh = record { logs = logs_fresh; aligned = unfold none in tt }

module _ (c : Controller) (t : Tally) (l : Log) (f : Fine c) (j : Joined c t) (k : Kept c t l) where
  pub coming : (v : ℕ) → v < 2 → Coming (longest_of c.core) t.stand (answer_c c v)
  coming v h = coming_in c t l k.logs j t.stand refl k.aligned v h

  logged : (e : Event) → Logs (next c e) (log_next c l e)
  logged e = next_logs c t l k.logs j (λ x. (fine_next c x f).memory) e (step_of c e)

  joined : (e : Event) → Joined (next c e) (next_t c t e)
  joined e = joined_next c t j f coming e (step_of c e)

  stays : (e : Event) (s : Stand) → under_way (next c e).core.reception.place ≡ true → Aligned s (pick (accepted c e) (log_in c l e) l) → Aligned s (log_next c l e)
  unfolding log_next
  stays e s u a = rw u a

  -- a frame that answers is under way, so its log stays
  log_stays : (e : Event) (s : Stand) → (next_t c t e).stand ≡ s → Aligned s (pick (accepted c e) (log_in c l e) l) → Aligned s (log_next c l e)
  log_stays e away q a = tt
  log_stays e between q a = tt
  log_stays e (opening start) q a = tt
  log_stays e (inside start levels) q a = tt
  log_stays e (answered start n) q a =
      let g = asked_so (next c e) (next_t c t e) (log_next c l e) (logged e) (joined e) start n q in
      stays e (answered start n) (invariant_under_way (next c e).core.reception (log_next c l e).samples g.invariant) a

  keeps : (e : Event) → A (pick (accepted c e) (log_in c l e) l) (next_t c t e) → Kept (next c e) (next_t c t e) (log_next c l e)
  keeps e a = record { logs = logged e; aligned = log_stays e (next_t c t e).stand refl a }

  wrote_aligned : (a v : ℕ) → A l (follow_t c t (Write a v))
  unfolding follow_t
  wrote_aligned a v =
      picked (A l) (resets a (v % 256)) none _ (λ d. unfold none in tt)
      (λ d. picked (A l) (sleeps a (v % 256)) none _ (λ x. unfold none in tt) (λ x. ended_aligned l (asked_t t a (v % 256)) (asked_aligned l t a (v % 256) k.aligned)))

  slot_kept : (levels : ℕ) → is_active c.core.activity.mode ≡ true → step c (Slot levels) ≡ run.answered (active_slot c levels) → Kept (next c (Slot levels)) (next_t c t (Slot levels)) (log_next c l (Slot levels))
  unfolding run.answered follow_t log_in
  slot_kept levels a h =
      keeps (Slot levels)
      (rw (accepted_so c t (Slot levels) _ (active_slot c levels) h, accepted_tally c t (Slot levels) _ (active_slot c levels) h, a)
      (slot_aligned c t l k.logs j (sample_of c levels) (next c (Slot levels)).memory (next c (Slot levels)) k.aligned))

  rest_kept : (levels : ℕ) → is_active c.core.activity.mode ≡ false → step c (Slot levels) ≡ rested_slot (slot_rule.resting_slot c levels) → Kept (next c (Slot levels)) (next_t c t (Slot levels)) (log_next c l (Slot levels))
  unfolding rested_slot follow_t log_in
  rest_kept levels a h = keeps (Slot levels) (rw (accepted_so c t (Slot levels) _ (slot_rule.resting_slot c levels) h, accepted_tally c t (Slot levels) _ (slot_rule.resting_slot c levels) h, a) k.aligned)

  pub kept_next : (e : Event) → Kept (next c e) (next_t c t e) (log_next c l e)
  kept_next e = go e (step_of c e)
    where
      go : (e : Event) → Step c e → Kept (next c e) (next_t c t e) (log_next c l e)
      go e (refusal n h) = keeps e (rw (refused_not c t e n h, refused_tally c t e n h) k.aligned)
      go Reset (reset h) = keeps Reset (rw (accepted_so c t Reset 0 (reset_all c) h, accepted_tally c t Reset 0 (reset_all c) h) (unfold follow_t none in tt))
      go (Write a v) (wrote h) =
          keeps (Write a v) (rw (accepted_so c t (Write a v) 0 (host_written c a (v % 256)) h, accepted_tally c t (Write a v) 0 (host_written c a (v % 256)) h) (unfold log_in in wrote_aligned a v))
      go (Read a) (gave value h) = keeps (Read a) (rw (accepted_so c t (Read a) value c h, accepted_tally c t (Read a) value c h) (unfold follow_t log_in in k.aligned))
      go (Slot levels) (went a h) = slot_kept levels a h
      go (Slot levels) (rested a h) = rest_kept levels a h
