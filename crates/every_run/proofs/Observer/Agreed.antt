-- The controller stands as the observer says, after every event.
--   LineIs == the line and the samples with no frame        SameCore == mode, line and frame        Same == the tally too: same_next
use Prim.Native.Nat.{ℕ, zero, suc, ◌+◌, ◌%◌, ◌≤◌, ◌<◌}
use mathlib.Core.Bool.{Bool, true, false, false≢true, not}
use mathlib.Core.List.{List, [], ◌∷◌}
use mathlib.Core.Path.{◌≡◌, refl, ap, ◌∙◌, sym, subst}
use native.Mathlib.Omega.{arith}
use borrow.Author.Tests.{le-leb, lt-leb, leb-true, leb-false, ltb-true, ltb-false, eqb-true, eqb-false}
use lib.Dec.{eqb, ltb, leb}
use lib.ListN.{length, get_or}
use Rattle.line.specs.Bits.{pick, Below}
use Rattle.diagnosis.specs.Rules.{diagnosed}
use Rattle.diagnosis.specs.declared.Diagnosis.{Diagnosis}
use Rattle.rules.specs.Definitions.Setters.{with_activity, with_report, with_line, with_service, with_diagnosis}
use Rattle.rules.specs.Definitions.Longest.{longest_of}
use Rattle.rules.specs.Definitions.Registers.{both, either, diagnosis_control, command, interrupt_reset, asks_idle, asks_activation}
use Rattle.rules.specs.Definitions.Mailbox.{coded}
use Rattle.rules.specs.Definitions.Reception.{unsettled, after_good, free, takes_start, counted, at_place, quiet, is_under_way, under_way}
use Rattle.rules.specs.Definitions.Hearing.{line_after, hear_frame, hear_quiet, ends_well, receiver_in, receiver_level}
use Rattle.rules.specs.Definitions.Attempt.{at_stage, in_service, is_serving, drives_frame, is_driving, is_answered, is_answering, level_at, judge_slot}
use Rattle.rules.specs.Definitions.Service.{own_frame, resting, stopped, settled, report_ended, hear_own}
use Rattle.rules.specs.Definitions.State.{is_active, is_asleep, in_mode, serving, reset_core, idled, idle_due, slept, idle_asked, activated}
use Rattle.rules.specs.Definitions.Slots as slot_rule
use Rattle.rules.specs.Definitions.Slots.{role_in, reply_verdict, heard, reception_judged, reply_after, core_judged, follows_on, drives_as, drives, levels_of, sample_of, judged_slot, sampled_slot, turns, diagnosis_after, diagnosed_slot, active_slot, resting_slot}
use Rattle.rules.specs.Definitions.Host.{reset_all, resets, sleeps, mode_commanded, flags_cleared, core_written, service_asked, stopped_core, diagnosis_written, byte_written, host_written}
use Rattle.rules.specs.Definitions.Run as run
use Rattle.rules.specs.Definitions.Run.{fresh, accept, rested_slot, step, next}
use Rattle.every_run.specs.Tally.{Stand, away, between, opening, inside, answered, Tally, none, Answering, verdict, counted_t, ended_in, ended_t, choose_in, choose_t, start_in, start_t, asked_in, asked_t, is_away}
use Rattle.every_run.specs.Observer as observer
use Rattle.every_run.specs.Observer.{Past, recessive, free_o, starts_o, anew, Replying, silent, replies, Observer, with_activity_o, with_line_o, with_frame_o, with_tally_o, with_reply_o, with_diagnosis_o, at_reset, code_t, hears_own, hears_other, hears_apart, hears_in, hears_o, answer_in, answer_o, fulfilled_t, fulfilled_o, is_replying, own_in, turns_o, ended_o, diagnosis_o, reply_in, line_o, sampled_o, idle_o, goes_on_o, activated_o, idle_asked_o, commanded_o, written_o, next_o}
use Rattle.every_run.specs.Sending.{level_apart, level_in, level_o, role_apart, role_as, Counted, Agrees}
use Rattle.rules.proofs.Logic.{left}
use Rattle.every_run.proofs.Roles.{quiet_phase, role_sender, role_asker, role_other, heard_nobody, heard_receiver, heard_sender, heard_asker, heard_replier}
use Rattle.every_run.proofs.Steps.{Step, refusal, reset, wrote, gave, went, rested, with_diagnosis_c, step_of, went_next, rested_next, refused_next, refused_not, accepted_next, accepted_so, accepted_tally}
use Rattle.every_run.proofs.Sending.Beside as beside
use Rattle.every_run.proofs.Sending.Beside.{answer_c, after_slot, ended_c, next_t}
use Rattle.every_run.proofs.Sending.Join.{counters_of, made, service_in, service_of, driven_in, attempting, JudgedIn}
use Rattle.every_run.proofs.Sending.Follow.{follows_activity, follows_line, follows_reception, follows_reply}
use Rattle.every_run.proofs.Sending.Bound as bound
use Rattle.every_run.proofs.Sending.Bound.{Coming}
use Rattle.every_run.proofs.Sending.Demand3.{Joined, after_beside, joined_fresh, joined_next, driven_is, level_is, is_judged, sampled_service, settled_asked}
use Rattle.every_run.proofs.Ranges.Limits.{Fine}
use Rattle.every_run.proofs.Ranges.Reception.{Received, judged_received}
use Rattle.every_run.proofs.Ranges.Reach.{fine_next}
use Rattle.every_run.proofs.Observer.Replies.{own_heard, SameReply, silent_same, same_going, is_going, is_replier, reply_drives, reply_level, reply_judged, apart_reply, own_reply, asked_reply}
use Rattle.rules.proofs.Samples.{sample_small}
use Rattle.rules.specs.declared.Line.{Line}
use Rattle.rules.specs.declared.Reception.{Reception}
use Rattle.rules.specs.declared.Hearing.{Hearing}
use Rattle.rules.specs.declared.Hearing.TheVariants.{Silent, Follows, Fault, Good}
use Rattle.rules.specs.declared.Stage.{Stage}
use Rattle.rules.specs.declared.Stage.TheVariants.{Opening, Sending}
use Rattle.rules.specs.declared.Service.{Service}
use Rattle.rules.specs.declared.ImmediateReply.{ImmediateReply}
use Rattle.rules.specs.declared.Verdict.{Verdict}
use Rattle.rules.specs.declared.Place.{Place}
use Rattle.rules.specs.declared.Role.{Role}
use Rattle.rules.specs.declared.Role.TheVariants.{Nobody, Receiver, Sender, Asker, Replier}
use Rattle.rules.specs.declared.Mode.{Mode}
use Rattle.rules.specs.declared.Mode.TheVariants.{Idle, Active, Asleep}
use Rattle.rules.specs.declared.Activity.{Activity}
use Rattle.rules.specs.declared.Core.{Core}
use Rattle.rules.specs.declared.Controller.{Controller}
use Rattle.rules.specs.declared.Event.{Event}
use Rattle.rules.specs.declared.Event.TheVariants.{Reset, Write, Read, Slot}

-- ---- the line

-- the count says of every number up to twelve whether so many samples are recessive
pub record LineIs (l : Line) (p : Past) : Type 0 where
  pub good : l.good ≡ p.good
  pub count : (n : ℕ) → n ≤ 12 → leb n l.count ≡ recessive n p.samples

pub line_free : (l : Line) (p : Past) → LineIs l p → free l ≡ free_o p
unfolding free free_o
line_free l p i = rw (i.good, i.count 4 (omega arith), i.count 12 (omega arith))

pub line_starts : (l : Line) (p : Past) → LineIs l p → takes_start l ≡ starts_o p
unfolding takes_start starts_o free
line_starts l p i = rw (i.good, i.count 4 (omega arith), i.count 12 (omega arith)) (go p.good (recessive 4 p.samples) (recessive 12 p.samples))
  where
    go : (g a b : Bool) → pick g true (pick g a b) ≡ either g b
    go true a b = refl
    go false a b = refl

none_recessive : (n : ℕ) → leb n 0 ≡ recessive n []
unfolding recessive
none_recessive zero = le-leb 0 0 (omega arith)
none_recessive (suc n) = lt-leb (suc n) 0 (omega arith)

line_anew : (b : Bool) → LineIs (record { good = b; count = 0 }) (anew b)
unfolding anew
line_anew b = record { good = refl; count = λ n h. none_recessive n }

module _ (l : Line) (p : Past) (i : LineIs l p) where
  after_dominant : (n : ℕ) → leb n 0 ≡ recessive n (0 ∷ p.samples)
  unfolding recessive
  after_dominant zero = le-leb 0 0 (omega arith)
  after_dominant (suc n) = lt-leb (suc n) 0 (omega arith)

  -- one recessive sample more, up to twelve
  one_more : (x : ℕ) → (l.count < 12 → x ≡ l.count + 1) → (12 ≤ l.count → x ≡ l.count) → (n : ℕ) → n ≤ 12 → leb n x ≡ recessive n (1 ∷ p.samples)
  unfolding recessive
  one_more x a b zero h = le-leb 0 x (omega arith)
  one_more x a b (suc n) h = shifted ∙ i.count n (omega arith)
    where
      shifted : leb (suc n) x ≡ leb n l.count
      shifted = go (leb n l.count) refl (ltb l.count 12) refl
        where
          go : (t : Bool) → leb n l.count ≡ t → (s : Bool) → ltb l.count 12 ≡ s → leb (suc n) x ≡ t
          go true e true d = let y = a (ltb-true l.count 12 d) in let z = leb-true n l.count e in le-leb (suc n) x (omega arith)
          go true e false d = let y = b (ltb-false l.count 12 d) in let z = ltb-false l.count 12 d in le-leb (suc n) x (omega arith)
          go false e true d = let y = a (ltb-true l.count 12 d) in let z = leb-false n l.count e in lt-leb (suc n) x (omega arith)
          go false e false d = absurd (let y = ltb-false l.count 12 d in let z = leb-false n l.count e in omega arith)

  line_counted : (v : ℕ) → v < 2 → LineIs (counted l v) (record { good = p.good; samples = v ∷ p.samples })
  unfolding counted
  line_counted v small = go (eqb v 0) refl (ltb l.count 12) refl
    where
      go : (a : Bool) → eqb v 0 ≡ a → (b : Bool) → ltb l.count 12 ≡ b
          → LineIs (pick a (record { good = l.good; count = 0 }) (pick b (record { good = l.good; count = l.count + 1 }) l)) (record { good = p.good; samples = v ∷ p.samples })
      go true e b d = record { good = i.good; count = λ n h. rw (eqb-true v 0 e) (after_dominant n) }
      go false e true d =
          let one : v ≡ 1 = let z = eqb-false v 0 e in omega arith in
          record { good = i.good; count = λ n h. rw one (one_more (l.count + 1) (λ x. refl) (λ x. absurd (let z = ltb-true l.count 12 d in omega arith)) n h) }
      go false e false d =
          let one : v ≡ 1 = let z = eqb-false v 0 e in omega arith in
          record { good = i.good; count = λ n h. rw one (one_more l.count (λ x. absurd (let z = ltb-false l.count 12 d in omega arith)) (λ x. refl) n h) }

  line_heard : (h : Hearing) (v : ℕ) → v < 2 → LineIs (line_after h l v) (line_o h p v)
  unfolding line_after line_o unsettled after_good
  line_heard Silent v small = line_counted v small
  line_heard Follows v small = i
  line_heard (Fault code) v small = line_anew false
  line_heard Good v small = line_anew true

-- ---- what a sample is

quiet_heard : (l : Line) (p : Past) → LineIs l p → (v : ℕ) → hear_quiet l v ≡ pick (both (eqb v 0) (starts_o p)) Follows Silent
unfolding hear_quiet
quiet_heard l p i v = rw (line_starts l p i) (go (eqb v 0) (starts_o p))
  where
    go : (a b : Bool) → pick a (pick b Follows Silent) Silent ≡ pick (both a b) Follows Silent
    go true b = refl
    go false b = refl

-- mode, line, frame under way and reply
pub record SameCore (k : Core) (o : Observer) : Type 0 where
  pub activity : k.activity ≡ o.activity
  pub line : LineIs k.line o.line
  pub frame : k.reception ≡ o.frame
  pub reply : SameReply k.reply o.reply

module _ (k : Core) (o : Observer) (s : SameCore k o) (w : Verdict) (v : ℕ) where
  other_heard : drives_frame k.service.effort.progress ≡ false → is_answered k.service.effort.progress ≡ false → k.reply.going ≡ false → heard k w v ≡ hears_other o (longest_of k) v
  unfolding hears_other
  other_heard d a y = rw (← s.frame) (go (under_way k.reception.place) refl)
    where
      go : (u : Bool) → under_way k.reception.place ≡ u → heard k w v ≡ pick u (hear_frame k.reception (longest_of k) v) (pick (both (eqb v 0) (starts_o o.line)) Follows Silent)
      go true u = heard_receiver k w v d a y u
      go false u = heard_nobody k w v d a y u ∙ quiet_heard k.line o.line s.line v

  -- outside an attempt
  apart_heard : drives_frame k.service.effort.progress ≡ false → is_answered k.service.effort.progress ≡ false → heard k w v ≡ hears_apart o.reply o (longest_of k) (drives k) v
  apart_heard d a = go o.reply refl
    where
      go : (y : Replying) → o.reply ≡ y → heard k w v ≡ hears_apart y o (longest_of k) (drives k) v
      go silent e = unfold hears_apart in other_heard d a (same_going s.reply ∙ rw e (unfold is_replying in refl))
      go (replies c f levels) e =
          unfold hears_apart in
          (heard_replier k w v d a (is_going k o.reply s.reply d a c f levels e) ∙ ap hear_own (reply_judged k o.reply s.reply d a c f levels e v) ∙ own_heard f (28 + length levels) v
          ∙ rw (reply_drives k o.reply s.reply d a c f levels e))

  heard_driven : (stage : Stage) (at : ℕ) → is_driving stage ≡ true → k.service ≡ made o.tally stage at → w ≡ judge_slot (coded o.tally.frame) at v → drives k ≡ level_at (coded o.tally.frame) at
      → heard k w v ≡ hears_own (verdict o.tally.frame at (drives k) v) (code_t o.tally.frame at (drives k))
  heard_driven stage at b e j q =
      let d : drives_frame k.service.effort.progress ≡ true = ap (λ (x : Service). drives_frame x.effort.progress) e ∙ (unfold made drives_frame at_stage in b) in
      heard_sender k w v d ∙ ap hear_own j ∙ own_heard o.tally.frame at v ∙ rw q

  hears_is : (x : Stand) (y : Answering) → k.service ≡ service_in x o.tally → JudgedIn x o.tally v y w → (attempting x ≡ true → drives k ≡ driven_in x o.tally)
      → heard k w v ≡ hears_in x o (longest_of k) (drives k) v
  unfolding hears_in service_in driven_in attempting
  hears_is away y e j q = apart_heard (rw e (unfold resting at_stage drives_frame is_driving in refl)) (rw e (unfold resting at_stage is_answered is_answering in refl))
  hears_is between y e j q = apart_heard (rw e (unfold made at_stage drives_frame is_driving in refl)) (rw e (unfold made at_stage is_answered is_answering in refl))
  hears_is (opening start) y e j q = heard_driven Opening start (unfold is_driving in refl) e j (q refl)
  hears_is (inside start levels) y e j q = heard_driven Sending (start + length levels) (unfold is_driving in refl) e j (q refl)
  hears_is (answered start n) y e j q =
      heard_asker k w v (rw e (unfold made at_stage drives_frame is_driving in refl)) (rw e (unfold made at_stage is_answered is_answering in refl)) ∙ rw s.frame

-- the reply after a sample
reply_same : (k : Core) (o : Observer) → SameCore k o → (x : Stand) → k.service ≡ service_in x o.tally → {m : List ℕ} → Below 256 m → (h : Hearing) (v : ℕ) → Below 256 (reception_judged m h k.reception v).bytes
    → SameReply (reply_after (role_in k) m k (reply_verdict (role_in k) k v) (reception_judged m h k.reception v)) (reply_in x o.reply (longest_of k) m (drives k) v (reception_judged m h k.reception v))
unfolding reply_in service_in
reply_same k o s away e b h v g = apart_reply k o.reply s.reply (rw e (unfold resting at_stage drives_frame is_driving in refl)) (rw e (unfold resting at_stage is_answered is_answering in refl)) b h v g
reply_same k o s between e b h v g = apart_reply k o.reply s.reply (rw e (unfold made at_stage drives_frame is_driving in refl)) (rw e (unfold made at_stage is_answered is_answering in refl)) b h v g
reply_same k o s (opening start) e {m} b h v g = own_reply k o.reply s.reply m _ _ (rw e (unfold made at_stage drives_frame is_driving in refl))
reply_same k o s (inside start levels) e {m} b h v g = own_reply k o.reply s.reply m _ _ (rw e (unfold made at_stage drives_frame is_driving in refl))
reply_same k o s (answered start n) e {m} b h v g =
    asked_reply k o.reply s.reply m _ _ (rw e (unfold made at_stage drives_frame is_driving in refl)) (rw e (unfold made at_stage is_answered is_answering in refl))

-- ---- a waiting idle that has come due

pub serving_in : (x : Stand) (t : Tally) → serving (service_in x t) ≡ not (is_away x)
unfolding service_in serving in_service is_serving made resting at_stage is_away
serving_in away t = refl
serving_in between t = refl
serving_in (opening start) t = refl
serving_in (inside start levels) t = refl
serving_in (answered start n) t = refl

pub serving_is : (s : Service) (t : Tally) → s ≡ service_of t → serving s ≡ not (is_away t.stand)
unfolding service_of
serving_is s t e = ap serving e ∙ serving_in t.stand t

idle_same : (k : Core) (o : Observer) → SameCore k o → serving k.service ≡ not (is_away o.tally.stand) → SameCore (idle_due k) (idle_o o)
unfolding idle_due idle_o
idle_same k o s e = go k.activity.waiting o.activity.waiting (ap (λ (x : Activity). x.waiting) s.activity) (serving k.service) (is_away o.tally.stand) e
  where
    go : (a b : Bool) → a ≡ b → (x y : Bool) → x ≡ not y → SameCore (pick a (pick x k (idled k)) k) (pick b (pick y (with_reply_o (with_frame_o (with_activity_o o (in_mode Idle false)) quiet) silent) o) o)
    go true false w x y h = absurd (false≢true (sym w))
    go false true w x y h = absurd (false≢true w)
    go true true w true true h = absurd (false≢true (sym h))
    go true true w true false h = s
    go true true w false true h = unfold idled in record { activity = refl; line = s.line; frame = refl; reply = silent_same }
    go true true w false false h = absurd (false≢true h)
    go false false w x y h = s

pub idle_tally : (o : Observer) → (idle_o o).tally ≡ o.tally
unfolding idle_o
idle_tally o = left (λ (x : Observer). x.tally) o.activity.waiting (pick (is_away o.tally.stand) (with_reply_o (with_frame_o (with_activity_o o (in_mode Idle false)) quiet) silent) o) o o.tally
    (left (λ (x : Observer). x.tally) (is_away o.tally.stand) (with_reply_o (with_frame_o (with_activity_o o (in_mode Idle false)) quiet) silent) o o.tally refl refl) refl

-- ---- what a write commands

commanded_same : (k : Core) (o : Observer) → SameCore k o → (a v : ℕ) → SameCore (core_written k a v) (commanded_o o a v)
unfolding core_written commanded_o mode_commanded idle_asked activated idle_asked_o activated_o
commanded_same k o s a v =
    let m : is_active k.activity.mode ≡ is_active o.activity.mode = ap (λ (x : Activity). is_active x.mode) s.activity in
    rw m (go (eqb a command) (eqb a interrupt_reset) (asks_idle v) (asks_activation v) (is_active o.activity.mode))
  where
    go : (x y p q r : Bool) → SameCore
        (pick x (pick p (pick r (with_activity k (in_mode Active true)) k) (pick q (pick r (with_activity k (in_mode Active false)) (with_line (with_activity k (in_mode Active false)) unsettled)) k)) (pick y (flags_cleared k v) k))
        (pick x (pick p (pick r (with_activity_o o (in_mode Active true)) o) (pick q (pick r (with_activity_o o (in_mode Active false)) (with_line_o (with_activity_o o (in_mode Active false)) (anew false))) o)) o)
    go true y true q true = record { activity = refl; line = s.line; frame = s.frame; reply = s.reply }
    go true y true q false = s
    go true y false true true = record { activity = refl; line = s.line; frame = s.frame; reply = s.reply }
    go true y false true false = record { activity = refl; line = unfold unsettled in line_anew false; frame = s.frame; reply = s.reply }
    go true y false false r = s
    go false true p q r = unfold flags_cleared in record { activity = s.activity; line = s.line; frame = s.frame; reply = s.reply }
    go false false p q r = s

-- ---- controller and observer belong together

-- idle and asleep there is no service, no frame under way and no reply
pub record Rests (o : Observer) : Type 0 where
  pub none_serves : is_away o.tally.stand ≡ true
  pub none_comes : under_way o.frame.place ≡ false
  pub none_replies : is_replying o.reply ≡ false

abbrev pub Rested : Observer → Type 0
Rested o = is_active o.activity.mode ≡ false → Rests o

pub record Same (c : Controller) (o : Observer) : Type 0 where
  pub core : SameCore c.core o
  pub joined : Joined c o.tally
  pub rested : Rested o
  pub diagnosis : c.core.diagnosis ≡ o.diagnosis

-- neither looks at the diagnosis
same_beside : (k : Core) (o : Observer) (x y : Diagnosis) → SameCore k o → SameCore (with_diagnosis k x) (with_diagnosis_o o y)
same_beside k o x y i = record { activity = i.activity; line = i.line; frame = i.frame; reply = i.reply }

rested_beside : (o : Observer) (y : Diagnosis) → Rested o → Rested (with_diagnosis_o o y)
rested_beside o y r h = let q = r h in record { none_serves = q.none_serves; none_comes = q.none_comes; none_replies = q.none_replies }

quiet_apart : under_way quiet.place ≡ false
unfolding quiet at_place under_way is_under_way
quiet_apart = refl

reset_rested : Rested at_reset
unfolding at_reset none
reset_rested a = record { none_serves = unfold is_away in refl; none_comes = quiet_apart; none_replies = unfold is_replying in refl }

idle_rested : (o : Observer) → Rested o → Rested (idle_o o)
unfolding idle_o
idle_rested o r = go o.activity.waiting (is_away o.tally.stand) refl
  where
    go : (x y : Bool) → is_away o.tally.stand ≡ y → Rested (pick x (pick y (with_reply_o (with_frame_o (with_activity_o o (in_mode Idle false)) quiet) silent) o) o)
    go true true e a = record { none_serves = e; none_comes = quiet_apart; none_replies = unfold is_replying in refl }
    go true false e a = r a
    go false y e a = r a

-- the choice and the start wait for an active controller
start_away : (t : Tally) (m : List ℕ) (b : Bool) (r : Reception) → is_away t.stand ≡ true → is_away (start_t t m b r).stand ≡ true
unfolding start_t
start_away t m b r e = go t.stand refl e
  where
    go : (x : Stand) → t.stand ≡ x → is_away x ≡ true → is_away (start_in x t m b r).stand ≡ true
    go away h a = unfold start_in in rw h (unfold is_away in refl)
    go between h a = absurd (false≢true (unfold is_away in a))
    go (opening start) h a = absurd (false≢true (unfold is_away in a))
    go (inside start levels) h a = absurd (false≢true (unfold is_away in a))
    go (answered start n) h a = absurd (false≢true (unfold is_away in a))

choose_away : (t : Tally) (m : List ℕ) (longest : ℕ) (r : Reception) → is_away t.stand ≡ true → is_away (choose_t t m longest false r).stand ≡ true
unfolding choose_t
choose_away t m longest r e = go t.stand refl e
  where
    go : (x : Stand) → t.stand ≡ x → is_away x ≡ true → is_away (choose_in x t m longest false r).stand ≡ true
    go away h a = unfold choose_in in rw h (unfold is_away in refl)
    go between h a = absurd (false≢true (unfold is_away in a))
    go (opening start) h a = absurd (false≢true (unfold is_away in a))
    go (inside start levels) h a = absurd (false≢true (unfold is_away in a))
    go (answered start n) h a = absurd (false≢true (unfold is_away in a))

goes_on_rested : (o : Observer) (longest : ℕ) (m : List ℕ) → Rested o → Rested (goes_on_o o longest m)
unfolding goes_on_o
goes_on_rested o longest m r a =
    record {
      none_serves = start_away (choose_t o.tally m longest (is_active o.activity.mode) o.frame) m (free_o o.line) o.frame (rw a (choose_away o.tally m longest o.frame (r a).none_serves));
      none_comes = (r a).none_comes;
      none_replies = (r a).none_replies;
    }

commanded_rested : (o : Observer) (a v : ℕ) → Rested o → Rested (commanded_o o a v)
unfolding commanded_o idle_asked_o activated_o
commanded_rested o a v r = go (eqb a command) (asks_idle v) (asks_activation v) (is_active o.activity.mode)
  where
    go : (x p q b : Bool) → Rested (pick x (pick p (pick b (with_activity_o o (in_mode Active true)) o) (pick q (pick b (with_activity_o o (in_mode Active false)) (with_line_o (with_activity_o o (in_mode Active false)) (anew false))) o)) o)
    go true true q true h = absurd (false≢true (sym (unfold in_mode is_active in h)))
    go true true q false h = r h
    go true false true true h = absurd (false≢true (sym (unfold in_mode is_active in h)))
    go true false true false h = absurd (false≢true (sym (unfold in_mode is_active in h)))
    go true false false b h = r h
    go false p q b h = r h

away_ended : (t : Tally) (a v : ℕ) → is_away t.stand ≡ true → is_away (ended_t (asked_t t a v)).stand ≡ true
unfolding asked_t
away_ended t a v e = go t.stand refl e
  where
    go : (x : Stand) → t.stand ≡ x → is_away x ≡ true → is_away (ended_t (asked_in x t a v)).stand ≡ true
    go away h i = unfold asked_in ended_t in rw h (unfold ended_in none is_away in refl)
    go between h i = absurd (false≢true (unfold is_away in i))
    go (opening start) h i = absurd (false≢true (unfold is_away in i))
    go (inside start levels) h i = absurd (false≢true (unfold is_away in i))
    go (answered start n) h i = absurd (false≢true (unfold is_away in i))

wrote_rested : (m : List ℕ) (o : Observer) (a v : ℕ) → Rested o → Rested (written_o m o a v)
unfolding written_o
wrote_rested m o a v r = go (resets a v) (sleeps a v)
  where
    -- a command that leaves the controller idle or asleep found it so
    same_mode : is_active (commanded_o o a v).activity.mode ≡ false → is_active o.activity.mode ≡ false
    same_mode = unfold commanded_o idle_asked_o activated_o in modes (eqb a command) (asks_idle v) (asks_activation v) (is_active o.activity.mode) refl
      where
        modes : (x p q b : Bool) → is_active o.activity.mode ≡ b → is_active (pick x (pick p (pick b (with_activity_o o (in_mode Active true)) o) (pick q (pick b (with_activity_o o (in_mode Active false)) (with_line_o (with_activity_o o (in_mode Active false)) (anew false))) o)) o).activity.mode ≡ false → is_active o.activity.mode ≡ false
        modes true true q true e h = absurd (false≢true (sym (unfold in_mode is_active in h)))
        modes true true q false e h = e
        modes true false true true e h = absurd (false≢true (sym (unfold in_mode is_active in h)))
        modes true false true false e h = e
        modes true false false b e h = h
        modes false p q b e h = h

    byte : Rested (with_tally_o (commanded_o o a v) (ended_t (asked_t o.tally a v)))
    byte h = record { none_serves = away_ended o.tally a v (r (same_mode h)).none_serves; none_comes = (commanded_rested o a v r h).none_comes; none_replies = (commanded_rested o a v r h).none_replies }

    go : (x y : Bool) → Rested (pick x at_reset (pick y (with_reply_o (with_tally_o (with_frame_o (with_activity_o o (in_mode Asleep false)) quiet) none) silent) (with_diagnosis_o (idle_o (with_tally_o (commanded_o o a v) (ended_t (asked_t o.tally a v)))) (diagnosis_written m o.diagnosis a v))))
    go true y = reset_rested
    go false true = λ h. record { none_serves = unfold none is_away in refl; none_comes = quiet_apart; none_replies = unfold is_replying in refl }
    go false false = rested_beside _ _ (idle_rested (with_tally_o (commanded_o o a v) (ended_t (asked_t o.tally a v))) byte)

slot_rested : (o : Observer) (longest d v : ℕ) (m : List ℕ) → is_active o.activity.mode ≡ true → Rested (idle_o (sampled_o o longest d v m))
unfolding sampled_o
slot_rested o longest d v m a = idle_rested _ (λ h. absurd (false≢true (sym h ∙ a)))

-- mode, line and frame after a host write
module _ (c : Controller) (o : Observer) (s : Same c o) (a v : ℕ) where
  byte_same : SameCore (byte_written c a v).core (with_diagnosis_o (idle_o (with_tally_o (commanded_o o a v) (ended_t (asked_t o.tally a v)))) (diagnosis_written c.memory o.diagnosis a v))
  unfolding byte_written stopped_core
  byte_same =
      let x : Service = service_asked c.core.service a v in
      let k : Core = core_written c.core a v in
      let i = commanded_same c.core o s.core a v in
      same_beside _ _ _ _
      (idle_same (with_service (with_report k (report_ended (stopped x) k.report x)) (settled (stopped x) x)) (with_tally_o (commanded_o o a v) (ended_t (asked_t o.tally a v)))
      (record { activity = i.activity; line = i.line; frame = i.frame; reply = i.reply }) (serving_is _ (ended_t (asked_t o.tally a v)) (settled_asked c o.tally s.joined a v)))

  wrote_core : SameCore (host_written c a v).core (written_o c.memory o a v)
  unfolding host_written written_o
  wrote_core = go (resets a v) (sleeps a v)
    where
      go : (x y : Bool) → SameCore (pick x (reset_all c) (pick y (record { memory = c.memory; core = slept c.core }) (byte_written c a v))).core
          (pick x at_reset (pick y (with_reply_o (with_tally_o (with_frame_o (with_activity_o o (in_mode Asleep false)) quiet) none) silent) (with_diagnosis_o (idle_o (with_tally_o (commanded_o o a v) (ended_t (asked_t o.tally a v)))) (diagnosis_written c.memory o.diagnosis a v))))
      go true y = unfold reset_all reset_core at_reset unsettled in record { activity = refl; line = line_anew false; frame = refl; reply = silent_same }
      go false true = unfold slept in record { activity = refl; line = s.core.line; frame = refl; reply = silent_same }
      go false false = byte_same

  wrote_tally : pick (resets a v) none (pick (sleeps a v) none (ended_t (asked_t o.tally a v))) ≡ (written_o c.memory o a v).tally
  unfolding written_o
  wrote_tally = go (resets a v) (sleeps a v)
    where
      go : (x y : Bool) → pick x none (pick y none (ended_t (asked_t o.tally a v)))
          ≡ (pick x at_reset (pick y (with_reply_o (with_tally_o (with_frame_o (with_activity_o o (in_mode Asleep false)) quiet) none) silent) (with_diagnosis_o (idle_o (with_tally_o (commanded_o o a v) (ended_t (asked_t o.tally a v)))) (diagnosis_written c.memory o.diagnosis a v)))).tally
      go true y = unfold at_reset in refl
      go false true = refl
      go false false = sym (idle_tally (with_tally_o (commanded_o o a v) (ended_t (asked_t o.tally a v))))

  wrote_diagnosis : (host_written c a v).core.diagnosis ≡ (written_o c.memory o a v).diagnosis
  unfolding host_written written_o
  wrote_diagnosis = go (resets a v) (sleeps a v)
    where
      go : (x y : Bool) → (pick x (reset_all c) (pick y (record { memory = c.memory; core = slept c.core }) (byte_written c a v))).core.diagnosis
          ≡ (pick x at_reset (pick y (with_reply_o (with_tally_o (with_frame_o (with_activity_o o (in_mode Asleep false)) quiet) none) silent) (with_diagnosis_o (idle_o (with_tally_o (commanded_o o a v) (ended_t (asked_t o.tally a v)))) (diagnosis_written c.memory o.diagnosis a v)))).diagnosis
      go true y = unfold reset_all reset_core at_reset in refl
      go false true = unfold slept in s.diagnosis
      go false false = unfold byte_written in ap (λ (x : Diagnosis). diagnosis_written c.memory x a v) s.diagnosis

-- the state once a sample and its effects are taken
unfoldable pub judged_core : Controller → ℕ → Core
judged_core c v =
    core_judged (sampled_slot c v).memory c.core (slot_rule.verdict c.core v) (reply_verdict (role_in c.core) c.core v) (heard c.core (slot_rule.verdict c.core v) v) v

abbrev pub after : Controller → Observer → ℕ → List ℕ → Observer
after c o v m = idle_o (sampled_o o (longest_of c.core) (drives c.core) v m)

-- mode, line, frame and reply after a slot of an active controller
module _ (c : Controller) (o : Observer) (s : Same c o) (v : ℕ) where
  pub hears_same : heard c.core (slot_rule.verdict c.core v) v ≡ hears_o o (longest_of c.core) (drives c.core) v
  unfolding hears_o
  hears_same =
      hears_is c.core o s.core (slot_rule.verdict c.core v) v o.tally.stand (answer_c c v) (unfold service_of in s.joined.service) (is_judged c o.tally s.joined v)
      (driven_is c o.tally s.joined)

  -- the tally once the sample's effects are taken
  pub ended_same : (m : List ℕ) → ended_c c o.tally v ≡ (sampled_o o (longest_of c.core) (drives c.core) v m).tally
  unfolding ended_c sampled_o fulfilled_o answer_o
  ended_same m =
      let t : Tally = o.tally in
      let k : Core = c.core in
      let x : Tally = ended_t (counted_t t (drives k) v (answer_c c v)) in
      ap (λ (b : Bool). pick (fulfilled_t t b k.reception (heard k (slot_rule.verdict k v) v)) none x) (same_going s.core.reply)
      ∙ ap (λ (h : Hearing). pick (fulfilled_t t (is_replying o.reply) k.reception h) none x) hears_same
      ∙ ap (λ (r : Reception). pick (fulfilled_t t (is_replying o.reply) r (hears_o o (longest_of k) (drives k) v)) none (ended_t (counted_t t (drives k) v (answer_in (hear_frame r (longest_of k) v) r)))) s.core.frame

module _ (c : Controller) (o : Observer) (s : Same c o) (f : Fine c) (v : ℕ) (small : v < 2) (bytes : Below 256 (sampled_slot c v).memory) where
  judged_same : SameCore (judged_core c v) (sampled_o o (longest_of c.core) (drives c.core) v (sampled_slot c v).memory)
  unfolding judged_core core_judged sampled_o
  judged_same =
      let m : List ℕ = (sampled_slot c v).memory in
      let h : Hearing = hears_o o (longest_of c.core) (drives c.core) v in
      let r : Received c.core.reception = record { limits = f.limits.reception; bytes = f.received } in
      rw (hears_same c o s v)
      (record {
        activity = s.core.activity;
        line = line_heard c.core.line o.line s.core.line h v small;
        frame = ap (λ (r : Reception). reception_judged m h r v) s.core.frame;
        reply =
            subst (λ (r : Reception). SameReply (reply_after (role_in c.core) m c.core (reply_verdict (role_in c.core) c.core v) (reception_judged m h c.core.reception v)) (reply_in o.tally.stand o.reply (longest_of c.core) m (drives c.core) v (reception_judged m h r v)))
            s.core.frame (reply_same c.core o s.core o.tally.stand (unfold service_of in s.joined.service) bytes h v (judged_received bytes h c.core.reception v r).bytes);
      })

  pub judged_service : (judged_core c v).service ≡ service_of (ended_c c o.tally v)
  unfolding judged_core
  judged_service = sampled_service c o.tally s.joined v (sampled_slot c v).memory

  pub idled_core : SameCore (idle_due (judged_core c v)) (after c o v (sampled_slot c v).memory)
  idled_core =
      let m : List ℕ = (sampled_slot c v).memory in
      let e : (judged_core c v).service ≡ service_of (sampled_o o (longest_of c.core) (drives c.core) v m).tally = judged_service ∙ ap service_of (ended_same c o s v m) in
      idle_same (judged_core c v) (sampled_o o (longest_of c.core) (drives c.core) v m) judged_same (serving_is (judged_core c v).service _ e)

  slot_core : SameCore (sampled_slot c v).core (after c o v (sampled_slot c v).memory)
  slot_core =
      let m : List ℕ = (sampled_slot c v).memory in
      let k : Core = judged_core c v in
      let e : (sampled_slot c v).core ≡ follows_on m k = unfold sampled_slot judged_slot judged_core in refl in
      let i = idled_core in
      record {
        activity = ap (λ (x : Core). x.activity) e ∙ follows_activity m k ∙ i.activity;
        line = subst (λ (x : Line). LineIs x (after c o v m).line) (sym (ap (λ (x : Core). x.line) e ∙ follows_line m k)) i.line;
        frame = ap (λ (x : Core). x.reception) e ∙ follows_reception m k ∙ i.frame;
        reply = subst (λ (x : ImmediateReply). SameReply x (after c o v m).reply) (sym (ap (λ (x : Core). x.reply) e ∙ follows_reply m k)) i.reply;
      }

  slot_tally : after_slot (ended_c c o.tally v) (sampled_slot c v) ≡ (goes_on_o (after c o v (sampled_slot c v).memory) (longest_of c.core) (sampled_slot c v).memory).tally
  unfolding after_slot goes_on_o
  slot_tally =
      let i = slot_core in
      let m : List ℕ = (sampled_slot c v).memory in
      let t : (after c o v m).tally ≡ ended_c c o.tally v = idle_tally (sampled_o o (longest_of c.core) (drives c.core) v m) ∙ sym (ended_same c o s v m) in
      rw (i.activity, line_free (sampled_slot c v).core.line (after c o v m).line i.line, i.frame, t)

goes_on_same : (k : Core) (o : Observer) (longest : ℕ) (m : List ℕ) → SameCore k o → SameCore k (goes_on_o o longest m)
unfolding goes_on_o
goes_on_same k o longest m i = record { activity = i.activity; line = i.line; frame = i.frame; reply = i.reply }

-- ---- what the claim says of it

counted_same : (x : Stand) (s : Service) (t : Tally) → s ≡ service_in x t → is_away x ≡ false → Counted s t
unfolding service_in is_away made counters_of
counted_same away s t e a = absurd (false≢true (sym a))
counted_same between s t e a = rw e (record { channel = refl; setting = refl; lost = refl; errors = refl; slots = refl })
counted_same (opening start) s t e a = rw e (record { channel = refl; setting = refl; lost = refl; errors = refl; slots = refl })
counted_same (inside start levels) s t e a = rw e (record { channel = refl; setting = refl; lost = refl; errors = refl; slots = refl })
counted_same (answered start n) s t e a = rw e (record { channel = refl; setting = refl; lost = refl; errors = refl; slots = refl })

quiet_level : (r : Reception) → under_way r.place ≡ false → receiver_level r ≡ 1
unfolding receiver_level under_way
quiet_level r u = rw (quiet_phase r.place.phase u) (unfold receiver_in in refl)

module _ (c : Controller) (o : Observer) (s : Same c o) where
  other_level : drives_frame c.core.service.effort.progress ≡ false → is_answered c.core.service.effort.progress ≡ false → c.core.reply.going ≡ false → drives c.core ≡ receiver_level o.frame
  unfolding drives
  other_level d a y = rw (role_other c.core.service.effort.progress c.core.reply.going c.core.reception.place d a y, ← s.core.frame) (go (under_way c.core.reception.place) refl)
    where
      go : (u : Bool) → under_way c.core.reception.place ≡ u → drives_as (pick u Receiver Nobody) c.core ≡ receiver_level c.core.reception
      go true u = unfold drives_as in refl
      go false u = unfold drives_as in sym (quiet_level c.core.reception u)

  apart_role : drives_frame c.core.service.effort.progress ≡ false → is_answered c.core.service.effort.progress ≡ false → role_in c.core ≡ role_apart o.reply c.core.reception.place
  apart_role d a = go o.reply refl
    where
      go : (y : Replying) → o.reply ≡ y → role_in c.core ≡ role_apart y c.core.reception.place
      go silent e = unfold role_apart in role_other c.core.service.effort.progress c.core.reply.going c.core.reception.place d a (same_going s.core.reply ∙ rw e (unfold is_replying in refl))
      go (replies n f levels) e = unfold role_apart in is_replier c.core o.reply s.core.reply d a n f levels e

  apart_level : drives_frame c.core.service.effort.progress ≡ false → is_answered c.core.service.effort.progress ≡ false → drives c.core ≡ level_apart o.reply o
  apart_level d a = go o.reply refl
    where
      go : (y : Replying) → o.reply ≡ y → drives c.core ≡ level_apart y o
      go silent e = unfold level_apart in other_level d a (same_going s.core.reply ∙ rw e (unfold is_replying in refl))
      go (replies n f levels) e = unfold level_apart in reply_level c.core o.reply s.core.reply d a n f levels e

  asker_level : drives_frame c.core.service.effort.progress ≡ false → is_answered c.core.service.effort.progress ≡ true → drives c.core ≡ receiver_level o.frame
  unfolding drives
  asker_level d a = rw (role_asker c.core.service.effort.progress c.core.reply.going c.core.reception.place d a, ← s.core.frame) (unfold drives_as in refl)

  role_is_as : (x : Stand) → c.core.service ≡ service_in x o.tally → role_in c.core ≡ role_as x o.reply o.frame.place
  unfolding role_as service_in
  role_is_as x e = rw (← s.core.frame) (go x e)
    where
      go : (x : Stand) → c.core.service ≡ service_in x o.tally → role_in c.core ≡ role_as x o.reply c.core.reception.place
      go away e = apart_role (rw e (unfold resting at_stage drives_frame is_driving in refl)) (rw e (unfold resting at_stage is_answered is_answering in refl))
      go between e = apart_role (rw e (unfold made at_stage drives_frame is_driving in refl)) (rw e (unfold made at_stage is_answered is_answering in refl))
      go (opening start) e = role_sender c.core.service.effort.progress c.core.reply.going c.core.reception.place (rw e (unfold made at_stage drives_frame is_driving in refl))
      go (inside start levels) e = role_sender c.core.service.effort.progress c.core.reply.going c.core.reception.place (rw e (unfold made at_stage drives_frame is_driving in refl))
      go (answered start n) e =
          role_asker c.core.service.effort.progress c.core.reply.going c.core.reception.place (rw e (unfold made at_stage drives_frame is_driving in refl)) (rw e (unfold made at_stage is_answered is_answering in refl))

  level_driven : (x : Stand) → o.tally.stand ≡ x → c.core.service ≡ service_in x o.tally → drives c.core ≡ level_in x o
  unfolding level_in service_in
  level_driven away e h = apart_level (rw h (unfold resting at_stage drives_frame is_driving in refl)) (rw h (unfold resting at_stage is_answered is_answering in refl))
  level_driven between e h = apart_level (rw h (unfold made at_stage drives_frame is_driving in refl)) (rw h (unfold made at_stage is_answered is_answering in refl))
  level_driven (opening start) e h = level_is c o.tally s.joined (rw e (unfold attempting in refl)) ∙ rw e (unfold bound.level_in in refl)
  level_driven (inside start levels) e h = level_is c o.tally s.joined (rw e (unfold attempting in refl)) ∙ rw e (unfold bound.level_in in refl)
  level_driven (answered start n) e h = asker_level (rw h (unfold made at_stage drives_frame is_driving in refl)) (rw h (unfold made at_stage is_answered is_answering in refl))

  at_rest : is_active o.activity.mode ≡ false → drives c.core ≡ 1
  at_rest a =
      let r : Rests o = s.rested a in
      let e : c.core.service ≡ resting = away_service o.tally.stand (unfold service_of in s.joined.service) r.none_serves in
      other_level (rw e (unfold resting at_stage drives_frame is_driving in refl)) (rw e (unfold resting at_stage is_answered is_answering in refl)) (same_going s.core.reply ∙ r.none_replies) ∙ quiet_level o.frame r.none_comes
    where
      away_service : (x : Stand) → c.core.service ≡ service_in x o.tally → is_away x ≡ true → c.core.service ≡ resting
      away_service away h i = h ∙ unfold service_in in refl
      away_service between h i = absurd (false≢true (unfold is_away in i))
      away_service (opening start) h i = absurd (false≢true (unfold is_away in i))
      away_service (inside start levels) h i = absurd (false≢true (unfold is_away in i))
      away_service (answered start n) h i = absurd (false≢true (unfold is_away in i))

  level_now : (a : Bool) → is_active o.activity.mode ≡ a → drives c.core ≡ pick a (level_in o.tally.stand o) 1
  level_now true a = level_driven o.tally.stand refl (unfold service_of in s.joined.service)
  level_now false a = at_rest a

  pub agrees : Agrees c o
  unfolding level_o
  agrees =
      let e : c.core.service ≡ service_in o.tally.stand o.tally = unfold service_of in s.joined.service in
      record {
        activity = s.core.activity;
        free_line = line_free c.core.line o.line s.core.line;
        start_taken = line_starts c.core.line o.line s.core.line;
        frame = s.core.frame;
        role = role_is_as o.tally.stand e;
        service = serving_is c.core.service o.tally s.joined.service;
        counts = counted_same o.tally.stand c.core.service o.tally e;
        level = level_now (is_active o.activity.mode) refl;
        diagnosis = s.diagnosis;
      }

-- ---- the diagnosis

not_asleep : (m : Mode) → is_active m ≡ true → is_asleep m ≡ false
unfolding is_active is_asleep
not_asleep Idle e = refl
not_asleep Active e = refl
not_asleep Asleep e = absurd (false≢true e)

own_apart : (y : Replying) (here : Place) → own_frame (role_apart y here) ≡ is_replying y
unfolding role_apart own_frame is_replying
own_apart silent here = left own_frame (under_way here) Receiver Nobody false refl refl
own_apart (replies n f levels) here = refl

own_is : (x : Stand) (y : Replying) (here : Place) → own_frame (role_as x y here) ≡ own_in x y
unfolding role_as own_in own_frame
own_is away y here = own_apart y here
own_is between y here = own_apart y here
own_is (opening start) y here = refl
own_is (inside start levels) y here = refl
own_is (answered start n) y here = refl

-- the level driven does not look at the diagnosis
drives_as_beside : (r : Role) (k : Core) (x : Diagnosis) → drives_as r (with_diagnosis k x) ≡ drives_as r k
unfolding drives_as
drives_as_beside Nobody k x = refl
drives_as_beside Receiver k x = refl
drives_as_beside Sender k x = refl
drives_as_beside Asker k x = refl
drives_as_beside Replier k x = refl

pub drives_beside : (k : Core) (x : Diagnosis) → drives (with_diagnosis k x) ≡ drives k
unfolding drives
drives_beside k x = drives_as_beside (role_in k) k x

-- ---- every event

-- controller and observer still belong together, and the observer's tally is the one stepped beside the controller
pub record Followed (c : Controller) (o : Observer) (e : Event) : Type 0 where
  pub same : Same (next c e) (next_o c o e)
  pub tally : next_t c o.tally e ≡ (next_o c o e).tally

-- y: an answer that comes is not at its longest
module _ (c : Controller) (o : Observer) (s : Same c o) (f : Fine c) (y : (v : ℕ) → v < 2 → Coming (longest_of c.core) o.tally.stand (answer_c c v)) where
  same_as : (e : Event) (d : Controller) (u : Observer) → next c e ≡ d → next_o c o e ≡ u → next_t c o.tally e ≡ u.tally → SameCore d.core u → Rested u → d.core.diagnosis ≡ u.diagnosis → Followed c o e
  same_as e d u n m t k r x =
      let q : next_t c o.tally e ≡ (next_o c o e).tally = t ∙ ap (λ (x : Observer). x.tally) (sym m) in
      record {
        same = record { core = rw (n, m) k; joined = subst (λ (x : Tally). Joined (next c e) x) q (joined_next c o.tally s.joined f y e (step_of c e)); rested = rw m r; diagnosis = rw (n, m) x };
        tally = q;
      }

  pub taken : (e : Event) (value : ℕ) (d : Controller) → step c e ≡ accept value d → next_o c o e ≡ observer.follow_o c o e
  unfolding next_o
  taken e value d h = rw (accepted_so c o.tally e value d h)

  pub active_is : is_active c.core.activity.mode ≡ is_active o.activity.mode
  active_is = ap (λ (x : Activity). is_active x.mode) s.core.activity

  pub followed_by : (l : ℕ) (x : Controller) → is_active o.activity.mode ≡ true → next c (Slot l) ≡ x
      → observer.follow_o c o (Slot l) ≡ with_diagnosis_o (goes_on_o (after c o (sample_of c l) x.memory) (longest_of c.core) x.memory) (diagnosis_o c o l)
  unfolding observer.follow_o
  followed_by l x a n = rw (a, n)

  tallied_by : (l : ℕ) (x : Controller) → is_active c.core.activity.mode ≡ true → next c (Slot l) ≡ x
      → beside.follow_t c o.tally (Slot l) ≡ after_slot (ended_c c o.tally (sample_of c l)) x
  unfolding beside.follow_t beside.seen_in
  tallied_by l x a n = rw (a, n)

  pub rested_by : (l : ℕ) → is_active o.activity.mode ≡ false → observer.follow_o c o (Slot l) ≡ with_diagnosis_o o (diagnosis_o c o l)
  unfolding observer.follow_o
  rested_by l a = rw a

  pub bytes_after : (l : ℕ) (x : Controller) → next c (Slot l) ≡ x → Below 256 x.memory
  bytes_after l x n = subst (λ (z : Controller). Below 256 z.memory) n (fine_next c (Slot l) f).memory

  -- the diagnosis: both count the same edges, find the same turn of the model's own frame and the same end of a good frame
  turns_same : (l : ℕ) → is_active o.activity.mode ≡ true → (x : Diagnosis) → next c (Slot l) ≡ with_diagnosis_c (sampled_slot c (sample_of c l)) x → turns c.core (sampled_slot c (sample_of c l)).core ≡ turns_o c o l
  unfolding turns turns_o
  turns_same l b x n =
      let own : own_frame (role_in c.core) ≡ own_in o.tally.stand o.reply = ap own_frame (agrees c o s).role ∙ own_is o.tally.stand o.reply o.frame.place in
      let d : drives (next c (Slot l)).core ≡ drives (sampled_slot c (sample_of c l)).core = ap (λ (y : Controller). drives y.core) n ∙ drives_beside (sampled_slot c (sample_of c l)).core x in
      rw (b, own, d)

  ended_same_as : (l : ℕ) → is_active o.activity.mode ≡ true → slot_rule.ended c (sample_of c l) ≡ ended_o c o l
  unfolding slot_rule.ended ended_o
  ended_same_as l b = rw (b, hears_same c o s (sample_of c l))

  went_diagnosis : (l : ℕ) → is_active o.activity.mode ≡ true → (x : Diagnosis) → next c (Slot l) ≡ with_diagnosis_c (sampled_slot c (sample_of c l)) x → (active_slot c l).core.diagnosis ≡ diagnosis_o c o l
  unfolding active_slot diagnosed_slot diagnosis_after diagnosis_o
  went_diagnosis l b x n = rw (not_asleep o.activity.mode b, turns_same l b x n, ended_same_as l b, s.diagnosis)

  rested_diagnosis : (l : ℕ) → is_active o.activity.mode ≡ false → (resting_slot c l).core.diagnosis ≡ diagnosis_o c o l
  unfolding resting_slot diagnosis_o turns_o ended_o
  rested_diagnosis l b = go (is_asleep c.core.activity.mode) (ap (λ (x : Activity). is_asleep x.mode) (sym s.core.activity))
    where
      go : (y : Bool) → is_asleep o.activity.mode ≡ y → (pick y c (diagnosed_slot c l c false false)).core.diagnosis ≡ pick (is_asleep o.activity.mode) o.diagnosis (diagnosed (get_or c.memory diagnosis_control 0) (levels_of c l) (both (is_active o.activity.mode) (both (own_in o.tally.stand o.reply) (both (eqb (drives c.core) 0) (eqb (drives (next c (Slot l)).core) 1)))) (both (is_active o.activity.mode) (ends_well (hears_o o (longest_of c.core) (drives c.core) (sample_of c l)))) o.diagnosis)
      go true e = rw e s.diagnosis
      go false e = rw (e, b) (unfold diagnosed_slot diagnosis_after in ap (diagnosed (get_or c.memory diagnosis_control 0) (levels_of c l) false false) s.diagnosis)

  went_same : (l : ℕ) → is_active c.core.activity.mode ≡ true → step c (Slot l) ≡ run.answered (active_slot c l) → Followed c o (Slot l)
  went_same l a h =
      let v : ℕ = sample_of c l in
      let small : v < 2 = sample_small c l in
      let x : Controller = sampled_slot c v in
      let z : Diagnosis = (active_slot c l).core.diagnosis in
      let t : Tally = o.tally in
      let n : next c (Slot l) ≡ with_diagnosis_c x z = went_next c t l h in
      let u : Observer = goes_on_o (after c o v x.memory) (longest_of c.core) x.memory in
      let m₁ : next_o c o (Slot l) ≡ observer.follow_o c o (Slot l) = unfold run.answered in taken (Slot l) _ (active_slot c l) h in
      let b : is_active o.activity.mode ≡ true = sym active_is ∙ a in
      let m₂ : observer.follow_o c o (Slot l) ≡ with_diagnosis_o u (diagnosis_o c o l) = followed_by l (with_diagnosis_c x z) b n in
      let t₁ : next_t c t (Slot l) ≡ beside.follow_t c t (Slot l) = unfold run.answered in accepted_tally c t (Slot l) _ (active_slot c l) h in
      let t₂ : beside.follow_t c t (Slot l) ≡ after_slot (ended_c c t v) x = tallied_by l (with_diagnosis_c x z) a n ∙ after_beside (ended_c c t v) x z in
      let i : Below 256 x.memory = bytes_after l (with_diagnosis_c x z) n in
      same_as (Slot l) (with_diagnosis_c x z) (with_diagnosis_o u (diagnosis_o c o l)) n (m₁ ∙ m₂) (t₁ ∙ t₂ ∙ slot_tally c o s f v small i)
      (same_beside _ _ _ _ (goes_on_same x.core (after c o v x.memory) (longest_of c.core) x.memory (slot_core c o s f v small i)))
      (rested_beside _ _ (goes_on_rested (after c o v x.memory) (longest_of c.core) x.memory (slot_rested o (longest_of c.core) (drives c.core) v x.memory b)))
      (went_diagnosis l b z n)

  pub same_next : (e : Event) → Step c e → Followed c o e
  same_next e (refusal n h) =
      same_as e c o (refused_next c o.tally e n h) (unfold next_o in rw (refused_not c o.tally e n h)) (unfold next_t in rw (refused_not c o.tally e n h)) s.core s.rested s.diagnosis
  same_next Reset (reset h) =
      let t : next_t c o.tally Reset ≡ at_reset.tally = accepted_tally c o.tally Reset 0 (reset_all c) h ∙ unfold beside.follow_t at_reset in refl in
      same_as Reset (reset_all c) at_reset (accepted_next c o.tally Reset 0 (reset_all c) h) (taken Reset 0 (reset_all c) h ∙ unfold observer.follow_o in refl) t
      (unfold reset_all reset_core at_reset unsettled in record { activity = refl; line = line_anew false; frame = refl; reply = silent_same }) reset_rested (unfold reset_all reset_core at_reset in refl)
  same_next (Write a v) (wrote h) =
      let x : Controller = host_written c a (v % 256) in
      let u : Observer = written_o c.memory o a (v % 256) in
      let m : next_o c o (Write a v) ≡ u = taken (Write a v) 0 x h ∙ unfold observer.follow_o in refl in
      let t : next_t c o.tally (Write a v) ≡ u.tally = accepted_tally c o.tally (Write a v) 0 x h ∙ unfold beside.follow_t in wrote_tally c o s a (v % 256) in
      same_as (Write a v) x u (accepted_next c o.tally (Write a v) 0 x h) m t (wrote_core c o s a (v % 256)) (wrote_rested c.memory o a (v % 256) s.rested) (wrote_diagnosis c o s a (v % 256))
  same_next (Read a) (gave value h) =
      let m : next_o c o (Read a) ≡ o = taken (Read a) value c h ∙ unfold observer.follow_o in refl in
      let t : next_t c o.tally (Read a) ≡ o.tally = accepted_tally c o.tally (Read a) value c h ∙ unfold beside.follow_t in refl in
      same_as (Read a) c o (accepted_next c o.tally (Read a) value c h) m t s.core s.rested s.diagnosis
  same_next (Slot l) (went a h) = went_same l a h
  same_next (Slot l) (rested a h) =
      let x : Diagnosis = (resting_slot c l).core.diagnosis in
      let b : is_active o.activity.mode ≡ false = sym active_is ∙ a in
      let m₁ : next_o c o (Slot l) ≡ observer.follow_o c o (Slot l) = unfold rested_slot in taken (Slot l) _ (resting_slot c l) h in
      let t₁ : next_t c o.tally (Slot l) ≡ beside.follow_t c o.tally (Slot l) = unfold rested_slot in accepted_tally c o.tally (Slot l) _ (resting_slot c l) h in
      let t₂ : beside.follow_t c o.tally (Slot l) ≡ o.tally = unfold beside.follow_t in rw a in
      same_as (Slot l) (with_diagnosis_c c x) (with_diagnosis_o o (diagnosis_o c o l)) (rested_next c o.tally l h) (m₁ ∙ rested_by l b) (t₁ ∙ t₂)
      (same_beside _ _ _ _ s.core) (rested_beside _ _ s.rested) (rested_diagnosis l b)

pub same_fresh : Same fresh at_reset
same_fresh =
    record {
      core = unfold fresh reset_all reset_core at_reset unsettled in record { activity = refl; line = line_anew false; frame = refl; reply = silent_same };
      joined = unfold at_reset in joined_fresh;
      rested = reset_rested;
      diagnosis = unfold fresh reset_all reset_core at_reset in refl;
    }
