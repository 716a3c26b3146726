-- The log and the frame under way: what a sample leaves of them, whether the model receives or sends.
--   Following == the frame under way tells the log's samples, and who takes it        Stands == what holds between events: sampled_stands
use Prim.Native.Nat.{ℕ, zero, suc, ◌+◌, ◌*◌, ◌%◌, ◌≤◌, ◌<◌}
use mathlib.Core.Bool.{Bool, true, false, false≢true}
use mathlib.Core.List.{List, [], ◌∷◌, ◌++◌}
use mathlib.Core.Path.{◌≡◌, refl, ap, ◌∙◌, sym, subst}
use native.Mathlib.Omega.{arith}
use borrow.Author.Tests.{ltb-true, ltb-false, eqb-true}
use lib.Dec.{eqb, ltb}
use lib.ListN.{length, get_or, length-append}
use Rattle.std.specs.Prelude.{Option, None, Some}
use Rattle.line.specs.Bits.{pick, Below}
use Rattle.line.specs.Frame.{start}
use Rattle.line.specs.Layout.{in_five}
use Rattle.line.proofs.Laws.{picked}
use Rattle.rules.specs.Definitions.Registers.{both, either, CV, BOV}
use Rattle.rules.specs.Definitions.Channels.{extension, channel_at, status_bits, receive_message, request_detection, listens, takes, lowest, lowest_listening, won, winner_for, nobody, awaits_reply, replier_for}
use Rattle.rules.specs.Definitions.Longest.{capacity, longest_of, most_nibbles}
use Rattle.rules.specs.Definitions.Mailbox.{frame_with, reply_frame}
use Rattle.rules.specs.Definitions.Reception.{at_place, quiet, is_under_way, takes_start, under_way, is_body, in_body, behind, command_ended, reads_asked, reply_low, begun, moved, entered, bit_taken, more_nibbles, bits_laid, data_ended, nibble_taken, follow_start, follow_body, follow_acknowledge, follow_end, follow_in, followed, winner_taken}
use Rattle.rules.specs.Definitions.Hearing.{reception_after, hear_frame, hear_quiet}
use Rattle.every_run.proofs.Receiving.Invariant.{Invariant}
use Rattle.every_run.proofs.Receiving.InvariantLaws.{invariant_begun, invariant_under_way, invariant_winner, invariant_command, invariant_named, invariant_kept, invariant_step, invariant_silent, invariant_below}
use Rattle.rules.specs.Definitions.Delivery.{delivery_of}
use Rattle.rules.specs.Definitions.Attempt.{at_stage, between_attempts, is_between, drives_frame, is_driving, is_answered, is_answering, rtr_slot, level_at, due, judge_slot, advance}
use Rattle.rules.specs.Definitions.Service as rule
use Rattle.rules.specs.Definitions.Service.{resting, stopped, ending_of, settled, good_for, answered_as, no_reply, judge_reply, reply_moved, reply_by, reply_taken, hear_own}
use Rattle.rules.specs.Definitions.Slots.{role_in, reply_verdict, heard_as, verdict_as, verdict, service_judged, reception_judged, reply_after}
use Rattle.every_run.specs.Receiving.{Log, no_log, sampled_log}
use Rattle.rules.proofs.Logic.{both_true}
use Rattle.every_run.proofs.Ranges.Bytes.{at_below, fits_reply}
use Rattle.every_run.proofs.Roles.{quiet_phase, role_sender, role_asker, role_replier, role_other}
use Rattle.every_run.proofs.OwnFrames.Steady.{stopped_settled}
use Rattle.every_run.proofs.Receiving.OwnAttempt.{Own, Placed, due_level, in_start, in_code, level_start, lost_follows, own_follows, own_small, placed_judged, placed_next}
use Rattle.every_run.proofs.Judged as judged
use Rattle.every_run.proofs.Judged.{Judged, went, lost, broke, done, slot_judged}
use Rattle.rules.specs.declared.Delivery.{Delivery}
use Rattle.rules.specs.declared.Delivery.TheVariants as delivery
use Rattle.rules.specs.declared.ImmediateReply.{ImmediateReply}
use Rattle.rules.specs.declared.Progress.{Progress}
use Rattle.rules.specs.declared.Stage.TheVariants.{Waiting}
use Rattle.rules.specs.declared.Role.{Role}
use Rattle.rules.specs.declared.Role.TheVariants.{Nobody, Receiver, Replier}
use Rattle.rules.specs.declared.Line.{Line}
use Rattle.rules.specs.declared.Phase.{Phase}
use Rattle.rules.specs.declared.Phase.TheVariants.{Quiet, Start, Body, Acknowledge, End}
use Rattle.rules.specs.declared.Reception.{Reception}
use Rattle.rules.specs.declared.Hearing.{Hearing}
use Rattle.rules.specs.declared.Hearing.TheVariants.{Silent, Follows, Fault, Good}
use Rattle.rules.specs.declared.Coded.{Coded}
use Rattle.rules.specs.declared.Effort.{Effort}
use Rattle.rules.specs.declared.Service.{Service}
use Rattle.rules.specs.declared.Verdict.{Verdict}
use Rattle.rules.specs.declared.Verdict.TheVariants.{Unjudged, Goes, Lost, Failed, Done, Answered}
use Rattle.rules.specs.declared.Ending.{Ending}
use Rattle.rules.specs.declared.Ending.TheVariants.{Going, Sent, Exhausted, Aborted, Rearbitrated, Fulfilled}
use Rattle.rules.specs.declared.Core.{Core}

-- ---- before the last command slot nobody takes the frame: an empty memory map has no channel that listens

none_listens : (c low : ℕ) → listens (channel_at [] c) low ≡ false
unfolding listens channel_at status_bits receive_message request_detection awaits_reply
none_listens c low = go (extension low) (eqb (low % 4) 0b00) (eqb (low % 4) 0b11) (eqb (low % 4) 0b10)
  where
    go : (a b d e : Bool) → both a (either (both b false) (either (both d false) (both e false))) ≡ false
    go true true true true = refl
    go true true true false = refl
    go true true false true = refl
    go true true false false = refl
    go true false true true = refl
    go true false true false = refl
    go true false false true = refl
    go true false false false = refl
    go false b d e = refl

none_takes : (high low c : ℕ) → takes [] c high low ≡ false
unfolding takes
none_takes high low c = rw (none_listens c low)

none_lowest : (passes : ℕ → Bool) → ((c : ℕ) → passes c ≡ false) → (left c : ℕ) → lowest passes left c ≡ None
unfolding lowest
none_lowest passes h zero c = refl
none_lowest passes h (suc left) c = rw (h c) (none_lowest passes h left (c + 1))

pub none_wins : (high low : ℕ) → winner_for [] high low ≡ nobody
unfolding winner_for lowest_listening
none_wins high low = rw (none_lowest (λ c. takes [] c high low) (none_takes high low) 14 0) (unfold won in refl)

-- ---- the frame under way follows

pub record Following (longest : ℕ) (r : Reception) (l : Log) : Type 0 where
  pub invariant : Invariant longest r l.samples
  pub winner : r.winner ≡ winner_for l.held (get_or r.bytes 0 0) (get_or r.bytes 1 0)
  pub before : length l.samples < 30 → l.held ≡ []

pub begun_following : {longest : ℕ} → longest ≤ capacity → (m : List ℕ) → Following longest begun (sampled_log no_log 0 m)
unfolding sampled_log no_log
begun_following most m = record { invariant = invariant_begun most; winner = unfold begun quiet in (sym (none_wins 0 0)); before = λ h. refl }

module _ {longest : ℕ} (r : Reception) (l : Log) (f : Following longest r l) (v : ℕ) (small : v < 2) (h : hear_frame r longest v ≡ Follows) (m : List ℕ) where
  invariant_then : Invariant longest (followed r v) (l.samples ++ (v ∷ []))
  invariant_then = invariant_step r l.samples f.invariant v small h

  -- the winner stays, and so do identifier and command once it is taken
  winner_kept : (followed r v).winner ≡ winner_for l.held (get_or (followed r v).bytes 0 0) (get_or (followed r v).bytes 1 0)
  winner_kept = go (ltb (length l.samples) 30) refl
    where
      go : (b : Bool) → ltb (length l.samples) 30 ≡ b → (followed r v).winner ≡ winner_for l.held (get_or (followed r v).bytes 0 0) (get_or (followed r v).bytes 1 0)
      go true e =
          let n : l.held ≡ [] = f.before (ltb-true _ _ e) in
          invariant_winner r l.samples f.invariant v ∙ f.winner ∙ rw (n, none_wins) (sym (none_wins _ _))
      go false e =
          let k = invariant_kept r l.samples f.invariant (ltb-false _ _ e) v in
          invariant_winner r l.samples f.invariant v ∙ f.winner ∙ rw (k.0, k.1)

  following_as : (b : Bool) → eqb (length (l.samples ++ (v ∷ []))) 30 ≡ b
      → Following longest (pick b (winner_taken (followed r v) m) (followed r v)) (record { samples = l.samples ++ (v ∷ []); held = pick b m l.held })
  following_as true e =
      record {
        invariant = invariant_named (followed r v) (l.samples ++ (v ∷ [])) invariant_then (invariant_command (followed r v) (l.samples ++ (v ∷ [])) invariant_then ∙ e) m;
        winner = unfold winner_taken in refl;
        before = λ x. absurd (omega (arith, eqb-true));
      }
  following_as false e =
      let n = length-append l.samples (v ∷ []) in
      record { invariant = invariant_then; winner = winner_kept; before = λ x. f.before (omega arith) }

  pub following_next : Following longest (reception_judged m Follows r v) (sampled_log l v m)
  unfolding sampled_log reception_judged reception_after
  following_next =
      rw (invariant_command (followed r v) (l.samples ++ (v ∷ [])) invariant_then) (following_as (eqb (length (l.samples ++ (v ∷ []))) 30) refl)

-- ---- what holds between events

-- no attempt is under way
pub record Away (p : Progress) : Type 0 where
  pub drives : drives_frame p ≡ false
  pub answers : is_answered p ≡ false

-- a frame under way, behind its first nibble
pub record Later (r : Reception) : Type 0 where
  pub nibbles : 1 ≤ r.nibbles
  pub under : under_way r.place ≡ true

-- apart: no frame under way, none driven. asking: the model's request is answered. closing: the own frame behind its data, where contention is no longer lost.
-- replying: the own reply; replied: it is behind its data
pub data At (longest : ℕ) (e : Effort) (y : ImmediateReply) (r : Reception) (l : Log) : Type 0 where
  apart : Away e.progress → y.going ≡ false → under_way r.place ≡ false → At longest e y r l
  receiving : Away e.progress → y.going ≡ false → Following longest r l → At longest e y r l
  asking : drives_frame e.progress ≡ false → is_answered e.progress ≡ true → y.going ≡ false → Following longest r l → At longest e y r l
  starting : drives_frame e.progress ≡ true → y.going ≡ false → e.progress.at ≡ 0 → under_way r.place ≡ false → At longest e y r l
  driving : drives_frame e.progress ≡ true → y.going ≡ false → Following longest r l → Placed e.frame e.progress.at r → e.progress.at ≤ 30 + 10 * e.frame.n
      → At longest e y r l
  closing : drives_frame e.progress ≡ true → y.going ≡ false → between_attempts e.progress ≡ false → 30 + 10 * e.frame.n < e.progress.at → At longest e y r l
  replying : Away e.progress → y.going ≡ true → Own longest y.frame → Following longest r l → Placed y.frame y.at r → rtr_slot ≤ y.at
      → y.at ≤ 30 + 10 * y.frame.n → At longest e y r l
  replied : Away e.progress → y.going ≡ true → Later r → 30 + 10 * y.frame.n < y.at → At longest e y r l

pub record Stands (longest : ℕ) (s : Service) (y : ImmediateReply) (r : Reception) (l : Log) : Type 0 where
  pub going : stopped s ≡ Going
  pub stage : At longest s.effort y r l

-- ---- the end of a service

pub resting_going : stopped resting ≡ Going
unfolding stopped resting at_stage between_attempts is_between
resting_going = refl

pub resting_away : Away resting.effort.progress
resting_away = record { drives = unfold resting at_stage drives_frame is_driving in refl; answers = unfold resting at_stage is_answered is_answering in refl }

settled_away : (x : Ending) (s : Service) → Away s.effort.progress → Away (settled x s).effort.progress
unfolding settled
settled_away Going s d = d
settled_away Sent s d = resting_away
settled_away Exhausted s d = resting_away
settled_away Aborted s d = resting_away
settled_away Rearbitrated s d = resting_away
settled_away Fulfilled s d = resting_away

-- the service after a sample that is w for it; b is that a reply has fulfilled its request
unfoldable pub settled_by : Bool → Verdict → Service → Service
settled_by b w s = settled (pick b Fulfilled (ending_of w (service_judged w s))) (service_judged w s)

after_going : (w : Verdict) (s : Service) → stopped (settled (ending_of w (service_judged w s)) (service_judged w s)) ≡ Going
unfolding ending_of
after_going Unjudged s = stopped_settled (service_judged Unjudged s)
after_going Goes s = stopped_settled (service_judged Goes s)
after_going Lost s = stopped_settled (service_judged Lost s)
after_going (Failed code) s = stopped_settled (service_judged (Failed code) s)
after_going Done s = unfold settled in resting_going
after_going Answered s = stopped_settled (service_judged Answered s)

by_going : (b : Bool) (w : Verdict) (s : Service) → stopped (settled_by b w s) ≡ Going
unfolding settled_by
by_going true w s = unfold settled in resting_going
by_going false w s = after_going w s

by_away : (b : Bool) (w : Verdict) (s : Service) → Away (service_judged w s).effort.progress → Away (settled_by b w s).effort.progress
unfolding settled_by
by_away b w s d = settled_away (pick b Fulfilled (ending_of w (service_judged w s))) (service_judged w s) d

-- an attempt that has ended
unjudged_away : (s : Service) → Away s.effort.progress → Away (service_judged Unjudged s).effort.progress
unfolding service_judged advance
unjudged_away s d = d

waiting_away : Away (at_stage Waiting 0)
waiting_away = record { drives = unfold at_stage drives_frame is_driving in refl; answers = unfold at_stage is_answered is_answering in refl }

lost_away : (s : Service) → Away (service_judged Lost s).effort.progress
unfolding service_judged advance
lost_away s = waiting_away

failed_away : (code : ℕ) (s : Service) → Away (service_judged (Failed code) s).effort.progress
unfolding service_judged advance
failed_away code s = waiting_away

done_away : (s : Service) → Away (service_judged Done s).effort.progress
unfolding service_judged advance
done_away s = waiting_away

-- ---- the frame under way

follow_later : (p : Phase) (r : Reception) (v : ℕ) → r.place.phase ≡ p → is_under_way p ≡ true → 1 ≤ r.nibbles → Later (follow_in p r v)
unfolding follow_in follow_start follow_body follow_acknowledge follow_end moved entered bit_taken nibble_taken data_ended bits_laid more_nibbles at_place is_under_way under_way
follow_later Quiet r v e u h = absurd (false≢true u)
follow_later Start r v e u h = picked Later (ltb r.place.at 9) (moved r) (entered r Body) (λ d. record { nibbles = h; under = rw e }) (λ d. record { nibbles = h; under = refl })
follow_later Body r v e u h =
    picked Later (ltb r.place.at 4) (bit_taken r v) _ (λ d. record { nibbles = h; under = rw e })
    (λ d. picked Later (eqb v (r.bits % 2)) (data_ended r) (nibble_taken r) (λ i. record { nibbles = h; under = refl })
    (λ i. record { nibbles = picked (λ n. 1 ≤ n) (ltb r.nibbles (most_nibbles capacity)) (r.nibbles + 1) (most_nibbles capacity) (λ j. omega arith) (λ j. omega arith); under = refl }))
follow_later Acknowledge r v e u h = picked Later (eqb r.place.at 0) (bit_taken r v) (entered r End) (λ d. record { nibbles = h; under = rw e }) (λ d. record { nibbles = h; under = refl })
follow_later End r v e u h = picked Later (ltb r.place.at 7) (moved r) r (λ d. record { nibbles = h; under = rw e }) (λ d. record { nibbles = h; under = rw e })

later_next : (m : List ℕ) (r : Reception) (v : ℕ) → Later r → Later (reception_judged m Follows r v)
unfolding reception_judged reception_after followed winner_taken
later_next m r v k =
    let f : Later (follow_in r.place.phase r v) = follow_later r.place.phase r v refl (unfold under_way in k.under) k.nibbles in
    picked Later (command_ended (follow_in r.place.phase r v)) _ _ (λ e. record { nibbles = f.nibbles; under = f.under }) (λ e. f)

-- in the code the place tells the nibbles
pub placed_later : {x : Coded} {k : ℕ} (r : Reception) → Placed x k r → 15 ≤ k → under_way r.place ≡ true → Later r
placed_later r (in_start p a h z) i u = absurd (omega arith)
placed_later r (in_code p q h b) i u = record { nibbles = omega arith; under = u }

-- a reply begins behind R/W
pub record Asked (r : Reception) : Type 0 where
  pub phase : r.place.phase ≡ Body
  pub nibbles : r.nibbles ≡ 3
  pub at : r.place.at ≡ 3

pub body_is : (p : Phase) → is_body p ≡ true → p ≡ Body
unfolding is_body
body_is Quiet e = absurd (false≢true e)
body_is Start e = absurd (false≢true e)
body_is Body e = refl
body_is Acknowledge e = absurd (false≢true e)
body_is End e = absurd (false≢true e)

is_asked : (r : Reception) → reads_asked r ≡ true → Asked r
unfolding reads_asked in_body
is_asked r e =
    let a = both_true (is_body r.place.phase) _ e in
    let b = both_true (eqb r.nibbles 3) _ a.1 in
    let c = both_true (eqb r.place.at 3) _ b.1 in
    record { phase = body_is r.place.phase a.0; nibbles = eqb-true r.nibbles 3 b.0; at = eqb-true r.place.at 3 c.0 }

low_small : (r : Reception) → get_or r.bytes 1 0 < 256 → reply_low r < 256
unfolding reply_low
low_small r h = omega arith

-- ---- a sample

module _ (longest : ℕ) (s : Service) (y : ImmediateReply) (r : Reception) (l : Log) (v : ℕ) (m : List ℕ) where
  abbrev then : Hearing → Reception
  then h = reception_judged m h r v

  -- service, reply, frame under way and log after a sample
  abbrev After : Service → ImmediateReply → Hearing → Type 0
  After t z h = Stands longest t z (then h) (sampled_log l v m)

  -- the frame has ended
  fault_quiet : (code : ℕ) → then (Fault code) ≡ quiet
  unfolding reception_judged reception_after quiet at_place command_ended behind in_body is_body
  fault_quiet code = refl

  good_quiet : then Good ≡ quiet
  unfolding reception_judged reception_after quiet at_place command_ended behind in_body is_body
  good_quiet = refl

  ended_quiet : under_way quiet.place ≡ false
  unfolding quiet at_place under_way is_under_way
  ended_quiet = refl

  unasked_quiet : reads_asked quiet ≡ false
  unfolding reads_asked in_body is_body quiet at_place
  unasked_quiet = refl

  fault_after : (b : Bool) (w : Verdict) (code : ℕ) (z : ImmediateReply) → Away (service_judged w s).effort.progress → z.going ≡ false → After (settled_by b w s) z (Fault code)
  fault_after b w code z d g = record { going = by_going b w s; stage = apart (by_away b w s d) g (rw (fault_quiet code) ended_quiet) }

  good_after : (b : Bool) (w : Verdict) (z : ImmediateReply) → Away (service_judged w s).effort.progress → z.going ≡ false → After (settled_by b w s) z Good
  good_after b w z d g = record { going = by_going b w s; stage = apart (by_away b w s d) g (rw good_quiet ended_quiet) }

  -- it goes on, and the model only listens
  follows_after : (b : Bool) (w : Verdict) (z : ImmediateReply) → Away (service_judged w s).effort.progress → z.going ≡ false → v < 2 → Following longest r l → hear_frame r longest v ≡ Follows
      → After (settled_by b w s) z Follows
  follows_after b w z d g small f h = record { going = by_going b w s; stage = receiving (by_away b w s d) g (following_next r l f v small h m) }

  -- or a reply of the model's begins
  begins_reply : longest ≤ capacity → Below 256 m → (e : Effort) → Away e.progress → Following longest (then Follows) (sampled_log l v m) → Asked (then Follows)
      → (x : Option ℕ) → replier_for m longest (get_or (then Follows).bytes 0 0) (reply_low (then Follows)) ≡ x
      → At longest e (reply_by m (get_or (then Follows).bytes 0 0) (reply_low (then Follows)) x) (then Follows) (sampled_log l v m)
  unfolding reply_by
  begins_reply most b e d f a None i = receiving d (unfold no_reply in refl) f
  begins_reply most b e d f a (Some c) i =
      let n : Reception = then Follows in
      let bytes : Below 256 n.bytes = invariant_below n (sampled_log l v m).samples f.invariant a.phase in
      let high : get_or n.bytes 0 0 < 256 = at_below bytes 0 in
      let low : reply_low n < 256 = low_small n (at_below bytes 1) in
      replying d refl
      (record { most = most; frame = reply_frame m c (get_or n.bytes 0 0) (reply_low n); fits = fits_reply m longest (get_or n.bytes 0 0) (reply_low n) c b high low i; silent = unfold reply_frame frame_with in refl; same = refl })
      f (in_code a.phase (omega (arith, a.nibbles, a.at)) (omega (arith, a.at)) (λ j. absurd (omega (arith, a.at)))) (omega arith) (omega arith)

  receives_after : (b : Bool) → longest ≤ capacity → Below 256 m → Away s.effort.progress → y.going ≡ false → v < 2 → Following longest r l → hear_frame r longest v ≡ Follows
      → After (settled_by b Unjudged s) (pick (reads_asked (then Follows)) (reply_taken m longest (then Follows)) y) Follows
  unfolding reply_taken
  receives_after b most below d g small f h =
      let n = following_next r l f v small h m in
      let t : Effort = (settled_by b Unjudged s).effort in
      let a : Away t.progress = by_away b Unjudged s (unjudged_away s d) in
      record {
        going = by_going b Unjudged s;
        stage = picked (λ (z : ImmediateReply). At longest t z (then Follows) (sampled_log l v m)) (reads_asked (then Follows)) _ y
            (λ e. begins_reply most below t a n (is_asked (then Follows) e) (replier_for m longest (get_or (then Follows).bytes 0 0) (reply_low (then Follows))) refl) (λ e. receiving a g n);
      }

  -- another module's frame
  heard_after : (b : Bool) → longest ≤ capacity → Below 256 m → Away s.effort.progress → y.going ≡ false → v < 2 → Following longest r l → (h : Hearing) → hear_frame r longest v ≡ h
      → After (settled_by b Unjudged s) (pick (reads_asked (then h)) (reply_taken m longest (then h)) y) h
  heard_after b most below d g small f Silent e = absurd (invariant_silent r l.samples f.invariant v e)
  heard_after b most below d g small f Follows e = receives_after b most below d g small f e
  heard_after b most below d g small f (Fault code) e =
      rw (ap reads_asked (fault_quiet code) ∙ unasked_quiet) (fault_after b Unjudged code y (unjudged_away s d) g)
  heard_after b most below d g small f Good e = rw (ap reads_asked good_quiet ∙ unasked_quiet) (good_after b Unjudged y (unjudged_away s d) g)

  -- an answer to the model's request
  answered_after : (b : Bool) → y.going ≡ false → Following longest (then Follows) (sampled_log l v m) → After (settled_by b Answered s) y Follows
  answered_after true g f = record { going = by_going true Answered s; stage = receiving (unfold settled_by settled in resting_away) g f }
  answered_after false g f =
      record { going = by_going false Answered s; stage = rw answered_effort (asking (unfold advance at_stage drives_frame is_driving in refl) (unfold advance at_stage is_answered is_answering in refl) g f) }
    where
      answered_effort : (settled_by false Answered s).effort ≡ advance Answered s.effort
      answered_effort = unfold settled_by ending_of stopped service_judged advance at_stage between_attempts is_between settled in refl

  good_settles : (b : Bool) (d : Delivery) → y.going ≡ false → After (settled_by b (good_for d) s) y Good
  unfolding good_for
  good_settles b delivery.Nothing g = good_after b (Failed CV) y (failed_away CV s) g
  good_settles b delivery.Stored g = good_after b Done y (done_away s) g
  good_settles b delivery.Overflowed g = good_after b (Failed BOV) y (failed_away BOV s) g
  good_settles b delivery.Spoiled g = good_after b (Failed CV) y (failed_away CV s) g

  asked_after : (b : Bool) → y.going ≡ false → v < 2 → Following longest r l → (h : Hearing) (d : Delivery) → hear_frame r longest v ≡ h → After (settled_by b (answered_as h d) s) y h
  unfolding answered_as
  asked_after b g small f Silent d e = absurd (invariant_silent r l.samples f.invariant v e)
  asked_after b g small f Follows d e = answered_after b g (following_next r l f v small e m)
  asked_after b g small f (Fault code) d e = fault_after b (Failed code) code y (failed_away code s) g
  asked_after b g small f Good d e = good_settles b d g

  begun_judged : under_way r.place ≡ false → then Follows ≡ begun
  unfolding reception_judged reception_after followed
  begun_judged u =
      let e : follow_in r.place.phase r v ≡ begun = rw (quiet_phase r.place.phase (unfold under_way in u)) (unfold follow_in in refl) in
      rw e (unfold command_ended behind in_body is_body begun quiet at_place in refl)

  -- no frame was under way, and a 0 begins one
  begins_after : longest ≤ capacity → under_way r.place ≡ false → l ≡ no_log → v ≡ 0 → Following longest (then Follows) (sampled_log l v m)
  begins_after most u n z = rw (begun_judged u, n, z) (begun_following most m)

  silent_judged : (then Silent).place ≡ r.place
  unfolding reception_judged reception_after
  silent_judged = picked (λ (x : Reception). x.place ≡ r.place) (command_ended r) (winner_taken r m) r (λ e. unfold winner_taken in refl) (λ e. refl)

  quiet_after : (b : Bool) → longest ≤ capacity → Away s.effort.progress → y.going ≡ false → under_way r.place ≡ false → l ≡ no_log → (line : Line) → After (settled_by b Unjudged s) y (hear_quiet line v)
  unfolding hear_quiet
  quiet_after b most d g u n line =
      picked (After (settled_by b Unjudged s) y) (eqb v 0) _ Silent
      (λ e. picked (After (settled_by b Unjudged s) y) (takes_start line) Follows Silent
      (λ i. record { going = by_going b Unjudged s; stage = receiving away g (begins_after most u n (eqb-true v 0 e)) }) (λ i. silent))
      (λ e. silent)
    where
      away : Away (settled_by b Unjudged s).effort.progress
      away = by_away b Unjudged s (unjudged_away s d)

      silent : After (settled_by b Unjudged s) y Silent
      silent = record { going = by_going b Unjudged s; stage = apart away g (ap under_way silent_judged ∙ u) }

  -- the model's own frame goes on
  gone : (At longest (advance Goes s.effort) y (then Follows) (sampled_log l v m)) → After (settled_by false Goes s) y Follows
  gone a = record { going = by_going false Goes s; stage = rw gone_effort a }
    where
      gone_effort : (settled_by false Goes s).effort ≡ advance Goes s.effort
      gone_effort = unfold settled_by ending_of stopped service_judged advance at_stage between_attempts is_between settled in refl

  gone_driving : y.going ≡ false → Following longest (then Follows) (sampled_log l v m) → Placed s.effort.frame (s.effort.progress.at + 1) (then Follows)
      → s.effort.progress.at + 1 ≤ 30 + 10 * s.effort.frame.n → After (settled_by false Goes s) y Follows
  gone_driving g f p h = gone (unfold advance at_stage drives_frame is_driving in driving refl g f p h)

  closing_goes : y.going ≡ false → 30 + 10 * s.effort.frame.n < s.effort.progress.at + 1 → After (settled_by false Goes s) y Follows
  closing_goes g h = gone (unfold advance at_stage drives_frame is_driving between_attempts is_between in closing refl g refl h)

  placed_begun : (x : Coded) → under_way r.place ≡ false → Placed x (0 + 1) (then Follows)
  placed_begun x u = rw (begun_judged u) (unfold begun quiet at_place in in_start refl refl (omega arith) refl)

  first_due : (x : Coded) → due x 0 ≡ 0
  unfolding start
  first_due x = due_level x 0 (omega arith) ∙ level_start x 0 (omega arith)

  opening_goes : longest ≤ capacity → y.going ≡ false → s.effort.progress.at ≡ 0 → under_way r.place ≡ false → l ≡ no_log → v ≡ due s.effort.frame s.effort.progress.at
      → After (settled_by false Goes s) y Follows
  opening_goes most g z u n e =
      gone_driving g (begins_after most u n (e ∙ ap (due s.effort.frame) z ∙ first_due s.effort.frame)) (rw z (placed_begun s.effort.frame u)) (omega arith)

  -- a slot of the own frame or reply, sampled as driven
  own_next : (x : Coded) (k : ℕ) → Own longest x → v < 2 → Following longest r l → Placed x k r → k < 30 + 10 * x.n → v ≡ due x k
      → (Following longest (then Follows) (sampled_log l v m)) × (Placed x (k + 1) (then Follows))
  own_next x k o small f p i e =
      let n = own_small x o in
      let a : v ≡ level_at x k = e ∙ due_level x k i in
      (following_next r l f v small (own_follows longest x k r v o i n a p) m, placed_judged m r v (placed_next longest x k r v o i n small a p))

  driving_goes : y.going ≡ false → Own longest s.effort.frame → v < 2 → Following longest r l → Placed s.effort.frame s.effort.progress.at r
      → s.effort.progress.at ≤ 30 + 10 * s.effort.frame.n → v ≡ due s.effort.frame s.effort.progress.at → After (settled_by false Goes s) y Follows
  driving_goes g o small f p h e = go (ltb s.effort.progress.at (30 + 10 * s.effort.frame.n)) refl
    where
      go : (b : Bool) → ltb s.effort.progress.at (30 + 10 * s.effort.frame.n) ≡ b → After (settled_by false Goes s) y Follows
      go true d = let q = own_next s.effort.frame s.effort.progress.at o small f p (ltb-true _ _ d) e in gone_driving g q.0 q.1 (omega (arith, ltb-true))
      go false d = closing_goes g (omega (arith, ltb-false))

  -- or the attempt is lost, answered, fails or ends
  rtr_open : in_five rtr_slot < 4
  unfolding in_five
  rtr_open = omega arith

  opening_after : longest ≤ capacity → y.going ≡ false → s.effort.progress.at ≡ 0 → under_way r.place ≡ false → l ≡ no_log
      → {w : Verdict} → Judged s.effort.frame s.effort.progress.at v w → After (settled_by false w s) y (hear_own w)
  unfolding hear_own
  opening_after most g z u n (went e i) = opening_goes most g z u n e
  opening_after most g z u n (lost a b i) = absurd (omega arith)
  opening_after most g z u n (broke code i) = fault_after false (Failed code) code y (failed_away code s) g
  opening_after most g z u n done = good_after false Done y (done_away s) g
  opening_after most g z u n (judged.answered a b i) = absurd (omega arith)

  driving_after : y.going ≡ false → Own longest s.effort.frame → v < 2 → Following longest r l → Placed s.effort.frame s.effort.progress.at r
      → s.effort.progress.at ≤ 30 + 10 * s.effort.frame.n → {w : Verdict} → Judged s.effort.frame s.effort.progress.at v w → After (settled_by false w s) y (hear_own w)
  unfolding hear_own
  driving_after g o small f p h (went e i) = driving_goes g o small f p h e
  driving_after g o small f p h (lost a b i) = follows_after false Lost y (lost_away s) g small f (lost_follows longest s.effort.frame s.effort.progress.at r v a i p)
  driving_after g o small f p h (broke code i) = fault_after false (Failed code) code y (failed_away code s) g
  driving_after g o small f p h done = good_after false Done y (done_away s) g
  driving_after g o small f p h (judged.answered a b i) =
      answered_after false g (following_next r l f v small (lost_follows longest s.effort.frame s.effort.progress.at r v (omega arith) (rw a rtr_open) p) m)

  closing_after : y.going ≡ false → 30 + 10 * s.effort.frame.n < s.effort.progress.at → {w : Verdict} → Judged s.effort.frame s.effort.progress.at v w
      → After (settled_by false w s) y (hear_own w)
  unfolding hear_own
  closing_after g h (went e i) = closing_goes g (omega arith)
  closing_after g h (lost a b i) = absurd (omega arith)
  closing_after g h (broke code i) = fault_after false (Failed code) code y (failed_away code s) g
  closing_after g h done = good_after false Done y (done_away s) g
  closing_after g h (judged.answered a b i) = absurd (omega arith)

  -- the model's own reply
  abbrev Replied : Bool → Verdict → Type 0
  Replied b q = After (settled_by b Unjudged s) (rule.replied q y) (hear_own q)

  module _ (b : Bool) (d : Away s.effort.progress) where
    away : Away (settled_by b Unjudged s).effort.progress
    away = by_away b Unjudged s (unjudged_away s d)

    replied_goes : y.going ≡ true → Later r → 30 + 10 * y.frame.n < y.at + 1 → After (settled_by b Unjudged s) (reply_moved y) Follows
    unfolding reply_moved
    replied_goes g k h = record { going = by_going b Unjudged s; stage = replied away g (later_next m r v k) h }

    replying_goes : y.going ≡ true → Own longest y.frame → v < 2 → Following longest r l → Placed y.frame y.at r → rtr_slot ≤ y.at → y.at ≤ 30 + 10 * y.frame.n
        → v ≡ due y.frame y.at → After (settled_by b Unjudged s) (reply_moved y) Follows
    replying_goes g o small f p k h e = go (ltb y.at (30 + 10 * y.frame.n)) refl
      where
        go : (t : Bool) → ltb y.at (30 + 10 * y.frame.n) ≡ t → After (settled_by b Unjudged s) (reply_moved y) Follows
        go true i =
            let q = own_next y.frame y.at o small f p (ltb-true _ _ i) e in
            record { going = by_going b Unjudged s; stage = unfold reply_moved in replying away g o q.0 q.1 (omega arith) (omega (arith, ltb-true)) }
        go false i = replied_goes g (placed_later r p (omega arith) (invariant_under_way r l.samples f.invariant)) (omega (arith, ltb-false))

    silent_reply : no_reply.going ≡ false
    unfolding no_reply
    silent_reply = refl

    replying_after : y.going ≡ true → Own longest y.frame → v < 2 → Following longest r l → Placed y.frame y.at r → rtr_slot ≤ y.at → y.at ≤ 30 + 10 * y.frame.n
        → {q : Verdict} → Judged y.frame y.at v q → Replied b q
    unfolding hear_own rule.replied
    replying_after g o small f p k h (went e i) = replying_goes g o small f p k h e
    replying_after g o small f p k h (lost a c i) = follows_after b Unjudged no_reply (unjudged_away s d) silent_reply small f (lost_follows longest y.frame y.at r v a i p)
    replying_after g o small f p k h (broke code i) = fault_after b Unjudged code no_reply (unjudged_away s d) silent_reply
    replying_after g o small f p k h done = good_after b Unjudged no_reply (unjudged_away s d) silent_reply
    replying_after g o small f p k h (judged.answered a c i) =
        follows_after b Unjudged no_reply (unjudged_away s d) silent_reply small f (lost_follows longest y.frame y.at r v (omega arith) (rw a rtr_open) p)

    replied_after : y.going ≡ true → Later r → 30 + 10 * y.frame.n < y.at → {q : Verdict} → Judged y.frame y.at v q → Replied b q
    unfolding hear_own rule.replied
    replied_after g k h (went e i) = replied_goes g k (omega arith)
    replied_after g k h (lost a c i) = absurd (omega arith)
    replied_after g k h (broke code i) = fault_after b Unjudged code no_reply (unjudged_away s d) silent_reply
    replied_after g k h done = good_after b Unjudged no_reply (unjudged_away s d) silent_reply
    replied_after g k h (judged.answered a c i) = absurd (omega arith)

-- ---- what the sample is, by what the model is in the frame under way

module _ (k : Core) (l : Log) (v : ℕ) (small : v < 2) (m : List ℕ) (below : Below 256 m) (b : Bool) (b-own : drives_frame k.service.effort.progress ≡ true → b ≡ false)
    (own : drives_frame k.service.effort.progress ≡ true → Own (longest_of k) k.service.effort.frame) (empty : under_way k.reception.place ≡ false → l ≡ no_log) where
  abbrev w : Verdict
  w = verdict k v

  -- state and log after the sample, for a role
  abbrev Sampled : Role → Type 0
  Sampled x =
      Stands (longest_of k) (settled_by b (verdict_as x k v) k.service) (reply_after x m k (reply_verdict x k v) (reception_judged m (heard_as x k (verdict_as x k v) v) k.reception v))
      (reception_judged m (heard_as x k (verdict_as x k v) v) k.reception v) (sampled_log l v m)

  abbrev p : Progress
  p = k.service.effort.progress

  nobody_is : Away p → k.reply.going ≡ false → under_way k.reception.place ≡ false → role_in k ≡ Nobody
  nobody_is d g u = role_other p k.reply.going k.reception.place d.drives d.answers g ∙ rw u

  receiver_is : Away p → k.reply.going ≡ false → under_way k.reception.place ≡ true → role_in k ≡ Receiver
  receiver_is d g u = role_other p k.reply.going k.reception.place d.drives d.answers g ∙ rw u

  replier_is : Away p → k.reply.going ≡ true → role_in k ≡ Replier
  replier_is d g = role_replier p k.reply.going k.reception.place d.drives d.answers g

  as_role : {x : Role} → role_in k ≡ x → Sampled x → Sampled (role_in k)
  as_role e a = subst Sampled (sym e) a

  sampled_own : drives_frame p ≡ true
      → Stands (longest_of k) (settled_by false (judge_slot k.service.effort.frame p.at v) k.service) k.reply
      (reception_judged m (hear_own (judge_slot k.service.effort.frame p.at v)) k.reception v) (sampled_log l v m)
      → Sampled (role_in k)
  sampled_own d a = as_role (role_sender p k.reply.going k.reception.place d) (unfold verdict_as reply_after heard_as in rw (b-own d) a)

  pub sampled_stands : At (longest_of k) k.service.effort k.reply k.reception l → Sampled (role_in k)
  sampled_stands (apart d g u) =
      as_role (nobody_is d g u) (unfold verdict_as reply_after heard_as in quiet_after (longest_of k) k.service k.reply k.reception l v m b (omega arith) d g u (empty u) k.line)
  sampled_stands (receiving d g f) =
      as_role (receiver_is d g (invariant_under_way k.reception l.samples f.invariant))
      (unfold verdict_as reply_after heard_as in heard_after (longest_of k) k.service k.reply k.reception l v m b (omega arith) below d g small f (hear_frame k.reception (longest_of k) v) refl)
  sampled_stands (asking d a g f) =
      as_role (role_asker p k.reply.going k.reception.place d a)
      (unfold verdict_as reply_after heard_as in asked_after (longest_of k) k.service k.reply k.reception l v m b g small f (hear_frame k.reception (longest_of k) v) (delivery_of (hear_frame k.reception (longest_of k) v) k.reception) refl)
  sampled_stands (starting d g z u) =
      sampled_own d (opening_after (longest_of k) k.service k.reply k.reception l v m (omega arith) g z u (empty u) (slot_judged k.service.effort.frame p.at v))
  sampled_stands (driving d g f q h) =
      sampled_own d (driving_after (longest_of k) k.service k.reply k.reception l v m g (own d) small f q h (slot_judged k.service.effort.frame p.at v))
  sampled_stands (closing d g n h) = sampled_own d (closing_after (longest_of k) k.service k.reply k.reception l v m g h (slot_judged k.service.effort.frame p.at v))
  sampled_stands (replying d g o f q i h) =
      as_role (replier_is d g)
      (unfold verdict_as reply_after heard_as reply_verdict judge_reply in replying_after (longest_of k) k.service k.reply k.reception l v m b d g o small f q i h (slot_judged k.reply.frame k.reply.at v))
  sampled_stands (replied d g n h) =
      as_role (replier_is d g)
      (unfold verdict_as reply_after heard_as reply_verdict judge_reply in replied_after (longest_of k) k.service k.reply k.reception l v m b d g n h (slot_judged k.reply.frame k.reply.at v))
