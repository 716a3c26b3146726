-- Demand 3, and what every event leaves, over every list of events.
use Prim.Native.Nat.{ℕ, ◌+◌, ◌<◌}
use mathlib.Core.Bool.{Bool, true, false}
use mathlib.Core.List.{List, [], ◌∷◌}
use mathlib.Core.Path.{◌≡◌, refl, ap, ◌∙◌, sym, subst}
use native.Mathlib.Omega.{arith}
use lib.Dec.{eqb}
use Rattle.line.specs.Bits.{pick}
use Rattle.rules.specs.Definitions.Longest.{longest_of}
use Rattle.rules.specs.Definitions.Hearing.{hear_frame, acknowledges, acknowledge_level, receiver_in, receiver_level}
use Rattle.rules.specs.Definitions.Attempt.{at_stage, is_driving, drives_frame, is_answering, is_answered}
use Rattle.rules.specs.Definitions.State.{is_active}
use Rattle.rules.specs.Definitions.Slots.{drives, sample_of}
use Rattle.rules.specs.Definitions.Run.{fresh, next}
use Rattle.every_run.specs.Tally.{Stand, away, between, opening, inside, answered, Tally, Answering, counted_in, counted_t}
use Rattle.every_run.specs.Observer as observer
use Rattle.every_run.specs.Observer.{Replying, silent, replies, is_replying, Observer, at_reset, answer_in, answer_o, accepted, sample_o, seen_o, next_o}
use Rattle.every_run.specs.Sending.{level_in, level_o, AtAcknowledge, InSlot, DrivesAnswered, DrivesReply, Outside, te, SampledAs, Claim, SendingOver}
use Rattle.every_run.specs.Settled.{SettledOver}
use Rattle.every_run.proofs.Steps.{step_of}
use Rattle.every_run.proofs.Ranges.Limits.{Fine}
use Rattle.every_run.proofs.Ranges.Reach.{fine_fresh, fine_next}
use Rattle.every_run.proofs.Sending.Beside as beside
use Rattle.every_run.proofs.Sending.Beside.{answer_c, seen_t, Holds}
use Rattle.every_run.proofs.Sending.Bound.{Coming}
use Rattle.every_run.proofs.Sending.Join.{made, service_in, service_of}
use Rattle.every_run.specs.Receiving.{Log, no_log, log_next}
use Rattle.every_run.proofs.Receiving.Answers.{Kept, kept_fresh, kept_next, coming}
use Rattle.every_run.proofs.Sending.Demand3.{claim}
use Rattle.every_run.proofs.Observer.Agreed.{Same, Followed, same_next, same_fresh, agrees}
use Rattle.every_run.proofs.Observer.Replies.{reply_level, fits_so, same_going, part_driven}
use Rattle.every_run.proofs.Observer.Settled.{settles}
use Rattle.every_run.proofs.OwnFrames.Steady.{Beside, Steady, steady_fresh, steady_next}
use Rattle.rules.proofs.Logic.{clash, left}
use Rattle.rules.specs.declared.Phase.{Phase}
use Rattle.rules.specs.declared.Phase.TheVariants.{Quiet, Start, Body, Acknowledge, End}
use Rattle.rules.specs.declared.Reception.{Reception}
use Rattle.rules.specs.declared.Activity.{Activity}
use Rattle.rules.specs.declared.Controller.{Controller}
use Rattle.rules.specs.declared.Event.{Event}
use Rattle.rules.specs.declared.Event.TheVariants.{Reset, Write, Read, Slot}

one_not : ◌≡◌ {A = ℕ} 1 0 → ⊥
one_not h = omega arith

module _ (c : Controller) (o : Observer) (s : Same c o) where
  seen_alike : (e : Event) → beside.seen_in c o.tally e ≡ observer.seen_in c o e
  unfolding beside.seen_in observer.seen_in answer_o
  seen_alike Reset = refl
  seen_alike (Write a v) = refl
  seen_alike (Read a) = refl
  seen_alike (Slot l) =
      let d : ℕ = drives c.core in
      let v : ℕ = sample_of c l in
      ap (λ (b : Bool). pick b (counted_t o.tally d v (answer_c c v)) o.tally) (ap (λ (x : Activity). is_active x.mode) s.core.activity)
      ∙ ap (λ (r : Reception). pick (is_active o.activity.mode) (counted_t o.tally d v (answer_in (hear_frame r (longest_of c.core) v) r)) o.tally) s.core.frame

  -- the observer's tally once the sample is judged is the one stepped beside the controller
  seen_same : (e : Event) → seen_t c o.tally e ≡ seen_o c o e
  unfolding seen_t seen_o
  seen_same e = ap (λ (t : Tally). pick (accepted c e) t o.tally) (seen_alike e)

  -- ---- an answered request

  dominant_in : (p : Phase) → o.frame.place.phase ≡ p → receiver_in p o.frame ≡ 0 → AtAcknowledge o.frame
  unfolding receiver_in acknowledge_level
  dominant_in Quiet e h = absurd (one_not h)
  dominant_in Start e h = absurd (one_not h)
  dominant_in Body e h = absurd (one_not h)
  dominant_in Acknowledge e h = record { phase = e; owed = go (eqb o.frame.place.at 0) (acknowledges o.frame) h }
    where
      go : (a b : Bool) → ◌≡◌ {A = ℕ} (pick a 1 (pick b 0 1)) 0 → b ≡ true
      go true b h = absurd (one_not h)
      go false true h = refl
      go false false h = absurd (one_not h)
  dominant_in End e h = absurd (one_not h)

  dominant : receiver_level o.frame ≡ 0 → AtAcknowledge o.frame
  unfolding receiver_level
  dominant h = dominant_in o.frame.place.phase refl h

  answered_level : (start n : ℕ) → o.tally.stand ≡ answered start n → level_o o ≡ pick (is_active o.activity.mode) (receiver_level o.frame) 1
  unfolding level_o level_in
  answered_level start n e = rw e

  answering : (e : Event) → InSlot e (DrivesAnswered o.tally.stand o.frame (drives c.core))
  answering Reset = tt
  answering (Write a v) = tt
  answering (Read a) = tt
  answering (Slot l) = go o.tally.stand refl
    where
      active : (b : Bool) → is_active o.activity.mode ≡ b → pick b (receiver_level o.frame) 1 ≡ 0 → receiver_level o.frame ≡ 0
      active true a h = h
      active false a h = absurd (one_not h)

      go : (x : Stand) → o.tally.stand ≡ x → DrivesAnswered x o.frame (drives c.core)
      go away e = tt
      go between e = tt
      go (opening start) e = tt
      go (inside start levels) e = tt
      go (answered start n) e = λ h.
          let k : pick (is_active o.activity.mode) (receiver_level o.frame) 1 ≡ 0 = sym ((agrees c o s).level ∙ answered_level start n e) ∙ h in
          dominant (active (is_active o.activity.mode) refl k)

  -- ---- a reply under way

  module _ (steady : Steady c.core) where
    replying : (e : Event) → InSlot e (DrivesReply o.reply (longest_of c.core) (drives c.core))
    replying Reset = tt
    replying (Write a v) = tt
    replying (Read a) = tt
    replying (Slot l) = go o.reply refl
      where
        go : (y : Replying) → o.reply ≡ y → DrivesReply y (longest_of c.core) (drives c.core)
        go silent e = tt
        go (replies n f levels) e =
            let b = steady.beside (same_going s.core.reply ∙ rw e (unfold is_replying in refl)) in
            part_driven n f levels (drives c.core) (reply_level c.core o.reply s.core.reply b.driving b.asking n f levels e)
            (fits_so c.core o.reply s.core.reply b.driving b.asking n f levels e)

    -- beside it the tally stands still
    module _ (g : is_replying o.reply ≡ true) where
      beside_it : Beside c.core.service c.core.reception
      beside_it = steady.beside (same_going s.core.reply ∙ g)

      still : (x : Stand) → c.core.service ≡ service_in x o.tally → (d v : ℕ) (y : Answering) → counted_in x o.tally d v y ≡ o.tally
      unfolding counted_in service_in
      still away e d v y = refl
      still between e d v y = refl
      still (opening start) e d v y = clash beside_it.driving (rw e (unfold made at_stage drives_frame is_driving in refl))
      still (inside start levels) e d v y = clash beside_it.driving (rw e (unfold made at_stage drives_frame is_driving in refl))
      still (answered start n) e d v y = clash beside_it.asking (rw e (unfold made at_stage is_answered is_answering in refl))

      seen_apart : (e : Event) → seen_o c o e ≡ o.tally
      unfolding seen_o observer.seen_in counted_t
      seen_apart e = left (λ (t : Tally). t) (accepted c e) (observer.seen_in c o e) o.tally o.tally (in_event e) refl
        where
          in_event : (e : Event) → observer.seen_in c o e ≡ o.tally
          in_event Reset = refl
          in_event (Write a v) = refl
          in_event (Read a) = refl
          in_event (Slot l) = left (λ (t : Tally). t) (is_active o.activity.mode) _ o.tally o.tally (still o.tally.stand (unfold service_of in s.joined.service) _ _ _) refl

  -- the input that the observer's own diagnosis selects
  sampled_as : (e : Event) → SampledAs c o e
  unfolding sample_of sample_o
  sampled_as Reset = tt
  sampled_as (Write a v) = tt
  sampled_as (Read a) = tt
  sampled_as (Slot l) = rw s.diagnosis

  claimed : Fine c → Steady c.core → ((v : ℕ) → v < 2 → Coming (longest_of c.core) o.tally.stand (answer_c c v)) → (e : Event) → Claim c o e
  claimed f steady y e =
      let h : Holds c o.tally e = claim c o.tally s.joined f y e (step_of c e) in
      let q : seen_t c o.tally e ≡ seen_o c o e = seen_same e in
      record {
        agrees = agrees c o s;
        sampled = sampled_as e;
        fits = h.fits;
        driven = h.driven;
        answer = λ x. answering e;
        errors = rw (← q) h.errors;
        slots = rw (← q) h.slots;
        raised = rw (← q) h.raised;
        only = rw (← q) h.only;
        reply = λ x. replying steady e;
        outside = λ g. outside g (rw (← q) h.only);
      }
    where
      outside : is_replying o.reply ≡ true → (te c ≡ false → te (next c e) ≡ true → (seen_o c o e).errors ≡ (seen_o c o e).setting + 1) → Outside c o e
      outside g only =
          let z : seen_o c o e ≡ o.tally = seen_apart steady g e in
          record {
            lost = ap (λ (t : Tally). t.lost) z;
            errors = ap (λ (t : Tally). t.errors) z;
            slots = ap (λ (t : Tally). t.slots) z;
            te = λ x. go (te (next c e)) refl x;
          }
        where
          go : (b : Bool) → te (next c e) ≡ b → te c ≡ false → b ≡ false
          go true d x = absurd (let w : (seen_o c o e).errors ≡ (seen_o c o e).setting + 1 = only x d in let w2 : o.tally.errors ≡ o.tally.setting + 1 = rw (seen_apart steady g e) at w in let k = s.joined.good.errors in omega arith)
          go false d x = refl

-- ---- every list of events: controller and observer belong together, and the log says how far the answer to a request has come

record Stands (c : Controller) (o : Observer) : Type 0 where
  same : Same c o
  fine : Fine c
  steady : Steady c.core
  log : Log
  kept : Kept c o.tally log

module _ (c : Controller) (o : Observer) (k : Stands c o) where
  comes_on : (v : ℕ) → v < 2 → Coming (longest_of c.core) o.tally.stand (answer_c c v)
  comes_on v h = coming c o.tally k.log k.fine k.same.joined k.kept v h

  followed : (e : Event) → Followed c o e
  followed e = same_next c o k.same k.fine comes_on e (step_of c e)

  stands_next : (e : Event) → Stands (next c e) (next_o c o e)
  stands_next e =
      record {
        same = (followed e).same;
        fine = fine_next c e k.fine;
        steady = steady_next c e k.steady;
        log = log_next c k.log e;
        kept = subst (λ (t : Tally). Kept (next c e) t (log_next c k.log e)) (followed e).tally (kept_next c o.tally k.log k.fine k.same.joined k.kept e);
      }

stands_fresh : Stands fresh at_reset
stands_fresh = record { same = same_fresh; fine = fine_fresh; steady = steady_fresh; log = no_log; kept = unfold at_reset in kept_fresh }

sending_from : (c : Controller) (o : Observer) → Stands c o → (es : List Event) → SendingOver c o es
sending_from c o k [] = agrees c o k.same
sending_from c o k (e ∷ es) = (claimed c o k.same k.fine k.steady (comes_on c o k) e, sending_from (next c e) (next_o c o e) (stands_next c o k e) es)

settled_from : (c : Controller) (o : Observer) → Stands c o → (es : List Event) → SettledOver c o es
settled_from c o k [] = tt
settled_from c o k (e ∷ es) = (settles c o k.same k.fine (comes_on c o k) e (step_of c e), settled_from (next c e) (next_o c o e) (stands_next c o k e) es)

-- Demand 3, entire
pub demand_3 : (es : List Event) → SendingOver fresh at_reset es
demand_3 es = sending_from fresh at_reset stands_fresh es

-- what every event leaves, over every list of events from a fresh controller
pub settled_over : (es : List Event) → SettledOver fresh at_reset es
settled_over es = settled_from fresh at_reset stands_fresh es
