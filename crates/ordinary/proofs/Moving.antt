-- What an ordinary sample leaves, by its way: the frame followed as a receiver, the line counted, a slot of the model's own frame sent.
use Prim.Native.Nat.{ℕ}
use mathlib.Core.Bool.{Bool, true, false, false≢true, not}
use mathlib.Core.List.{List}
use mathlib.Core.Path.{◌≡◌, refl, sym, ap, ◌∙◌}
use lib.Dec.{eqb}
use lib.ListN.{get_or}
use Rattle.line.specs.Bits.{pick}
use Rattle.line.specs.Frame.{start}
use Rattle.line.proofs.Laws.{pick_same}
use Rattle.diagnosis.specs.Control.{compares_transmission}
use Rattle.rules.specs.Definitions.Setters.{with_line, with_reception, with_service, with_reply}
use Rattle.rules.specs.Definitions.Longest.{capacity}
use Rattle.rules.specs.Definitions.Registers.{both, transmit_control, autonomous}
use Rattle.rules.specs.Definitions.Reception.{under_way, is_under_way, in_body, is_body, behind, start_ended, command_ended, counted, free, takes_start}
use Rattle.rules.specs.Definitions.Hearing.{line_after, reception_after, hear_frame, hear_quiet, ends_well, receiver_level}
use Rattle.rules.specs.Definitions.Attempt.{drives_frame, is_driving, waits, is_waiting, in_service, is_serving, at_stage, advance, sent_slots, level_at}
use Rattle.rules.specs.Definitions.Service.{role_of, own_frame, choose, choice_of, resting, started, opened, hear_own}
use Rattle.rules.specs.Definitions.State.{is_active, is_asleep, serving}
use Rattle.rules.specs.Definitions.Slots.{role_in, verdict_as, verdict, reply_verdict, heard_as, heard, service_judged, reception_judged, reply_after, chooses, choice_made, start_made, follows_on, drives, drives_as, sampled_slot, ended, resting_slot}
use Rattle.rules.specs.Definitions.Answers.{controller}
use Rattle.rules.specs.declared.Phase.{Phase}
use Rattle.rules.specs.declared.Phase.TheVariants.{Quiet, Start, Body, Acknowledge, End}
use Rattle.rules.specs.declared.Stage.{Stage}
use Rattle.rules.specs.declared.Stage.TheVariants.{Resting, Waiting, Opening, Sending, Receiving}
use Rattle.rules.specs.declared.Role.{Role}
use Rattle.rules.specs.declared.Role.TheVariants.{Nobody, Receiver, Sender}
use Rattle.rules.specs.declared.Hearing.{Hearing}
use Rattle.rules.specs.declared.Hearing.TheVariants.{Silent, Follows}
use Rattle.rules.specs.declared.Verdict.TheVariants.{Unjudged, Goes}
use Rattle.rules.specs.declared.Coded.{Coded}
use Rattle.rules.specs.declared.Progress.{Progress}
use Rattle.rules.specs.declared.Service.{Service}
use Rattle.rules.specs.declared.Reception.{Reception}
use Rattle.rules.specs.declared.Mode.{Mode}
use Rattle.rules.specs.declared.Mode.TheVariants.{Idle, Active, Asleep}
use Rattle.rules.specs.declared.Core.{Core}
use Rattle.rules.specs.declared.Controller.{Controller}
use Rattle.rules.proofs.Logic.{both_true, both_false, not_true}
use Rattle.judging.specs.Ordinary.{passes, stays}
use Rattle.slots.specs.Follow.{own_dominant, turning, moved_slot, moved_level, moved_turns, moved_good, awake_slot}
use Rattle.ordinary.specs.declared.Way.TheVariants as way
use Rattle.ordinary.specs.Ways.{frame_goes, Listens, Carries, Receives, Counting, Sends, Judged, Moves, Awake, Stepped, open_slot}
use Rattle.row.specs.Row.{core_of}
use Rattle.slots.proofs.Short.{plainly}
use Rattle.ordinary.proofs.Frames as carried
use Rattle.ordinary.proofs.Samples.{role_listens, heard_is, listened, carried_alone, no_idle, unstarted}

-- ---- a listener does not turn its own frame, and ends none where its frame goes on

unturned_as : (control : ℕ) (b : Bool) (k t : Core) → both (pick (compares_transmission control) (both (own_frame (pick b Receiver Nobody)) (eqb (drives k) 0)) false) (eqb (drives t) 1) ≡ false
unfolding own_frame
unturned_as control true k t = go (compares_transmission control) where
  go : (a : Bool) → both (pick a false false) (eqb (drives t) 1) ≡ false
  go true = refl
  go false = refl
unturned_as control false k t = go (compares_transmission control) where
  go : (a : Bool) → both (pick a false false) (eqb (drives t) 1) ≡ false
  go true = refl
  go false = refl

unturned : (control : ℕ) (k t : Core) → Listens k → false ≡ turning control k t
unfolding turning own_dominant
unturned control k t l =
    sym
    (ap (λ (x : Role). both (pick (compares_transmission control) (both (own_frame x) (eqb (drives k) 0)) false) (eqb (drives t) 1)) (role_listens k l)
    ∙ unturned_as control (under_way k.reception.place) k t)

unended : (m : List ℕ) (k : Core) (v : ℕ) (h : Hearing) → heard k (verdict k v) v ≡ h → ends_well h ≡ false → false ≡ ended (controller m k) v
unfolding ended
unended m k v h e g = sym (ap ends_well e ∙ g)

-- ---- the frame is followed

waiting_serves : (p : Stage) → is_waiting p ≡ true → is_serving p ≡ true
unfolding is_waiting is_serving
waiting_serves Resting e = e
waiting_serves Waiting e = refl
waiting_serves Opening e = refl
waiting_serves Sending e = refl
waiting_serves Receiving e = refl

rests_not : (s : Service) → not (serving s) ≡ true → waits s.effort.progress ≡ false
unfolding serving in_service waits
rests_not s e = go (is_waiting s.effort.progress.stage) refl where
  go : (b : Bool) → is_waiting s.effort.progress.stage ≡ b → b ≡ false
  go true d = absurd (false≢true (sym (not_true _ e) ∙ waiting_serves s.effort.progress.stage d))
  go false d = refl

quiet_phase : (p : Phase) → is_under_way p ≡ false → p ≡ Quiet
unfolding is_under_way
quiet_phase Quiet e = refl
quiet_phase Start e = absurd (false≢true (sym e))
quiet_phase Body e = absurd (false≢true (sym e))
quiet_phase Acknowledge e = absurd (false≢true (sym e))
quiet_phase End e = absurd (false≢true (sym e))

module _ (m : List ℕ) (k : Core) (control v : ℕ) (r : Receives k v) where
  abbrev frame : Reception
  frame = reception_judged m Follows k.reception v

  abbrev pub received_core : Core
  received_core = with_reception k frame

  hears : (b : Bool) → under_way k.reception.place ≡ b → Carries b k v → heard_as (pick b Receiver Nobody) k Unjudged v ≡ Follows
  unfolding Carries heard_as hear_frame frame_goes hear_quiet
  hears true u c = carried.follows k.reception.place.phase k.reception (not (serving k.service)) v c
  hears false u c = let a = both_true (eqb v 0) (takes_start k.line) c in rw (a.0, a.1)

  remains : (b : Bool) → under_way k.reception.place ≡ b → Carries b k v → carried.Stays frame (not (serving k.service))
  unfolding Carries frame_goes under_way
  remains true u c = carried.stays m k.reception (not (serving k.service)) v c
  remains false u c = carried.begins m k.reception (not (serving k.service)) v (quiet_phase k.reception.place.phase u)

  abbrev stay : carried.Stays frame (not (serving k.service))
  stay = remains (under_way k.reception.place) refl r.carries

  follows : heard_as (pick (under_way k.reception.place) Receiver Nobody) k Unjudged v ≡ Follows
  follows = hears (under_way k.reception.place) refl r.carries

  unreplied : (b : Bool) → reply_after (pick b Receiver Nobody) m k Unjudged frame ≡ k.reply
  unfolding reply_after
  unreplied true = rw stay.unasked
  unreplied false = refl

  received_state : controller m received_core ≡ sampled_slot (controller m k) v
  unfolding line_after passes
  received_state =
      sym
      (listened m k v r.listens Follows follows refl
      ∙ ap (λ y. controller m (follows_on m (with_reply received_core y))) (unreplied (under_way k.reception.place))
      ∙ ap (controller m) (carried_alone m received_core r.listens.waits stay.going (λ e. rests_not k.service (stay.unjoined e))))

  received_level : receiver_level frame ≡ drives received_core
  unfolding drives drives_as role_of
  received_level = rw (r.listens.drives, r.listens.answered, r.listens.replies, stay.going)

  pub received : {level : ℕ} → level ≡ receiver_level frame → Moves m k control v received_core level false
  received e =
      record {
        state = received_state;
        level = e ∙ received_level;
        turns = unturned control k received_core r.listens;
        good = unended m k v Follows (heard_is m k v r.listens Follows follows) (unfold ends_well in refl);
        kept = refl;
      }

-- ---- the line is counted

-- a frame begins with a dominant slot
first_level : (x : Coded) → 0 ≡ level_at x 0
unfolding level_at sent_slots start
first_level x = refl

module _ (m : List ℕ) (k : Core) (control v : ℕ) (r : Counting m k v) (active : is_active k.activity.mode ≡ true) where
  abbrev lined : Core
  lined = with_line k (counted k.line v)

  abbrev pub counted_core : Core
  counted_core = with_service lined (started k.service (autonomous (get_or m transmit_control 0)) (counted k.line v) k.reception)

  phase : k.reception.place.phase ≡ Quiet
  unfolding under_way
  phase = quiet_phase k.reception.place.phase (unfold under_way in r.quiet)

  silent : heard_as (pick (under_way k.reception.place) Receiver Nobody) k Unjudged v ≡ Silent
  unfolding heard_as hear_quiet
  silent = rw r.quiet (go (eqb v 0) (takes_start k.line) r.silent) where
    go : (a b : Bool) → both a b ≡ false → pick a (pick b Follows Silent) Silent ≡ Silent
    go true true e = absurd (false≢true (sym e))
    go true false e = refl
    go false b e = refl

  unnamed : reception_judged m Silent k.reception v ≡ k.reception
  unfolding reception_judged reception_after command_ended behind in_body is_body
  unnamed = rw phase

  kept : reply_after (pick (under_way k.reception.place) Receiver Nobody) m k Unjudged (reception_judged m Silent k.reception v) ≡ k.reply
  unfolding reply_after
  kept = rw r.quiet

  none : serving k.service ≡ false → serving (choose m capacity) ≡ false
  unfolding choose choice_of resting at_stage serving in_service is_serving
  none e = rw (r.nobody e)

  chosen_already : serving k.service ≡ true → choice_made m lined ≡ lined
  unfolding choice_made chooses
  chosen_already e = rw (e, both_false (is_active k.activity.mode))

  none_chosen : serving k.service ≡ false → choice_made m lined ≡ lined
  unfolding choice_made
  none_chosen e = rw (none e) (pick_same (chooses lined) lined)

  unchosen : (b : Bool) → serving k.service ≡ b → choice_made m lined ≡ lined
  unchosen true e = chosen_already e
  unchosen false e = none_chosen e

  counted_state : controller m counted_core ≡ sampled_slot (controller m k) v
  unfolding line_after passes follows_on start_made
  counted_state =
      sym
      (listened m k v r.listens Silent silent refl
      ∙ (λ i. controller m (follows_on m (with_reply (with_reception lined (unnamed i)) (kept i))))
      ∙ ap (λ (x : Core). controller m (start_made m (choice_made m x))) (no_idle lined r.listens.waits)
      ∙ ap (λ (x : Core). controller m (start_made m x)) (unchosen (serving k.service) refl))

  pub counted_moves : {level : ℕ} (t : Core) → t ≡ counted_core → level ≡ drives t → Moves m k control v t level false
  counted_moves t e d =
      record {
        state = ap (controller m) e ∙ counted_state;
        level = d;
        turns = unturned control k t r.listens;
        good = unended m k v Silent (heard_is m k v r.listens Silent silent) (unfold ends_well in refl);
        kept = ap (λ (x : Core). x.diagnosis) e;
      }

  -- a service that waits opens its attempt on a free line; else nothing follows
  pub opening : waits k.service.effort.progress ≡ true → both (autonomous (get_or m transmit_control 0)) (free (counted k.line v)) ≡ true → counted_core ≡ with_service lined (opened k.service 0)
  unfolding started start_ended behind in_body is_body under_way is_under_way
  opening w f = rw (w, phase, f)

  still : pick (waits k.service.effort.progress) (both (autonomous (get_or m transmit_control 0)) (free (counted k.line v))) false ≡ false → started k.service (autonomous (get_or m transmit_control 0)) (counted k.line v) k.reception ≡ k.service
  unfolding started start_ended behind in_body is_body under_way is_under_way
  still e = rw phase (go (waits k.service.effort.progress) (both (autonomous (get_or m transmit_control 0)) (free (counted k.line v))) e) where
    go : (a b : Bool) → pick a b false ≡ false → pick a (pick b (opened k.service 0) k.service) k.service ≡ k.service
    go true true d = absurd (false≢true (sym d))
    go true false d = refl
    go false b d = refl

  pub staying : pick (waits k.service.effort.progress) (both (autonomous (get_or m transmit_control 0)) (free (counted k.line v))) false ≡ false → counted_core ≡ lined
  staying e = ap (with_service lined) (still e)

  pub opened_level : 0 ≡ drives (with_service lined (opened k.service 0))
  unfolding drives drives_as role_of opened at_stage drives_frame is_driving
  opened_level = first_level k.service.effort.frame

  pub quiet_level : 1 ≡ drives lined
  unfolding drives drives_as role_of
  quiet_level = rw (r.listens.drives, r.listens.answered, r.listens.replies, r.quiet)

-- ---- a slot of the model's own frame

module _ (m : List ℕ) (k : Core) (control v : ℕ) {next : ℕ} (r : Sends k v next) where
  abbrev progress : Progress
  progress = k.service.effort.progress

  abbrev pub sent_core : Core
  sent_core = with_service (with_reception k (reception_judged m Follows k.reception v)) (service_judged Goes k.service)

  sender : role_in k ≡ Sender
  unfolding role_of
  sender = rw r.drives

  goes_on : verdict k v ≡ Goes
  unfolding verdict verdict_as
  goes_on = ap (λ (x : Role). verdict_as x k v) sender ∙ r.goes

  replies_none : reply_verdict (role_in k) k v ≡ Unjudged
  unfolding reply_verdict
  replies_none = ap (λ (x : Role). reply_verdict x k v) sender

  own_heard : heard k (verdict k v) v ≡ Follows
  unfolding heard heard_as hear_own
  own_heard = (λ i. heard_as (sender i) k (goes_on i) v)

  holds : (passes Follows ≡ true) × (stays Goes k.service ≡ true)
  unfolding passes stays
  holds = (refl, refl)

  unfollowed : follows_on m sent_core ≡ sent_core
  unfolding follows_on choice_made chooses service_judged advance at_stage serving in_service is_serving
  unfollowed =
      ap (λ (x : Core). start_made m (choice_made m x)) (no_idle sent_core r.waits)
      ∙ rw (both_false (is_active k.activity.mode)) (unstarted m sent_core (unfold service_judged advance at_stage waits is_waiting in refl))

  sent_state : controller m sent_core ≡ sampled_slot (controller m k) v
  unfolding line_after reply_after
  sent_state =
      sym
      (plainly m k v ((λ i. passes (own_heard i)) ∙ holds.0) ((λ i. stays (goes_on i) k.service) ∙ holds.1)
      ∙ (λ i.
      controller m
      (follows_on m
      (with_reply
      (with_service
      (with_reception (with_line k (line_after (own_heard i) k.line v)) (reception_judged m (own_heard i) k.reception v))
      (service_judged (goes_on i) k.service))
      (reply_after (sender i) m k (replies_none i) (reception_judged m (own_heard i) k.reception v)))))
      ∙ ap (controller m) unfollowed)

  sent_level : next ≡ drives sent_core
  unfolding drives drives_as role_of service_judged advance at_stage drives_frame is_driving
  sent_level = r.next

  pub sent : {dominant turns : Bool} → dominant ≡ own_dominant control k → turns ≡ both dominant (eqb next 1) → (t : Core) → t ≡ sent_core → Moves m k control v t next turns
  unfolding turning
  sent d e t s =
      record {
        state = ap (controller m) s ∙ sent_state;
        level = sent_level ∙ ap drives (sym s);
        turns = e ∙ (λ i. both (d i) (eqb ((sent_level ∙ ap drives (sym s)) i) 1));
        good = unended m k v Follows own_heard (unfold ends_well in refl);
        kept = ap (λ (x : Core). x.diagnosis) s;
      }

  pub own_turn : own_dominant control k ≡ pick (compares_transmission control) (eqb (level_at k.service.effort.frame progress.at) 0) false
  unfolding own_dominant own_frame drives drives_as
  own_turn = ap (λ (x : Role). pick (compares_transmission control) (both (own_frame x) (eqb (drives_as x k) 0)) false) sender

-- ---- by the answer of the tests

pub as_sends : (b : Bool) (n : ℕ) (m : List ℕ) (k : Core) (v : ℕ) → b ≡ true → Judged (way.Follows b n) m k v → Sends k v n
unfolding Judged
as_sends true n m k v e j = j
as_sends false n m k v e j = absurd (false≢true e)

pub as_receives : (b : Bool) (n : ℕ) (m : List ℕ) (k : Core) (v : ℕ) → b ≡ false → Judged (way.Follows b n) m k v → Receives k v
unfolding Judged
as_receives true n m k v e j = absurd (false≢true (sym e))
as_receives false n m k v e j = j

-- ---- active and idle

never_asleep : (mode : Mode) → is_active mode ≡ true → is_asleep mode ≡ false
unfolding is_active is_asleep
never_asleep Idle e = refl
never_asleep Active e = refl
never_asleep Asleep e = sym e

pub awake_active : (m : List ℕ) (k : Core) (control v : ℕ) (t : Core) (driven : ℕ) (turned : Bool) → is_active k.activity.mode ≡ true → Moves m k control v t driven turned → Awake m k control v t driven turned
unfolding moved_slot moved_level moved_turns moved_good
awake_active m k control v t driven turned a r =
    record {
      state = r.state ∙ ap (λ (b : Bool). pick b (sampled_slot (controller m k) v) (controller m k)) (sym a);
      level = r.level ∙ ap (λ (b : Bool). pick b (drives t) 1) (sym a);
      turns = r.turns ∙ ap (λ (b : Bool). pick b (turning control k t) false) (sym a);
      awake = never_asleep k.activity.mode a;
      good = r.good ∙ ap (λ (b : Bool). pick b (ended (controller m k) v) false) (sym a);
      kept = r.kept;
    }

pub awake_idle : (m : List ℕ) (k : Core) (control v : ℕ) → k.activity.mode ≡ Idle → Awake m k control v k 1 false
unfolding moved_slot moved_level moved_turns moved_good
awake_idle m k control v a =
    let off : is_active k.activity.mode ≡ false = unfold is_active in ap is_active a in
    record {
      state = ap (λ (b : Bool). pick b (sampled_slot (controller m k) v) (controller m k)) (sym off);
      level = ap (λ (b : Bool). pick b (drives k) 1) (sym off);
      turns = ap (λ (b : Bool). pick b (turning control k k) false) (sym off);
      awake = unfold is_asleep in ap is_asleep a;
      good = ap (λ (b : Bool). pick b (ended (controller m k) v) false) (sym off);
      kept = refl;
    }

-- ---- the slot

pub awake_open : (c : Controller) (levels : ℕ) → is_asleep c.core.activity.mode ≡ false → awake_slot c levels ≡ open_slot c levels
unfolding awake_slot open_slot resting_slot
awake_open c levels e = rw e

pub step_awake : (b : Bool) (m s : List ℕ) (control v : ℕ) (t : List ℕ) (driven : ℕ) (turned : Bool) → b ≡ true → Stepped b m s control v t driven turned → Awake m (core_of s) control v (core_of t) driven turned
unfolding Stepped
step_awake true m s control v t driven turned e r = r
step_awake false m s control v t driven turned e r = absurd (false≢true e)

pub step_same : (b : Bool) (m s : List ℕ) (control v : ℕ) (t : List ℕ) (driven : ℕ) (turned : Bool) → b ≡ false → Stepped b m s control v t driven turned → t ≡ s
unfolding Stepped
step_same true m s control v t driven turned e r = absurd (false≢true (sym e))
step_same false m s control v t driven turned e r = r
