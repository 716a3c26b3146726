-- An ordinary sample: what the slot leaves of line, frame and service.
use Prim.Native.Nat.{ℕ}
use mathlib.Core.Bool.{Bool, true, false, not}
use mathlib.Core.List.{List}
use mathlib.Core.Path.{◌≡◌, refl, ap, ◌∙◌}
use Rattle.line.specs.Bits.{pick}
use Rattle.rules.specs.Definitions.Setters.{with_line, with_reception, with_service, with_reply}
use Rattle.rules.specs.Definitions.Reception.{under_way, start_ended}
use Rattle.rules.specs.Definitions.Hearing.{line_after}
use Rattle.rules.specs.Definitions.Attempt.{waits, advance}
use Rattle.rules.specs.Definitions.Service.{role_of, started}
use Rattle.rules.specs.Definitions.State.{idle_due, is_active, serving}
use Rattle.rules.specs.Definitions.Slots.{role_in, verdict_as, verdict, reply_verdict, heard_as, heard, service_judged, reception_judged, reply_after, chooses, choice_made, start_made, follows_on, sampled_slot}
use Rattle.rules.specs.Definitions.Answers.{controller}
use Rattle.rules.specs.declared.Role.{Role}
use Rattle.rules.specs.declared.Role.TheVariants.{Nobody, Receiver}
use Rattle.rules.specs.declared.Hearing.{Hearing}
use Rattle.rules.specs.declared.Verdict.TheVariants.{Unjudged}
use Rattle.rules.specs.declared.Core.{Core}
use Rattle.rules.proofs.Logic.{both_false}
use Rattle.line.proofs.Laws.{pick_same}
use Rattle.judging.specs.Ordinary.{passes, goes, stays}
use Rattle.slots.proofs.Short.{plainly}
use Rattle.ordinary.specs.Ways.{Listens}

-- ---- the model listens

pub role_listens : (k : Core) → Listens k → role_in k ≡ pick (under_way k.reception.place) Receiver Nobody
unfolding role_of
role_listens k l = rw (l.drives, l.answered, l.replies)

listener : (b : Bool) (k : Core) (v : ℕ) → verdict_as (pick b Receiver Nobody) k v ≡ Unjudged
unfolding verdict_as
listener true k v = refl
listener false k v = refl

no_verdict : (b : Bool) (k : Core) (v : ℕ) → reply_verdict (pick b Receiver Nobody) k v ≡ Unjudged
unfolding reply_verdict
no_verdict true k v = refl
no_verdict false k v = refl

module _ (m : List ℕ) (k : Core) (v : ℕ) (l : Listens k) where
  abbrev role : Role
  role = pick (under_way k.reception.place) Receiver Nobody

  unjudged : verdict k v ≡ Unjudged
  unfolding verdict
  unjudged = ap (λ (x : Role). verdict_as x k v) (role_listens k l) ∙ listener (under_way k.reception.place) k v

  unreplied : reply_verdict (role_in k) k v ≡ Unjudged
  unreplied = ap (λ (x : Role). reply_verdict x k v) (role_listens k l) ∙ no_verdict (under_way k.reception.place) k v

  pub heard_is : (h : Hearing) → heard_as role k Unjudged v ≡ h → heard k (verdict k v) v ≡ h
  unfolding heard
  heard_is h e = (λ i. heard_as (role_listens k l i) k (unjudged i) v) ∙ e

  rests_on : stays Unjudged k.service ≡ true
  unfolding stays goes
  rests_on = ap goes l.goes

  pub listened : (h : Hearing) → heard_as role k Unjudged v ≡ h → passes h ≡ true →
      sampled_slot (controller m k) v
      ≡ controller m
      (follows_on m
      (with_reply (with_reception (with_line k (line_after h k.line v)) (reception_judged m h k.reception v))
      (reply_after role m k Unjudged (reception_judged m h k.reception v))))
  unfolding service_judged advance
  listened h e p =
      plainly m k v (ap passes (heard_is h e) ∙ p) ((λ i. stays (unjudged i) k.service) ∙ rests_on)
      ∙ (λ i.
      controller m
      (follows_on m
      (with_reply
      (with_service
      (with_reception (with_line k (line_after (heard_is h e i) k.line v)) (reception_judged m (heard_is h e i) k.reception v))
      (service_judged (unjudged i) k.service))
      (reply_after (role_listens k l i) m k (unreplied i) (reception_judged m (heard_is h e i) k.reception v)))))

-- ---- nothing follows

pub no_idle : (k : Core) → k.activity.waiting ≡ false → idle_due k ≡ k
unfolding idle_due
no_idle k e = rw e

pub unstarted : (m : List ℕ) (k : Core) → waits k.service.effort.progress ≡ false → start_made m k ≡ k
unfolding start_made started
unstarted m k e = rw e

unjoined : (m : List ℕ) (k : Core) → under_way k.reception.place ≡ true → (start_ended k.reception ≡ true → waits k.service.effort.progress ≡ false) → start_made m k ≡ k
unfolding start_made started
unjoined m k u j = go (start_ended k.reception) refl where
  go : (b : Bool) → start_ended k.reception ≡ b → start_made m k ≡ k
  go true e = unstarted m k (j e)
  go false e = rw (e, u, pick_same (waits k.service.effort.progress) k.service)

unchosen : (m : List ℕ) (k : Core) → under_way k.reception.place ≡ true → choice_made m k ≡ k
unfolding choice_made chooses
unchosen m k u = rw (u, both_false (not (serving k.service)), both_false (is_active k.activity.mode))

pub carried_alone : (m : List ℕ) (k : Core) → k.activity.waiting ≡ false → under_way k.reception.place ≡ true →
    (start_ended k.reception ≡ true → waits k.service.effort.progress ≡ false) → follows_on m k ≡ k
unfolding follows_on
carried_alone m k w u j = rw (no_idle k w, unchosen m k u) (unjoined m k u j)
