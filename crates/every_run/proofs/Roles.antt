-- What the model is in the frame under way, from its attempt and the frame; and what a sample then is.
use Prim.Native.Nat.{ℕ}
use mathlib.Core.Bool.{Bool, true, false, false≢true}
use mathlib.Core.Path.{◌≡◌, refl, sym}
use Rattle.line.specs.Bits.{pick}
use Rattle.line.proofs.Laws.{picked}
use Rattle.rules.specs.Definitions.Reception.{is_under_way, under_way}
use Rattle.rules.specs.Definitions.Hearing.{hear_frame, hear_quiet}
use Rattle.rules.specs.Definitions.Attempt.{drives_frame, is_answered}
use Rattle.rules.specs.Definitions.Service.{role_of, judge_reply, hear_own}
use Rattle.rules.specs.Definitions.Longest.{longest_of}
use Rattle.rules.specs.Definitions.Slots.{heard_as, heard}
use Rattle.rules.specs.declared.Phase.{Phase}
use Rattle.rules.specs.declared.Phase.TheVariants.{Quiet, Start, Body, Acknowledge, End}
use Rattle.rules.specs.declared.Place.{Place}
use Rattle.rules.specs.declared.Progress.{Progress}
use Rattle.rules.specs.declared.Verdict.{Verdict}
use Rattle.rules.specs.declared.Role.{Role}
use Rattle.rules.specs.declared.Role.TheVariants.{Nobody, Receiver, Sender, Asker, Replier}
use Rattle.rules.specs.declared.Core.{Core}

-- no frame is under way
pub quiet_phase : (p : Phase) → is_under_way p ≡ false → p ≡ Quiet
unfolding is_under_way
quiet_phase Quiet e = refl
quiet_phase Start e = absurd (false≢true (sym e))
quiet_phase Body e = absurd (false≢true (sym e))
quiet_phase Acknowledge e = absurd (false≢true (sym e))
quiet_phase End e = absurd (false≢true (sym e))

-- what the role tells of service, reply and frame
pub data RoleIs (p : Progress) (replies : Bool) (here : Place) : Role → Type 0 where
  sends : drives_frame p ≡ true → RoleIs p replies here Sender
  asks : drives_frame p ≡ false → is_answered p ≡ true → RoleIs p replies here Asker
  replying : drives_frame p ≡ false → is_answered p ≡ false → replies ≡ true → RoleIs p replies here Replier
  receives : drives_frame p ≡ false → is_answered p ≡ false → replies ≡ false → under_way here ≡ true → RoleIs p replies here Receiver
  rests : drives_frame p ≡ false → is_answered p ≡ false → replies ≡ false → under_way here ≡ false → RoleIs p replies here Nobody

module _ (p : Progress) (replies : Bool) (here : Place) where
  pub role_is : RoleIs p replies here (role_of p replies here)
  unfolding role_of
  role_is =
      picked P (drives_frame p) Sender _ (λ d. sends d)
      (λ d. picked P (is_answered p) Asker _ (λ a. asks d a)
      (λ a. picked P replies Replier _ (λ y. replying d a y)
      (λ y. picked P (under_way here) Receiver Nobody (λ u. receives d a y u) (λ u. rests d a y u))))
    where
      P : Role → Type 0
      P x = RoleIs p replies here x

  pub role_sender : drives_frame p ≡ true → role_of p replies here ≡ Sender
  unfolding role_of
  role_sender d = rw d

  pub role_asker : drives_frame p ≡ false → is_answered p ≡ true → role_of p replies here ≡ Asker
  unfolding role_of
  role_asker d a = rw (d, a)

  pub role_replier : drives_frame p ≡ false → is_answered p ≡ false → replies ≡ true → role_of p replies here ≡ Replier
  unfolding role_of
  role_replier d a y = rw (d, a, y)

  pub role_other : drives_frame p ≡ false → is_answered p ≡ false → replies ≡ false → role_of p replies here ≡ pick (under_way here) Receiver Nobody
  unfolding role_of
  role_other d a y = rw (d, a, y)

-- ---- for the line

module _ (k : Core) (w : Verdict) (v : ℕ) where
  pub heard_nobody : drives_frame k.service.effort.progress ≡ false → is_answered k.service.effort.progress ≡ false → k.reply.going ≡ false → under_way k.reception.place ≡ false
      → heard k w v ≡ hear_quiet k.line v
  unfolding heard heard_as role_of
  heard_nobody d a y u = rw (d, a, y, u)

  pub heard_receiver : drives_frame k.service.effort.progress ≡ false → is_answered k.service.effort.progress ≡ false → k.reply.going ≡ false → under_way k.reception.place ≡ true
      → heard k w v ≡ hear_frame k.reception (longest_of k) v
  unfolding heard heard_as role_of
  heard_receiver d a y u = rw (d, a, y, u)

  pub heard_asker : drives_frame k.service.effort.progress ≡ false → is_answered k.service.effort.progress ≡ true → heard k w v ≡ hear_frame k.reception (longest_of k) v
  unfolding heard heard_as role_of
  heard_asker d a = rw (d, a)

  pub heard_sender : drives_frame k.service.effort.progress ≡ true → heard k w v ≡ hear_own w
  unfolding heard heard_as role_of
  heard_sender d = rw d

  pub heard_replier : drives_frame k.service.effort.progress ≡ false → is_answered k.service.effort.progress ≡ false → k.reply.going ≡ true → heard k w v ≡ hear_own (judge_reply k.reply v)
  unfolding heard heard_as role_of
  heard_replier d a y = rw (d, a, y)
