-- Where nothing begins, nothing follows.
use Prim.Native.Nat.{ℕ}
use mathlib.Core.Bool.{Bool, true, false, false≢true, not}
use mathlib.Core.List.{List}
use mathlib.Core.Path.{◌≡◌, refl, sym}
use Rattle.line.specs.Bits.{pick}
use Rattle.line.proofs.Laws.{pick_same}
use Rattle.rules.specs.Definitions.Reception.{under_way, start_ended}
use Rattle.rules.specs.Definitions.Attempt.{waits}
use Rattle.rules.specs.Definitions.Service.{started}
use Rattle.rules.specs.Definitions.State.{idle_due, is_active, serving}
use Rattle.rules.specs.Definitions.Slots.{chooses, choice_made, start_made, follows_on}
use Rattle.rules.specs.declared.Core.{Core}
use Rattle.rules.proofs.Logic.{both_false}
use Rattle.slots.specs.Follow.{begins}

-- no idle waits, a frame is under way, and its start sequence has not just ended
waits_not : (k : Core) → begins k ≡ false → k.activity.waiting ≡ false
unfolding begins
waits_not k e = go k.activity.waiting e where
  go : (b : Bool) → pick b true (pick (under_way k.reception.place) (start_ended k.reception) true) ≡ false → b ≡ false
  go true d = d
  go false d = refl

under_way_lem : (k : Core) → begins k ≡ false → under_way k.reception.place ≡ true
unfolding begins
under_way_lem k e = go k.activity.waiting (under_way k.reception.place) e where
  go : (a b : Bool) → pick a true (pick b (start_ended k.reception) true) ≡ false → b ≡ true
  go true b d = absurd (false≢true (sym d))
  go false true d = refl
  go false false d = absurd (false≢true (sym d))

not_ended : (k : Core) → begins k ≡ false → start_ended k.reception ≡ false
unfolding begins
not_ended k e = go k.activity.waiting (under_way k.reception.place) e where
  go : (a b : Bool) → pick a true (pick b (start_ended k.reception) true) ≡ false → start_ended k.reception ≡ false
  go true b d = absurd (false≢true (sym d))
  go false true d = d
  go false false d = absurd (false≢true (sym d))

no_idle : (k : Core) → begins k ≡ false → idle_due k ≡ k
unfolding idle_due
no_idle k e = rw (waits_not k e)

no_choice : (m : List ℕ) (k : Core) → begins k ≡ false → choice_made m k ≡ k
unfolding choice_made chooses
no_choice m k e = rw (under_way_lem k e, both_false (not (serving k.service)), both_false (is_active k.activity.mode))

no_start : (m : List ℕ) (k : Core) → begins k ≡ false → start_made m k ≡ k
unfolding start_made started
no_start m k e = rw (not_ended k e, under_way_lem k e, pick_same (waits k.service.effort.progress) k.service)

pub nothing_follows : (m : List ℕ) (k : Core) → begins k ≡ false → follows_on m k ≡ k
unfolding follows_on
nothing_follows m k e = rw (no_idle k e, no_choice m k e, no_start m k e)
