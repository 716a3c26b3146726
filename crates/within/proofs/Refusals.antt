-- A refused event changes nothing.
use Prim.Native.Nat.{ℕ}
use mathlib.Core.Bool.{Bool, true, false}
use mathlib.Core.List.{List, [], ◌∷◌}
use mathlib.Core.Path.{◌≡◌, refl, ap, ◌∙◌}
use native.Mathlib.Omega.{arith}
use lib.Dec.{ltb}
use Rattle.std.specs.Prelude.{Result, Ok, Err}
use Rattle.line.specs.Bits.{pick}
use Rattle.rules.specs.Definitions.State.{in_range, is_active}
use Rattle.rules.specs.Definitions.Run.{refuse, accept, answered, rested_slot, unless_refused, pin_reset, host_write, host_read, slot, step}
use Rattle.rules.specs.Definitions.Answers.{number, refused_by, value_of, lent, controller}
use Rattle.rules.specs.declared.Refusal.{Refusal}
use Rattle.rules.specs.declared.Refusal.TheVariants.{Address, Value, Unwritable, Unreadable, Levels, Range, Asleep, FixedBits}
use Rattle.rules.specs.declared.Event.{Event}
use Rattle.rules.specs.declared.Event.TheVariants.{Reset, Write, Read, Slot}
use Rattle.rules.specs.declared.Core.{Core}
use Rattle.rules.specs.declared.Controller.{Controller}
use Rattle.rules.specs.declared.Answer.{Answer}
use Rattle.ordinary.specs.Ways.{open_slot}
use Rattle.within.specs.Lent.{Unchanged}

positive : (w : Refusal) → number w ≡ 0 → ⊥
unfolding number
positive Address e = omega (arith, e)
positive Value e = omega (arith, e)
positive Unwritable e = omega (arith, e)
positive Unreadable e = omega (arith, e)
positive Levels e = omega (arith, e)
positive Range e = omega (arith, e)
positive Asleep e = omega (arith, e)
positive FixedBits e = omega (arith, e)

refused_keeps : (c : Controller) (rs : List (Bool × Refusal)) (a : Answer) → a.refused ≡ 0 → ((unless_refused c rs a).refused ≡ 0 → ⊥) → (unless_refused c rs a).next ≡ c
unfolding unless_refused
refused_keeps c [] a z n = absurd (n z)
refused_keeps c (r ∷ rs) a z n = go r.0 n (λ h. refused_keeps c rs a z h) where
  go : (b : Bool) → ((pick b (refuse c r.1) (unless_refused c rs a)).refused ≡ 0 → ⊥) → (((unless_refused c rs a).refused ≡ 0 → ⊥) → (unless_refused c rs a).next ≡ c) → (pick b (refuse c r.1) (unless_refused c rs a)).next ≡ c
  go true h k = unfold refuse in refl
  go false h k = k h

answer_accepts : (b : Bool) (c d : Controller) → (pick b (answered c) (rested_slot d)).refused ≡ 0
unfolding answered rested_slot accept
answer_accepts true c d = refl
answer_accepts false c d = refl

pub step_keeps : (c : Controller) (e : Event) → ((step c e).refused ≡ 0 → ⊥) → (step c e).next ≡ c
unfolding step pin_reset host_write host_read slot
step_keeps c Reset n = refused_keeps c _ _ (unfold accept in refl) n
step_keeps c (Write address value) n = refused_keeps c _ _ (unfold accept in refl) n
step_keeps c (Read address) n = refused_keeps c _ _ (unfold accept in refl) n
step_keeps c (Slot levels) n = refused_keeps c _ _ (answer_accepts (is_active c.core.activity.mode) _ _) n

-- what a refused call leaves is what it was lent
kept : (c d : Controller) (e : Event) (why : Refusal) → lent (Err why) d ≡ step c e → d ≡ c
unfolding lent refused_by
kept c d e why h = ap (λ (a : Answer). a.next) h ∙ step_keeps c e (λ z. positive why (ap (λ (a : Answer). a.refused) h ∙ z))

pub kept_map : (m n : List ℕ) (k l : Core) (e : Event) (why : Refusal) → lent (Err why) (controller n l) ≡ step (controller m k) e → n ≡ m
kept_map m n k l e why h = ap (λ (d : Controller). d.memory) (kept (controller m k) (controller n l) e why h)

pub kept_core : (m n : List ℕ) (k l : Core) (e : Event) (why : Refusal) → lent (Err why) (controller n l) ≡ step (controller m k) e → l ≡ k
kept_core m n k l e why h = ap (λ (d : Controller). d.core) (kept (controller m k) (controller n l) e why h)

pub unchanged : (why : Refusal) (m s n : List ℕ) → n ≡ m → Unchanged (refused_by {A = ℕ} (Err why)) m s n s
unfolding refused_by number Unchanged
unchanged Address m s n h = (h, refl)
unchanged Value m s n h = (h, refl)
unchanged Unwritable m s n h = (h, refl)
unchanged Unreadable m s n h = (h, refl)
unchanged Levels m s n h = (h, refl)
unchanged Range m s n h = (h, refl)
unchanged Asleep m s n h = (h, refl)
unchanged FixedBits m s n h = (h, refl)

pub not_refused : (value : ℕ) (m s n t : List ℕ) → Unchanged (refused_by (Ok value)) m s n t
unfolding refused_by Unchanged
not_refused value m s n t = tt

-- a call that writes neither map nor row
pub unwritten : (r : Result ℕ Refusal) (m s : List ℕ) → Unchanged (refused_by r) m s m s
unwritten (Ok value) m s = not_refused value m s m s
unwritten (Err why) m s = unchanged why m s m refl

-- ---- a slot

pub open_step : (c : Controller) (levels : ℕ) → in_range c ≡ true → ltb 7 levels ≡ false → open_slot c levels ≡ step c (Slot levels)
unfolding step slot unless_refused open_slot
open_step c levels r l = rw (r, l)

pub levels_refused : (c : Controller) (levels : ℕ) → in_range c ≡ true → ltb 7 levels ≡ true → lent (Err Levels) c ≡ step c (Slot levels)
unfolding step slot unless_refused refuse lent refused_by value_of number
levels_refused c levels r l = rw (r, l)

pub range_refused : (c : Controller) (levels : ℕ) → in_range c ≡ false → lent (Err Range) c ≡ step c (Slot levels)
unfolding step slot unless_refused refuse lent refused_by value_of number
range_refused c levels r = rw r
