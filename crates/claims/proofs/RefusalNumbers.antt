-- The number of each refusal, in the order of 01.
use Prim.Native.Nat.{ℕ, ◌%◌}
use mathlib.Core.Bool.{Bool, true, false, not}
use mathlib.Core.List.{List, [], ◌∷◌, ◌++◌}
use mathlib.Core.Path.{◌≡◌, refl, ap, ◌∙◌}
use lib.Dec.{ltb}
use lib.ListN.{drop}
use Rattle.line.specs.Bits.{pick}
use Rattle.line.proofs.Laws.{picked}
use Rattle.rules.specs.Definitions.Registers.{read_only, write_only, reserved, fixed_bits}
use Rattle.rules.specs.Definitions.State.{in_range, is_active, is_asleep}
use Rattle.rules.specs.Definitions.Answers.{number}
use Rattle.rules.specs.Definitions.Host.{access_refusals, write_refusals, read_refusals}
use Rattle.rules.specs.Definitions.Slots.{active_slot, resting_slot}
use Rattle.rules.specs.Definitions.Run.{refuse, accept, unless_refused, pin_reset, host_write, host_read, answered, rested_slot, slot, step}
use Rattle.rules.specs.declared.Controller.{Controller}
use Rattle.rules.specs.declared.Answer.{Answer}
use Rattle.rules.specs.declared.Refusal.{Refusal}
use Rattle.rules.specs.declared.Refusal.TheVariants.{Levels}
use Rattle.rules.specs.declared.Event.TheVariants.{Reset, Write, Read, Slot}

-- the number of the first refusal that is due, or 0
unfoldable due : List (Bool × Refusal) → ℕ
due [] = 0
due (r ∷ rs) = pick r.0 (number r.1) (due rs)

turned : (t : Bool) (x y : ℕ) → pick (not t) x y ≡ pick t y x
turned true x y = refl
turned false x y = refl

module _ (c : Controller) where
  due_number : (rs : List (Bool × Refusal)) (a : Answer) → a.refused ≡ 0 → (unless_refused c rs a).refused ≡ due rs
  unfolding unless_refused refuse due
  due_number [] a h = h
  due_number (r ∷ rs) a h = one r.0 (due_number rs a h)
    where
      one : (t : Bool) → (unless_refused c rs a).refused ≡ due rs → (pick t (refuse c r.1) (unless_refused c rs a)).refused ≡ pick t (number r.1) (due rs)
      one true e = refl
      one false e = e

  pub reset_number : (step c Reset).refused ≡ pick (in_range c) 0 6
  unfolding step pin_reset accept due number
  reset_number = due_number _ _ refl ∙ turned (in_range c) 6 0

  pub write_number : (a v : ℕ) → (step c (Write a v)).refused
      ≡ pick (in_range c) (pick (is_asleep c.core.activity.mode) 7 (pick (ltb 255 a) 1
      (pick (ltb 255 v) 2 (pick (read_only a) 3 (pick (reserved a) 3 (pick (fixed_bits a (v % 256)) 0 8)))))) 6
  unfolding step host_write accept due number access_refusals write_refusals
  write_number a v =
      let last = turned (fixed_bits a (v % 256)) 8 0 in
      due_number _ _ refl ∙ turned (in_range c) 6 (due (drop 1 (access_refusals c a ++ write_refusals a v)))
      ∙ ap (λ (x : ℕ). pick (in_range c) (pick (is_asleep c.core.activity.mode) 7 (pick (ltb 255 a) 1 (pick (ltb 255 v) 2 (pick (read_only a) 3 (pick (reserved a) 3 x))))) 6) last

  pub read_number : (a : ℕ) → (step c (Read a)).refused
      ≡ pick (in_range c) (pick (is_asleep c.core.activity.mode) 7 (pick (ltb 255 a) 1 (pick (write_only a) 4 (pick (reserved a) 4 0)))) 6
  unfolding step host_read accept due number access_refusals read_refusals
  read_number a = due_number _ _ refl ∙ turned (in_range c) 6 (due (drop 1 (access_refusals c a ++ read_refusals a)))

  pub slot_number : (l : ℕ) → (step c (Slot l)).refused ≡ pick (in_range c) (pick (ltb 7 l) 5 0) 6
  unfolding step slot answered rested_slot accept due number
  slot_number l =
      due_number _ _ (picked (λ (y : Answer). y.refused ≡ 0) (is_active c.core.activity.mode) (answered (active_slot c l)) (rested_slot (resting_slot c l)) (λ a. refl) (λ a. refl))
      ∙ turned (in_range c) 6 (due ((ltb 7 l, Levels) ∷ []))
