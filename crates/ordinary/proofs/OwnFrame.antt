-- The level of a slot of the frame to be sent, from the bytes of the row; what a slot of it spends.
use Prim.Native.Nat.{ℕ, ◌+◌, ◌-◌, ◌*◌, ◌/◌, ◌%◌, ◌≤◌, ◌<◌}
use mathlib.Core.Bool.{Bool, true, false, false≢true, ◌&&◌}
use mathlib.Core.List.{List}
use mathlib.Core.Path.{◌≡◌, refl, sym, ap, ◌∙◌}
use native.Mathlib.Omega.{arith}
use lib.Dec.{ltb}
use lib.ListN.{get_or}
use borrow.Author.Tests.{lt-ltb, le-ltb}
use Rattle.line.specs.Bits.{pick}
use Rattle.line.specs.LineCode.{pattern}
use Rattle.line.specs.Frame.{longest_data, start}
use Rattle.rules.specs.Definitions.Registers.{both}
use Rattle.rules.specs.Definitions.Attempt.{level_at}
use Rattle.driver.specs.Driver.{nibble_at, slot_coded, placed, framed}
use Rattle.driver.proofs.Levels.{level_placed}
use Rattle.row.specs.Row.{frame_at, coded_by}

pub and_both : (a b : Bool) → a && b ≡ both a b
and_both true b = refl
and_both false b = refl

pub and_true : (a b : Bool) → a && b ≡ true → (a ≡ true) × (b ≡ true)
and_true true b e = (refl, e)
and_true false b e = absurd (false≢true e)

-- ---- slots of one nibble, or of two

pub same_nibble : (bytes : List ℕ) (k : ℕ) → k % 5 < 4 → slot_coded bytes (k + 1) ≡ get_or (pattern (nibble_at bytes (k / 5) % 16)) (k % 5 + 1) 0
unfolding slot_coded
same_nibble bytes k h =
    let q : (k + 1) / 5 ≡ k / 5 = omega (arith, h) in
    let r : (k + 1) % 5 ≡ k % 5 + 1 = omega (arith, h) in
    rw (q, r)

pub next_nibble : (bytes : List ℕ) (k : ℕ) → 4 ≤ k % 5 → slot_coded bytes (k + 1) ≡ get_or (pattern (nibble_at bytes (k / 5 + 1) % 16)) 0 0
unfolding slot_coded
next_nibble bytes k h =
    let q : (k + 1) / 5 ≡ k / 5 + 1 = omega (arith, h) in
    let r : (k + 1) % 5 ≡ 0 = omega (arith, h) in
    rw (q, r)

-- ---- by the place in the frame

module _ (byte : ℕ → ℕ) (few : byte 12 ≤ 30) where
  pub own_level : (k : ℕ) →
      pick (ltb k 10) (get_or start k 1)
      (pick (ltb k (48 + 10 * byte 12)) (slot_coded (frame_at byte 108) (k - 10)) (pick (ltb k (50 + 10 * byte 12)) 0 1))
      ≡ level_at (coded_by byte 12 108) k
  unfolding placed framed
  own_level k =
      let e : byte 12 % (longest_data + 1) ≡ byte 12 = omega (arith, few) in
      ap
      (λ (n : ℕ).
      pick (ltb k 10) (get_or start k 1)
      (pick (ltb k (48 + 10 * n)) (slot_coded (frame_at byte 108) (k - 10)) (pick (ltb k (50 + 10 * n)) 0 1)))
      (sym e)
      ∙ level_placed (frame_at byte 108) (byte 12) k refl

  pub coded_level : (k : ℕ) → 10 ≤ k → k < 48 + 10 * byte 12 → slot_coded (frame_at byte 108) (k - 10) ≡ level_at (coded_by byte 12 108) k
  coded_level k a b =
      ap (λ (t : Bool). pick t (slot_coded (frame_at byte 108) (k - 10)) (pick (ltb k (50 + 10 * byte 12)) 0 1)) (sym (lt-ltb k (48 + 10 * byte 12) b))
      ∙ ap
      (λ (t : Bool).
      pick t (get_or start k 1)
      (pick (ltb k (48 + 10 * byte 12)) (slot_coded (frame_at byte 108) (k - 10)) (pick (ltb k (50 + 10 * byte 12)) 0 1)))
      (sym (le-ltb k 10 a))
      ∙ own_level k

  pub coded_next : (k : ℕ) → 10 ≤ k → k < 47 + 10 * byte 12 → slot_coded (frame_at byte 108) (k - 10 + 1) ≡ level_at (coded_by byte 12 108) (k + 1)
  coded_next k a b =
      let e : k - 10 + 1 ≡ k + 1 - 10 = omega (arith, a) in
      ap (slot_coded (frame_at byte 108)) e ∙ coded_level (k + 1) (omega (arith, a)) (omega (arith, b))
