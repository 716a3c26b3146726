-- The level found by its place is the element of the fixed frame's slots.
use Prim.Native.Nat.{ℕ, zero, suc, ◌+◌, ◌-◌, ◌*◌, ◌/◌, ◌%◌, ◌≤◌, ◌<◌, min}
use mathlib.Core.List.{List, [], ◌∷◌}
use mathlib.Core.Path.{◌≡◌, refl, ap, ◌∙◌, sym}
use native.Mathlib.Omega.{arith}
use lib.Dec.{eqb, ltb}
use lib.ListN.{length, get_or, take}
use lib.Seq.{get_or-take, length-take-le}
use borrow.Author.Tests.{ltb-true, ltb-false}
use mathlib.Core.Bool.{false}
use Rattle.line.specs.Bits.{pick, bits}
use Rattle.line.specs.LineCode.{line_code, pattern}
use Rattle.line.specs.Frame.{longest_data, byte_bits}
use Rattle.line.proofs.Laws.{any_default, code_length, code_at, pattern_length, pattern_mod, byte_bits_length, picked}
use Rattle.line.proofs.Levels.{in_start, in_code_lem, in_end_of_data, recessive}
use Rattle.rules.specs.Definitions.Attempt.{sent_slots, level_at}
use Rattle.driver.specs.Driver.{nibble_at, slot_coded, placed, framed}

-- the high half of byte i is nibble 2i, the low half the one behind it
nibble_next : (b : ℕ) (s : List ℕ) (j : ℕ) → nibble_at (b ∷ s) (suc (suc j)) ≡ nibble_at s j
unfolding nibble_at
nibble_next b s j =
    let r : suc (suc j) % 2 ≡ j % 2 = omega arith in
    let q : suc (suc j) / 2 ≡ suc (j / 2) = omega arith in
    rw (r, q)

nibble_bit : (bytes : List ℕ) (j r : ℕ) → j < 2 * length bytes → r < 4 → get_or (byte_bits bytes) (j * 4 + r) 0 ≡ get_or (bits 4 (nibble_at bytes j)) r 0
unfolding byte_bits bits nibble_at
nibble_bit [] j r h g = absurd (omega arith)
nibble_bit (b ∷ s) zero zero h g = omega arith
nibble_bit (b ∷ s) zero (suc zero) h g = omega arith
nibble_bit (b ∷ s) zero (suc (suc zero)) h g = omega arith
nibble_bit (b ∷ s) zero (suc (suc (suc zero))) h g = omega arith
nibble_bit (b ∷ s) zero (suc (suc (suc (suc r)))) h g = absurd (omega arith)
nibble_bit (b ∷ s) (suc zero) zero h g = omega arith
nibble_bit (b ∷ s) (suc zero) (suc zero) h g = omega arith
nibble_bit (b ∷ s) (suc zero) (suc (suc zero)) h g = omega arith
nibble_bit (b ∷ s) (suc zero) (suc (suc (suc zero))) h g = omega arith
nibble_bit (b ∷ s) (suc zero) (suc (suc (suc (suc r)))) h g = absurd (omega arith)
nibble_bit (b ∷ s) (suc (suc j)) r h g =
    let e : suc (suc j) * 4 + r ≡ suc (suc (suc (suc (suc (suc (suc (suc (j * 4 + r)))))))) = omega arith in
    ap (λ (i : ℕ). get_or (byte_bits (b ∷ s)) i 0) e ∙ nibble_bit s j r (omega arith) g ∙ ap (λ (x : ℕ). get_or (bits 4 x) r 0) (sym (nibble_next b s j))

pattern_at : (x i : ℕ) → i < 5 → get_or (pattern x) i 1 ≡ pick (eqb i 4) (1 - get_or (bits 4 x) (min i 3) 0) (get_or (bits 4 x) (min i 3) 0)
unfolding pattern line_code bits
pattern_at x zero h = refl
pattern_at x (suc zero) h = refl
pattern_at x (suc (suc zero)) h = refl
pattern_at x (suc (suc (suc zero))) h = refl
pattern_at x (suc (suc (suc (suc zero)))) h = refl
pattern_at x (suc (suc (suc (suc (suc i))))) h = absurd (omega arith)

-- a slot is told by the bit that it carries, in a row as in a pattern
coded_is : (bytes : List ℕ) (t m : ℕ) → t ≤ 8 * length bytes → m < t + t / 4 → slot_coded bytes m ≡ get_or (line_code (take t (byte_bits bytes))) m 1
unfolding slot_coded
coded_is bytes t m a h =
    let x : ℕ = nibble_at bytes (m / 5) in
    let l = length-take-le t (byte_bits bytes) (rw byte_bits_length a) in
    let i : m / 5 * 4 + min (m % 5) 3 < t = omega arith in
    rw (pattern_mod x)
    (any_default (pattern x) (m % 5) 0 1 (rw pattern_length (omega arith))
    ∙ pattern_at x (m % 5) (omega arith)
    ∙ rw (← (nibble_bit bytes (m / 5) (min (m % 5) 3) (omega arith) (omega arith)), ← (get_or-take t (byte_bits bytes) (m / 5 * 4 + min (m % 5) 3) 0 i))
    (sym (code_at (take t (byte_bits bytes)) m (rw (code_length, l) h))))

module _ (bytes : List ℕ) (n k : ℕ) (long : length bytes ≡ longest_data + 4) where
  abbrev t : ℕ
  t = 31 + 8 * (n % (longest_data + 1))

  abbrev s : List ℕ
  s = take t (byte_bits bytes)

  code_long : length (line_code s) ≡ 38 + 10 * (n % (longest_data + 1))
  code_long = rw (code_length s, length-take-le t (byte_bits bytes) (rw (byte_bits_length bytes, long) (omega arith))) (omega arith)

  pub level_placed : placed bytes n k ≡ level_at (framed n bytes) k
  unfolding placed level_at sent_slots framed
  level_placed =
      let l = code_long in
      picked P (ltb k 10) _ _ (λ e. in_start s false k (ltb-true k 10 e)) λ e₁.
      picked P (ltb k (48 + 10 * (n % (longest_data + 1)))) _ _
      (λ e. coded_is bytes t (k - 10) (rw long (omega arith)) (omega (arith, ltb-true, ltb-false)) ∙ in_code_lem s false k (k - 10) (omega (arith, ltb-false)) (omega (arith, ltb-true, ltb-false))) λ e₂.
      picked P (ltb k (50 + 10 * (n % (longest_data + 1)))) 0 1 (λ e. in_end_of_data s false k (omega (arith, ltb-false)) (omega (arith, ltb-true))) λ e₃.
      recessive s k (omega (arith, ltb-false))
    where
      P : ℕ → Type 0
      P x = x ≡ level_at (framed n bytes) k
