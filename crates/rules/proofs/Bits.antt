-- Bits of numbers: what `&` with a mask and `|` with a mask do.
--   and_bit == bit by bit        no_bits, some_bit == a number is zero exactly if it has no one
--   masked == `v & mask` is not zero exactly if the mask's bit is one        or_mask == `v | mask` sets it
use Prim.Native.Nat.{ℕ, zero, suc, ◌+◌, ◌-◌, ◌*◌, ◌/◌, ◌%◌, ◌^◌, ◌<◌, min, max}
use mathlib.Core.Bool.{not}
use mathlib.Core.Path.{◌≡◌, refl, ap, ap₂, sym, ◌∙◌}
use native.Mathlib.Nat.{zero-div, min-le_left, pow-succ', div-div-eq-div-mul, mod-lt}
use native.Mathlib.Omega.{arith}
use borrow.Author.Tests.{eq-eqb, ne_eqb}
use lib.Arith.{bin_ind}
use lib.Pow.{pow_pos, split}
use lib.Dec.{eqb}
use lib.Bits.{bit_and, bit_or, and_step, and_shr, and_high, or_step, or_block, or_zero_r}
use Rattle.rules.specs.Definitions.Registers.{has_bit}
use Rattle.rules.specs.Statements.Bits.{bit_at}

-- ---- bit by bit

pub last_digit : (q r : ℕ) → r < 2 → (q * 2 + r) % 2 ≡ r
last_digit q r h = omega arith

and_last : (a b : ℕ) → bit_and a b % 2 ≡ min (a % 2) (b % 2)
and_last a b = rw (and_step a b) (last_digit (bit_and (a / 2) (b / 2)) (min (a % 2) (b % 2)) (let h = min-le_left (a % 2) (b % 2) in omega arith))

pub and_bit : (a b k : ℕ) → bit_at (bit_and a b) k ≡ min (bit_at a k) (bit_at b k)
and_bit a b k = rw (and_shr a b k) (and_last (a / 2 ^ k) (b / 2 ^ k))

bit_of_half : (n k : ℕ) → bit_at (n / 2) k ≡ bit_at n (suc k)
bit_of_half n k = rw (div-div-eq-div-mul n 2 (2 ^ k), pow-succ' 2 k)

pub no_bits : (n : ℕ) → ((k : ℕ) → bit_at n k ≡ 0) → n ≡ 0
no_bits =
    bin_ind (λ (n : ℕ). ((k : ℕ) → bit_at n k ≡ 0) → n ≡ 0) (λ h. refl)
    (λ n ih h. let q : n / 2 ≡ 0 = ih (λ k. bit_of_half n k ∙ h (suc k)) in let z : n / 1 % 2 ≡ 0 = h 0 in omega arith)

pub no_bit : (k : ℕ) → bit_at 0 k ≡ 0
no_bit k = rw (zero-div (2 ^ k))

-- a one, and where it stands
pub record One (n : ℕ) : Type 0 where
  pub place : ℕ
  pub one : bit_at n place ≡ 1

one_from : (n d : ℕ) → n % 2 ≡ d → ((n / 2 ≡ 0 → ⊥) → One (n / 2)) → (n ≡ 0 → ⊥) → One n
one_from n zero e ih h =
    let x = ih (λ (z : n / 2 ≡ 0). h (omega arith)) in
    record { place = suc x.place; one = sym (bit_of_half n x.place) ∙ x.one }
one_from n (suc zero) e ih h = record { place = 0; one = let z : n / 1 % 2 ≡ 1 = omega arith in z }
one_from n (suc (suc d)) e ih h = absurd (omega arith)

pub some_bit : (n : ℕ) → (n ≡ 0 → ⊥) → One n
some_bit =
    bin_ind (λ (n : ℕ). (n ≡ 0 → ⊥) → One n) (λ h. absurd (h refl))
    (λ n ih h. one_from n (n % 2) refl ih h)

-- ---- a mask of one bit: 2 ^ k, which `2 ^ (1 + k) - 2 ^ k` computes to

is_one : (b p : ℕ) → b < 2 → 0 < p → not (eqb (b * p) 0) ≡ eqb b 1
is_one zero p h q = rw (eq-eqb (0 * p) 0 (omega arith))
is_one (suc zero) p h q = rw (ne_eqb (1 * p) 0 (λ (e : 1 * p ≡ 0). omega arith))
is_one (suc (suc b)) p h q = absurd (omega arith)

pub masked : (v k : ℕ) → not (eqb (bit_and v (2 ^ (1 + k) - 2 ^ k)) 0) ≡ has_bit v k
masked v k = ap (λ (x : ℕ). not (eqb x 0)) (and_high v 1 k) ∙ is_one (v / 2 ^ k % 2) (2 ^ k) (omega arith) (pow_pos k)

or_one : (v : ℕ) → bit_or v 1 ≡ v / 2 * 2 + 1
or_one v = or_step v 1 ∙ ap₂ (λ (x y : ℕ). x * 2 + y) (or_zero_r (v / 2)) (largest (v % 2) (omega arith))
  where
    largest : (b : ℕ) → b < 2 → max b 1 ≡ 1
    largest b h = omega arith

pub or_mask : (v k : ℕ) → bit_or v (1 * 2 ^ k + 0) ≡ (v / 2 ^ k / 2 * 2 + 1) * 2 ^ k + v % 2 ^ k
or_mask v k =
    ap (λ (x : ℕ). bit_or x (1 * 2 ^ k + 0)) (sym (split v k))
    ∙ or_block k (v / 2 ^ k) 1 (v % 2 ^ k) 0 (mod-lt v (pow_pos k)) (pow_pos k)
    ∙ ap₂ (λ (x y : ℕ). x * 2 ^ k + y) (or_one (v / 2 ^ k)) (or_zero_r (v % 2 ^ k))
