-- Matching, bit by bit.
use Prim.Native.Nat.{ℕ, zero, suc, ◌/◌, ◌%◌, ◌^◌, ◌<◌, min}
use mathlib.Core.Bool.{true}
use mathlib.Core.Path.{◌≡◌, refl, ap, sym, ◌∙◌}
use native.Mathlib.Omega.{arith}
use borrow.Author.Tests.{eqb-true, eq-eqb}
use lib.Bits.{bit_and, bit_xor, differ, xor_step, xor_shr}
use Rattle.rules.specs.Definitions.Channels.{matches}
use Rattle.rules.specs.Statements.Bits.{bit_at}
use Rattle.rules.proofs.Bits.{last_digit, and_bit, no_bits, no_bit}

differ_zero : (x y : ℕ) → differ x y ≡ 0 → x ≡ y
differ_zero zero y h = sym h
differ_zero (suc x) zero h = absurd (omega arith)
differ_zero (suc x) (suc y) h = ap suc (differ_zero x y h)

differ_self : (x : ℕ) → differ x x ≡ 0
differ_self zero = refl
differ_self (suc x) = differ_self x

differ_small : (x y : ℕ) → x < 2 → y < 2 → differ x y < 2
differ_small zero y a b = b
differ_small (suc x) zero a b = a
differ_small (suc x) (suc y) a b = differ_small x y (omega arith) (omega arith)

xor_last : (a b : ℕ) → bit_xor a b % 2 ≡ differ (a % 2) (b % 2)
xor_last a b = rw (xor_step a b) (last_digit (bit_xor (a / 2) (b / 2)) (differ (a % 2) (b % 2)) (differ_small (a % 2) (b % 2) (omega arith) (omega arith)))

xor_bit : (a b k : ℕ) → bit_at (bit_xor a b) k ≡ differ (bit_at a k) (bit_at b k)
xor_bit a b k = rw (xor_shr a b k) (xor_last (a / 2 ^ k) (b / 2 ^ k))

under_one : (x b : ℕ) → x < 2 → b ≡ 1 → min x b ≡ 0 → x ≡ 0
under_one x b a e h = omega arith

covered_by : (x b : ℕ) → b < 2 → (b ≡ 1 → x ≡ 0) → min x b ≡ 0
covered_by x zero a h = omega arith
covered_by x (suc b) a h = let z : x ≡ 0 = h (omega arith) in omega arith

-- bits under a mask one are equal where a frame matches
pub sound : (tag mask identifier : ℕ) → matches tag mask identifier ≡ true → (k : ℕ) → bit_at mask k ≡ 1 → bit_at tag k ≡ bit_at identifier k
unfolding matches
sound tag mask identifier m k h =
    differ_zero (bit_at tag k) (bit_at identifier k)
    (sym (xor_bit tag identifier k)
    ∙ under_one (bit_at (bit_xor tag identifier) k) (bit_at mask k) (omega arith) h
    (sym (and_bit (bit_xor tag identifier) mask k)
    ∙ ap (λ (n : ℕ). bit_at n k) (eqb-true (bit_and (bit_xor tag identifier) mask) 0 m)
    ∙ no_bit k))

-- and where they are, it matches
pub complete : (tag mask identifier : ℕ) → ((k : ℕ) → bit_at mask k ≡ 1 → bit_at tag k ≡ bit_at identifier k) → matches tag mask identifier ≡ true
unfolding matches
complete tag mask identifier h =
    eq-eqb (bit_and (bit_xor tag identifier) mask) 0
    (no_bits (bit_and (bit_xor tag identifier) mask)
    (λ k. and_bit (bit_xor tag identifier) mask k
    ∙ covered_by (bit_at (bit_xor tag identifier) k) (bit_at mask k) (omega arith)
    (λ e. xor_bit tag identifier k ∙ rw (h k e) (differ_self (bit_at identifier k)))))
