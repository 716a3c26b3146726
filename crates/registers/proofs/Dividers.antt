-- The sixteen SDC dividers, 64 to 2097152.
use Prim.Native.Nat.{ℕ, ◌+◌, ◌*◌, ◌/◌, ◌%◌, ◌^◌, ◌≤◌, ◌<◌}
use mathlib.Core.Path.{◌≡◌, sym, ◌∙◌}
use native.Mathlib.Omega.{arith}
use Rattle.line.proofs.Tables.{values, at}
use Rattle.diagnosis.specs.Control.{divider, rate}
use Rattle.diagnosis.proofs.Findings.{divider_positive}

-- the sixteen shifts are the sixteen powers
pub shifted : (k : ℕ) → k < 16 → 64 * 2 ^ k % 4294967296 ≡ 2 ^ (6 + k)
unfolding values
shifted k h = sym (at (λ (q : ℕ). 64 * 2 ^ q % 4294967296) 0 16 k h) ∙ at (λ (q : ℕ). 2 ^ (6 + q)) 0 16 k h

-- a period has a slot
pub one_slot : (control : ℕ) {d : ℕ} → d ≡ divider control → 1 ≤ d
one_slot control e = let p = divider_positive control in omega arith

pub divider_small : (control : ℕ) → control < 256 → divider control < 4294967296
unfolding divider rate
divider_small control h = let e = shifted (control / 16) (omega arith) in omega arith
