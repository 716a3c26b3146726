-- Any number of bits up to eight, by the table of the bytes.
use Prim.Native.Nat.{ℕ, zero, suc, ◌+◌, ◌-◌, ◌*◌, ◌/◌, ◌%◌, ◌^◌, ◌≤◌, ◌<◌}
use mathlib.Core.Path.{◌≡◌, refl, ap, ◌∙◌, sym}
use native.Mathlib.Nat.{div-eq_of_lt, mod-lt, mod-eq_of_lt, pow-le-pow_right}
use native.Mathlib.Omega.{arith}
use lib.Pow.{pow_pos, shl_lt}
use Rattle.std.proofs.lemmas.Nat.{one_shl}
use lib.Bits.{bit_xor}
use Rattle.line.specs.Bits.{bits}
use Rattle.line.specs.Check.{remainder, check_bit}
use Rattle.line.proofs.Laws.{bits_split, bits_mod, remainder_append}
use Rattle.line.proofs.Division.{divided}

zeros : (k : ℕ) → remainder 0 (bits k 0) ≡ 0
unfolding remainder bits check_bit
zeros zero = refl
zeros (suc k) = let z : 0 / 2 ^ k ≡ 0 = div-eq_of_lt (pow_pos k) in rw z (zeros k)

-- the entry of a number of w bits
short : (w x : ℕ) → w ≤ 8 → remainder 0 (bits 8 (x % 2 ^ w)) ≡ remainder 0 (bits w x)
short w x h =
    let e : 8 ≡ 8 - w + w = omega arith in
    let z : x % 2 ^ w / 2 ^ w ≡ 0 = div-eq_of_lt (mod-lt x (pow_pos w)) in
    ap (λ (n : ℕ). remainder 0 (bits n (x % 2 ^ w))) e
    ∙ rw (bits_split (8 - w) w (x % 2 ^ w), z, remainder_append 0 (bits (8 - w) 0) (bits w (x % 2 ^ w)), zeros (8 - w), bits_mod w x)

-- as the code has the powers of two
power : (k : ℕ) → k < 16 → 1 * 2 ^ k % 2 ^ 16 ≡ 2 ^ k
power k h = one_shl k 16 h

pub entry_below : (w x : ℕ) → w ≤ 8 → x % (1 * 2 ^ w % 2 ^ 16) < 2 ^ 8
entry_below w x h =
    let b : x % 2 ^ w < 2 ^ w = mod-lt x (pow_pos w) in
    let c : 2 ^ w ≤ 2 ^ 8 = pow-le-pow_right (omega arith) h in
    rw (power w (omega arith)) (omega arith)

pub by_entry : (w r x e : ℕ) → w ≤ 8 → r < 2 ^ 15 → e ≡ remainder 0 (bits 8 (bit_xor (r / 2 ^ (15 - w)) x % (1 * 2 ^ w % 2 ^ 16)))
    → bit_xor (r % (1 * 2 ^ (15 - w) % 2 ^ 16) * 2 ^ w % 2 ^ 16) e ≡ remainder r (bits w x)
by_entry w r x e h k p =
    let n : w + (15 - w) ≡ 15 = omega arith in
    let m : 15 - w + w ≡ 15 = omega arith in
    let b : r % 2 ^ (15 - w) * 2 ^ w < 2 ^ 15 = rw m at (shl_lt (15 - w) w (mod-lt r (pow_pos (15 - w)))) in
    let c : r % 2 ^ (15 - w) * 2 ^ w % 2 ^ 16 ≡ r % 2 ^ (15 - w) * 2 ^ w = mod-eq_of_lt (omega arith) in
    let q : e ≡ remainder 0 (bits w (bit_xor (r / 2 ^ (15 - w)) x)) = p ∙ rw (power w (omega arith)) (short w (bit_xor (r / 2 ^ (15 - w)) x) h) in
    rw (power (15 - w) (omega arith), c, q) (sym (divided w (15 - w) r x n k))
