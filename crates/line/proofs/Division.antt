-- The remainder is linear. So any number of bits is divided at once by a table of the remainders from 0.
use Prim.Native.Nat.{ℕ, zero, suc, ◌+◌, ◌*◌, ◌/◌, ◌%◌, ◌^◌, ◌≤◌, ◌<◌}
use mathlib.Core.Path.{◌≡◌, refl, ap, ap₂, ◌∙◌, sym}
use native.Mathlib.Nat.{mod-le, div-mul-le_self, add-zero, add_comm, add-mul, mul_assoc, mul_right_comm, mul-one, mod-one, mod-lt, mod-eq_of_lt, div-eq_of_lt, mul-le-mul_left, pow-suc}
use native.Mathlib.Omega.{arith}
use borrow.Author.Tests.{eq-eqb}
use lib.Arith.{bin_ind}
use lib.Pow.{pow-add, pow_pos, mod-pow-add, shl_lt, shr_lt, split, high, low}
use lib.Bits.{bit_xor, differ, xor_step, xor_comm, xor_self, xor_zero_r, xor_lt, xor_shr, xor_mod, xor_block, xor_shifted}
use lib.Dec.{eqb}
use Rattle.line.specs.Bits.{pick, bits}
use Rattle.line.specs.Check.{check_bit, remainder, polynomial}
use Rattle.line.proofs.Laws.{check_bit_below}

-- ---- exclusive or

digit_assoc : (x y z : ℕ) → x < 2 → y < 2 → z < 2 → differ (bit_xor x y) z ≡ differ x (bit_xor y z)
digit_assoc zero y z hx hy hz = go y z hy hz
  where
    go : (y z : ℕ) → y < 2 → z < 2 → differ y z ≡ bit_xor y z
    go zero z hy hz = refl
    go (suc zero) zero hy hz = refl
    go (suc zero) (suc zero) hy hz = refl
    go (suc zero) (suc (suc z)) hy hz = absurd (omega arith)
    go (suc (suc y)) z hy hz = absurd (omega arith)
digit_assoc (suc zero) zero z hx hy hz = refl
digit_assoc (suc zero) (suc zero) zero hx hy hz = refl
digit_assoc (suc zero) (suc zero) (suc zero) hx hy hz = refl
digit_assoc (suc zero) (suc zero) (suc (suc z)) hx hy hz = absurd (omega arith)
digit_assoc (suc zero) (suc (suc y)) z hx hy hz = absurd (omega arith)
digit_assoc (suc (suc x)) y z hx hy hz = absurd (omega arith)

bit : (x : ℕ) → x % 2 < 2
bit x = mod-lt x (omega arith)

xor_assoc : (a b c : ℕ) → bit_xor (bit_xor a b) c ≡ bit_xor a (bit_xor b c)
xor_assoc =
    bin_ind (λ (n : ℕ). (b c : ℕ) → bit_xor (bit_xor n b) c ≡ bit_xor n (bit_xor b c)) (λ b c. refl)
    (λ n ih b c.
    xor_step (bit_xor n b) c
    ∙ ap₂ (λ (x y : ℕ). bit_xor x (c / 2) * 2 + differ y (c % 2)) (xor_shr n b 1) (xor_mod n b 1)
    ∙ ap₂ (λ (x y : ℕ). x * 2 + y) (ih (b / 2) (c / 2)) (digit_assoc (n % 2) (b % 2) (c % 2) (bit n) (bit b) (bit c))
    ∙ sym (ap₂ (λ (x y : ℕ). bit_xor (n / 2) x * 2 + differ (n % 2) y) (xor_shr b c 1) (xor_mod b c 1))
    ∙ sym (xor_step n (bit_xor b c)))

-- the middle two of four change places
xor_medial : (a b c d : ℕ) → bit_xor (bit_xor a b) (bit_xor c d) ≡ bit_xor (bit_xor a c) (bit_xor b d)
xor_medial a b c d =
    xor_assoc a b (bit_xor c d)
    ∙ ap (bit_xor a) (sym (xor_assoc b c d) ∙ ap (λ (x : ℕ). bit_xor x d) (xor_comm b c) ∙ xor_assoc c b d)
    ∙ sym (xor_assoc a c (bit_xor b d))

xor_twice : (a b : ℕ) → bit_xor a b * 2 ≡ bit_xor (a * 2) (b * 2)
xor_twice a b =
    let block : bit_xor (a * 2 + 0) (b * 2 + 0) ≡ bit_xor a b * 2 + 0 = xor_block 1 a b 0 0 (omega arith) (omega arith) in
    sym (rw (add-zero (a * 2), add-zero (b * 2), add-zero (bit_xor a b * 2)) at block)

-- ---- one bit

-- what is taken off, by the sum of the bit that leaves and the bit that comes
abbrev taken : ℕ → ℕ
taken zero = 0
taken (suc x) = polynomial

taken_sum : (x y : ℕ) → x < 2 → y < 2 → taken (bit_xor x y) ≡ bit_xor (taken x) (taken y)
taken_sum zero y hx hy = refl
taken_sum (suc zero) zero hx hy = sym (xor_zero_r polynomial)
taken_sum (suc zero) (suc zero) hx hy = sym (xor_self polynomial)
taken_sum (suc zero) (suc (suc y)) hx hy = absurd (omega arith)
taken_sum (suc (suc x)) y hx hy = absurd (omega arith)

picked_sum : (x q b : ℕ) → q < 2 → b < 2 → pick (eqb q b) x (bit_xor x polynomial) ≡ bit_xor x (taken (bit_xor q b))
picked_sum x zero zero hq hb = sym (xor_zero_r x)
picked_sum x zero (suc zero) hq hb = refl
picked_sum x zero (suc (suc b)) hq hb = absurd (omega arith)
picked_sum x (suc zero) zero hq hb = refl
picked_sum x (suc zero) (suc zero) hq hb = sym (xor_zero_r x)
picked_sum x (suc zero) (suc (suc b)) hq hb = absurd (omega arith)
picked_sum x (suc (suc q)) b hq hb = absurd (omega arith)

check_bit_sum : (r b : ℕ) → r < 2 ^ 15 → b < 2 → check_bit r b ≡ bit_xor (r % 2 ^ 14 * 2) (taken (bit_xor (r / 2 ^ 14) b))
unfolding check_bit
check_bit_sum r b hr hb = picked_sum (r % 2 ^ 14 * 2) (r / 2 ^ 14) b (omega arith) hb

check_bit_linear : (r s b c : ℕ) → r < 2 ^ 15 → s < 2 ^ 15 → b < 2 → c < 2 →
    check_bit (bit_xor r s) (bit_xor b c) ≡ bit_xor (check_bit r b) (check_bit s c)
check_bit_linear r s b c hr hs hb hc =
    let p : r / 2 ^ 14 < 2 = omega arith in
    let q : s / 2 ^ 14 < 2 = omega arith in
    check_bit_sum (bit_xor r s) (bit_xor b c) (xor_lt 15 r s hr hs) (xor_lt 1 b c hb hc)
    ∙ ap₂ bit_xor
    (ap (λ (x : ℕ). x * 2) (xor_mod r s 14) ∙ xor_twice (r % 2 ^ 14) (s % 2 ^ 14))
    (ap taken (ap (λ (x : ℕ). bit_xor x (bit_xor b c)) (xor_shr r s 14) ∙ xor_medial (r / 2 ^ 14) (s / 2 ^ 14) b c)
    ∙ taken_sum (bit_xor (r / 2 ^ 14) b) (bit_xor (s / 2 ^ 14) c) (xor_lt 1 (r / 2 ^ 14) b p hb) (xor_lt 1 (s / 2 ^ 14) c q hc))
    ∙ xor_medial (r % 2 ^ 14 * 2) (s % 2 ^ 14 * 2) (taken (bit_xor (r / 2 ^ 14) b)) (taken (bit_xor (s / 2 ^ 14) c))
    ∙ sym (ap₂ bit_xor (check_bit_sum r b hr hb) (check_bit_sum s c hs hc))

-- ---- a number of bits

-- the remainder of a sum is the sum of the remainders
linear : (w r s u v : ℕ) → r < 2 ^ 15 → s < 2 ^ 15 →
    remainder (bit_xor r s) (bits w (bit_xor u v)) ≡ bit_xor (remainder r (bits w u)) (remainder s (bits w v))
unfolding remainder bits
linear zero r s u v hr hs = refl
linear (suc w) r s u v hr hs =
    let e : bit_xor u v / 2 ^ w % 2 ≡ bit_xor (u / 2 ^ w % 2) (v / 2 ^ w % 2) = ap (λ (x : ℕ). x % 2) (xor_shr u v w) ∙ xor_mod (u / 2 ^ w) (v / 2 ^ w) 1 in
    ap (λ (x : ℕ). remainder x (bits w (bit_xor u v)))
    (ap (check_bit (bit_xor r s)) e ∙ check_bit_linear r s (u / 2 ^ w % 2) (v / 2 ^ w % 2) hr hs (bit (u / 2 ^ w)) (bit (v / 2 ^ w)))
    ∙ linear w (check_bit r (u / 2 ^ w % 2)) (check_bit s (v / 2 ^ w % 2)) u v (check_bit_below r _) (check_bit_below s _)

-- nothing is taken off where the bit that leaves is the bit that comes
agreed : (r b : ℕ) → r / 2 ^ 14 ≡ b → check_bit r b ≡ r % 2 ^ 14 * 2
unfolding check_bit
agreed r b e = rw (eq-eqb (r / 2 ^ 14) b e)

-- zero bits shift a remainder that has room for them
zeros : (w r : ℕ) → r * 2 ^ w < 2 ^ 15 → remainder r (bits w 0) ≡ r * 2 ^ w
unfolding remainder bits
zeros zero r h = sym (mul-one r)
zeros (suc w) r h =
    let p : 2 ^ suc w ≡ 2 ^ w * 2 = pow-suc 2 w in
    let one : 1 ≤ 2 ^ w = pow_pos w in
    let more : r * 1 ≤ r * 2 ^ w = mul-le-mul_left r one in
    let room : r * 2 ^ w * 2 < 2 ^ 15 = rw (p, ← (mul_assoc r (2 ^ w) 2)) at h in
    let swap : r * 2 * 2 ^ w ≡ r * 2 ^ w * 2 = mul_right_comm r 2 (2 ^ w) in
    let z : 0 / 2 ^ w % 2 ≡ 0 = ap (λ (x : ℕ). x % 2) (div-eq_of_lt one) in
    ap (λ (x : ℕ). remainder x (bits w 0)) (agreed r (0 / 2 ^ w % 2) (div-eq_of_lt (omega arith) ∙ sym z) ∙ omega arith)
    ∙ zeros w (r * 2) (omega arith) ∙ swap ∙ mul_assoc r (2 ^ w) 2 ∙ ap (λ (x : ℕ). r * x) (sym p)

-- where the bits that come are those that leave, nothing is left
leaving : (w k q : ℕ) → w + k ≡ 15 → remainder (q % 2 ^ w * 2 ^ k) (bits w q) ≡ 0
unfolding remainder bits
leaving zero k q e = rw (mod-one q) (omega arith)
leaving (suc w) k q e =
    let b : ℕ = q / 2 ^ w % 2 in
    let x : ℕ = q % 2 ^ w * 2 ^ k in
    let n : w + k ≡ 14 = omega arith in
    let s : suc w ≡ 1 + w = omega arith in
    let m : q % 2 ^ suc w ≡ b * 2 ^ w + q % 2 ^ w = rw s (mod-pow-add q 1 w) in
    let p : 2 ^ w * 2 ^ k ≡ 2 ^ 14 = sym (pow-add 2 w k) ∙ ap (λ (y : ℕ). 2 ^ y) n in
    let below : x < 2 ^ 14 = rw n at (shl_lt w k (mod-lt q (pow_pos w))) in
    let r : q % 2 ^ suc w * 2 ^ k ≡ b * 2 ^ 14 + x = rw (m, add-mul (b * 2 ^ w) (q % 2 ^ w) (2 ^ k), mul_assoc b (2 ^ w) (2 ^ k), p) in
    let d : x * 2 ≡ q % 2 ^ w * 2 ^ suc k = mul_assoc (q % 2 ^ w) (2 ^ k) 2 ∙ ap (λ (y : ℕ). q % 2 ^ w * y) (sym (pow-suc 2 k)) in
    ap (λ (y : ℕ). remainder y (bits w q))
    (ap (λ (y : ℕ). check_bit y b) r ∙ agreed (b * 2 ^ 14 + x) b (high b 14 below) ∙ ap (λ (y : ℕ). y * 2) (low b 14 below) ∙ d)
    ∙ leaving w (suc k) q (omega arith)

-- w bits at once: those that stay are shifted, the sum of those that leave and those that come is divided from 0
pub divided : (w k r v : ℕ) → w + k ≡ 15 → r < 2 ^ 15 →
    remainder r (bits w v) ≡ bit_xor (r % 2 ^ k * 2 ^ w) (remainder 0 (bits w (bit_xor (r / 2 ^ k) v)))
divided w k r v e h =
    let q : ℕ = r / 2 ^ k in
    let x : ℕ = bit_xor q v in
    let stays : ℕ = r % 2 ^ k in
    let below : stays < 2 ^ k = mod-lt r (pow_pos k) in
    let leaves : q < 2 ^ w = shr_lt w k (rw e h) in
    let parts : r ≡ bit_xor (q * 2 ^ k) stays = sym (xor_shifted q k stays below ∙ split r k) in
    let comes : v ≡ bit_xor q x = sym (sym (xor_assoc q q v) ∙ ap (λ (y : ℕ). bit_xor y v) (xor_self q)) in
    let first : remainder (q * 2 ^ k) (bits w q) ≡ 0 = rw (mod-eq_of_lt leaves) at (leaving w k q e) in
    let room : stays * 2 ^ w < 2 ^ 15 = rw (add_comm k w, e) at (shl_lt k w below) in
    let small : stays ≤ r = mod-le r (2 ^ k) in
    let large : q * 2 ^ k ≤ r = div-mul-le_self r (2 ^ k) in
    let second : remainder stays (bits w x) ≡ bit_xor (stays * 2 ^ w) (remainder 0 (bits w x)) =
    ap (λ (y : ℕ). remainder y (bits w x)) (sym (xor_zero_r stays)) ∙ linear w stays 0 0 x (omega arith) (omega arith) ∙ ap (λ (y : ℕ). bit_xor y (remainder 0 (bits w x))) (zeros w stays room) in
    ap₂ (λ (y z : ℕ). remainder y (bits w z)) parts comes
    ∙ linear w (q * 2 ^ k) stays q x (omega arith) (omega arith)
    ∙ ap₂ bit_xor first second
