-- Laws of the definitions, each over its parameter: width, number of bits, number of data bytes.
use Prim.Native.Nat.{ℕ, zero, suc, ◌+◌, ◌-◌, ◌*◌, ◌/◌, ◌%◌, ◌^◌, ◌≤◌, ◌<◌, min}
use mathlib.Core.Bool.{Bool, true, false}
use mathlib.Core.List.{List, [], ◌∷◌, ◌++◌, append_assoc}
use mathlib.Core.Path.{◌≡◌, refl, ap, ◌∙◌, sym}
use native.Mathlib.Nat.{div-one, zero-add, suc-add, add-zero, mod-one, mul_comm, mul-le-mul_right, div-div-eq-div-mul, pow-suc, mod-lt, mod-eq_of_lt, mul-add-div_right, div-eq_of_lt}
use native.Mathlib.Omega.{arith}
use lib.Pow.{pow-add, pow_pos, mod-pow-add}
use lib.Bits.{bit_xor, xor_lt}
use lib.Dec.{eqb}
use lib.ListN.{length, length-append, get_or, drop, drop_of_length-le}
use lib.Seq.{drop-cons}
use native.Mathlib.Numerals.{add-one}
use Rattle.line.specs.Bits.{pick, bits, bits_value_from, bits_value, Below, none, one}
use Rattle.line.specs.LineCode.{line_code, pattern}
use Rattle.line.specs.Frame.{Frame, byte_bits, covered, carried, slots, size, start, end_of_data, end_of_frame, acknowledge_slots}
use Rattle.line.specs.Check.{check_bit, remainder, check, all_ones, polynomial}

-- ---- rows

pub next : (s : List ℕ) (i : ℕ) → i < length s → drop i s ≡ get_or s i 0 ∷ drop (i + 1) s
next s i h = rw add-one (drop-cons s i 0 h)

-- what is given for a place past the end does not matter before it
pub any_default : (s : List ℕ) (i d e : ℕ) → i < length s → get_or s i d ≡ get_or s i e
any_default [] i d e h = absurd (omega arith)
any_default (x ∷ s) zero d e h = refl
any_default (x ∷ s) (suc i) d e h = any_default s i d e (omega arith)

-- ---- numbers and bits

pub bits_length : (w x : ℕ) → length (bits w x) ≡ w
unfolding bits
bits_length zero x = refl
bits_length (suc w) x = ap suc (bits_length w x)

pub bits_below : (w x : ℕ) → Below 2 (bits w x)
unfolding bits
bits_below zero x = none
bits_below (suc w) x = one (mod-lt (x / 2 ^ w) (omega arith)) (bits_below w x)

-- the high bits come first
pub bits_split : (a b x : ℕ) → bits (a + b) x ≡ bits a (x / 2 ^ b) ++ bits b x
unfolding bits
bits_split zero b x = rw zero-add
bits_split (suc a) b x =
    let e : x / 2 ^ b / 2 ^ a ≡ x / 2 ^ (a + b) = div-div-eq-div-mul x (2 ^ b) (2 ^ a) ∙ ap (λ (m : ℕ). x / m) (mul_comm (2 ^ b) (2 ^ a) ∙ sym (pow-add 2 a b)) in
    rw (suc-add a b, e, bits_split a b x)

pub value_append : (x : ℕ) (s t : List ℕ) → bits_value_from x (s ++ t) ≡ bits_value_from (bits_value_from x s) t
unfolding bits_value_from
value_append x [] t = refl
value_append x (a ∷ s) t = value_append (x * 2 + a) s t

-- a number's own bits, written behind another number
pub value_from_bits : (w x y : ℕ) → bits_value_from x (bits w y) ≡ x * 2 ^ w + y % 2 ^ w
unfolding bits_value_from bits
value_from_bits zero x y = let e = mod-one y in omega arith
value_from_bits (suc w) x y =
    let e : 2 ^ suc w ≡ 2 ^ w * 2 = pow-suc 2 w in
    let s : suc w ≡ 1 + w = omega arith in
    let m : y % 2 ^ suc w ≡ y / 2 ^ w % 2 * 2 ^ w + y % 2 ^ w = rw s (mod-pow-add y 1 w) in
    value_from_bits w (x * 2 + y / 2 ^ w % 2) y ∙ rw (m, e) (omega arith)

-- a number below 2^w is what its w bits write
pub value_bits : (w x : ℕ) → x < 2 ^ w → bits_value (bits w x) ≡ x
unfolding bits_value
value_bits w x h = value_from_bits w 0 x ∙ rw (mod-eq_of_lt h) (omega arith)

value_high : (x : ℕ) (s : List ℕ) → bits_value_from x s ≡ x * 2 ^ length s + bits_value_from 0 s
unfolding bits_value_from
value_high x [] = omega arith
value_high x (b ∷ s) =
    let e : 2 ^ suc (length s) ≡ 2 ^ length s * 2 = pow-suc 2 (length s) in
    value_high (x * 2 + b) s ∙ rw (value_high (0 * 2 + b) s, e) (omega arith)

pub value_below : {s : List ℕ} → Below 2 s → bits_value s < 2 ^ length s
unfolding bits_value bits_value_from
value_below none = omega arith
value_below (one {x = b} {xs = s} h t) =
    let e : 2 ^ suc (length s) ≡ 2 ^ length s * 2 = pow-suc 2 (length s) in
    let k = value_below t in
    let g : (0 * 2 + b) * 2 ^ length s ≤ 1 * 2 ^ length s = mul-le-mul_right (2 ^ length s) (omega arith) in
    rw (value_high (0 * 2 + b) s, e) (omega arith)

-- a row of bits is the bits of the number that it writes, whatever stands before it
pub bits_value_lem : {s : List ℕ} → Below 2 s → (x : ℕ) → bits (length s) (bits_value_from x s) ≡ s
unfolding bits bits_value_from
bits_value_lem none x = refl
bits_value_lem (one {x = b} {xs = s} h t) x =
    let k : bits_value_from 0 s < 2 ^ length s = unfold bits_value in value_below t in
    let q : bits_value_from (x * 2 + b) s / 2 ^ length s ≡ x * 2 + b = ap (λ (m : ℕ). m / 2 ^ length s) (value_high (x * 2 + b) s) ∙ mul-add-div_right (pow_pos (length s)) (x * 2 + b) (bits_value_from 0 s) ∙ rw (div-eq_of_lt k) (add-zero (x * 2 + b)) in
    let e : (x * 2 + b) % 2 ≡ b = omega arith in
    rw (bits_value_lem t (x * 2 + b)) (ap (λ (m : ℕ). m % 2 ∷ s) q ∙ ap (λ (m : ℕ). m ∷ s) e)

-- only the lowest bits count
pub bits_mod : (w x : ℕ) → bits w (x % 2 ^ w) ≡ bits w x
bits_mod w x =
    let e : bits_value_from 0 (bits w x) ≡ x % 2 ^ w = value_from_bits w 0 x ∙ omega arith in
    rw (bits_length w x, e) at (bits_value_lem (bits_below w x) 0)

-- ---- the check

pub remainder_append : (r : ℕ) (s t : List ℕ) → remainder r (s ++ t) ≡ remainder (remainder r s) t
unfolding remainder
remainder_append r [] t = refl
remainder_append r (b ∷ s) t = remainder_append (check_bit r b) s t

pub check_bit_below : (r b : ℕ) → check_bit r b < 2 ^ 15
unfolding check_bit polynomial
check_bit_below r b = go (eqb (r / 2 ^ 14) b)
  where
    go : (t : Bool) → pick t (r % 2 ^ 14 * 2) (bit_xor (r % 2 ^ 14 * 2) polynomial) < 2 ^ 15
    go true = omega arith
    go false = xor_lt 15 (r % 2 ^ 14 * 2) polynomial (omega arith) (omega arith)

pub remainder_below : (r : ℕ) (s : List ℕ) → r < 2 ^ 15 → remainder r s < 2 ^ 15
unfolding remainder
remainder_below r [] h = h
remainder_below r (b ∷ s) h = remainder_below (check_bit r b) s (check_bit_below r b)

pub check_below : (s : List ℕ) → check s < 2 ^ 15
unfolding check all_ones
check_below s = omega arith

-- ---- the line code

pub code_length : (s : List ℕ) → length (line_code s) ≡ length s + length s / 4
unfolding line_code
code_length [] = refl
code_length (a ∷ []) = refl
code_length (a ∷ b ∷ []) = refl
code_length (a ∷ b ∷ c ∷ []) = refl
code_length (a ∷ b ∷ c ∷ d ∷ s) = let k = code_length s in omega arith

-- what the line code puts at place m
pub code_at : (s : List ℕ) (m : ℕ) → m < length (line_code s) →
    get_or (line_code s) m 1 ≡ pick (eqb (m % 5) 4) (1 - get_or s (m / 5 * 4 + min (m % 5) 3) 0) (get_or s (m / 5 * 4 + min (m % 5) 3) 0)
unfolding line_code
code_at [] m h = absurd (omega arith)
code_at (a ∷ []) zero h = refl
code_at (a ∷ []) (suc m) h = absurd (omega arith)
code_at (a ∷ b ∷ []) zero h = refl
code_at (a ∷ b ∷ []) (suc zero) h = refl
code_at (a ∷ b ∷ []) (suc (suc m)) h = absurd (omega arith)
code_at (a ∷ b ∷ c ∷ []) zero h = refl
code_at (a ∷ b ∷ c ∷ []) (suc zero) h = refl
code_at (a ∷ b ∷ c ∷ []) (suc (suc zero)) h = refl
code_at (a ∷ b ∷ c ∷ []) (suc (suc (suc m))) h = absurd (omega arith)
code_at (a ∷ b ∷ c ∷ d ∷ s) zero h = refl
code_at (a ∷ b ∷ c ∷ d ∷ s) (suc zero) h = refl
code_at (a ∷ b ∷ c ∷ d ∷ s) (suc (suc zero)) h = refl
code_at (a ∷ b ∷ c ∷ d ∷ s) (suc (suc (suc zero))) h = refl
code_at (a ∷ b ∷ c ∷ d ∷ s) (suc (suc (suc (suc zero)))) h = refl
code_at (a ∷ b ∷ c ∷ d ∷ s) (suc (suc (suc (suc (suc m))))) h =
    let r : suc (suc (suc (suc (suc m)))) % 5 ≡ m % 5 = omega arith in
    let q : suc (suc (suc (suc (suc m)))) / 5 * 4 + min (m % 5) 3 ≡ suc (suc (suc (suc (m / 5 * 4 + min (m % 5) 3)))) = omega arith in
    rw (r, q) (code_at s m (omega arith))

-- whole nibbles first
pub code_append : (s t : List ℕ) → length s % 4 ≡ 0 → line_code (s ++ t) ≡ line_code s ++ line_code t
unfolding line_code
code_append [] t h = refl
code_append (a ∷ []) t h = absurd (omega arith)
code_append (a ∷ b ∷ []) t h = absurd (omega arith)
code_append (a ∷ b ∷ c ∷ []) t h = absurd (omega arith)
code_append (a ∷ b ∷ c ∷ d ∷ s) t h = rw (code_append s t (omega arith))

-- ---- patterns

pub pattern_row : (n : ℕ) → pattern n ≡ (n / 8 % 2) ∷ (n / 4 % 2) ∷ (n / 2 % 2) ∷ (n % 2) ∷ (1 - n % 2) ∷ []
unfolding pattern line_code bits
pattern_row n = rw div-one

pub pattern_length : (n : ℕ) → length (pattern n) ≡ 5
unfolding pattern
pattern_length n = code_length (bits 4 n) ∙ rw bits_length

pub pattern_mod : (n : ℕ) → pattern (n % 16) ≡ pattern n
unfolding pattern
pattern_mod n = ap line_code (bits_mod 4 n)

-- the line code of nibbles is their patterns, one behind the other
pub nibble_code : (n : ℕ) (s : List ℕ) → line_code (bits 4 n ++ s) ≡ pattern n ++ line_code s
unfolding pattern
nibble_code n s = code_append (bits 4 n) s (rw bits_length)

pub byte_code : (b : ℕ) (s : List ℕ) → line_code (bits 8 b ++ s) ≡ pattern (b / 16) ++ (pattern b ++ line_code s)
byte_code b s =
    rw (bits_split 4 4 b, append_assoc (bits 4 (b / 16)) (bits 4 b) s, nibble_code (b / 16) (bits 4 b ++ s), nibble_code b s)

-- ---- frames

pub byte_bits_length : (s : List ℕ) → length (byte_bits s) ≡ 8 * length s
unfolding byte_bits
byte_bits_length [] = refl
byte_bits_length (b ∷ s) = let k = byte_bits_length s in rw (length-append (bits 8 b) (byte_bits s), bits_length 8 b) (omega arith)

pub covered_length : (f : Frame) → length (covered f) ≡ 16 + 8 * length f.bytes
unfolding covered
covered_length f = simp (length-append, bits_length, byte_bits_length) (omega arith)

pub carried_length : (f : Frame) → length (carried f) ≡ 31 + 8 * length f.bytes
unfolding carried
carried_length f = simp (length-append, bits_length, covered_length) (omega arith)

pub byte_bits_append : (s t : List ℕ) → byte_bits (s ++ t) ≡ byte_bits s ++ byte_bits t
unfolding byte_bits
byte_bits_append [] t = refl
byte_bits_append (b ∷ s) t = rw (byte_bits_append s t) (sym (append_assoc (bits 8 b) (byte_bits s) (byte_bits t)))

-- identifier and command as two bytes
pub header_bits : (i c : ℕ) → c < 16 → bits 8 (i / 16) ++ bits 8 (i % 16 * 16 + c) ≡ bits 12 i ++ bits 4 c
header_bits i c h =
    let q : (i % 16 * 16 + c) / 16 ≡ i % 16 = omega arith in
    let r : (i % 16 * 16 + c) % 16 ≡ c = omega arith in
    let low : bits 8 (i % 16 * 16 + c) ≡ bits 4 i ++ bits 4 c = bits_split 4 4 (i % 16 * 16 + c) ∙ rw (q, ← (bits_mod 4 (i % 16 * 16 + c)), r, bits_mod 4 i) in
    rw (low, bits_split 8 4 i) (sym (append_assoc (bits 8 (i / 16)) (bits 4 i) (bits 4 c)))

-- the remainder over the bytes from place i on
pub bytes_next : (r : ℕ) (s : List ℕ) (i : ℕ) → i < length s →
    remainder r (byte_bits (drop i s)) ≡ remainder (remainder r (bits 8 (get_or s i 0))) (byte_bits (drop (i + 1) s))
unfolding byte_bits
bytes_next r s i h = rw (next s i h) (remainder_append r (bits 8 (get_or s i 0)) (byte_bits (drop (i + 1) s)))

pub bytes_end : (r : ℕ) (s : List ℕ) (i : ℕ) → length s ≤ i → remainder r (byte_bits (drop i s)) ≡ r
unfolding byte_bits remainder
bytes_end r s i h = rw (drop_of_length-le s h)

pub acknowledge_length : (a : Bool) → length (acknowledge_slots a) ≡ 2
unfolding acknowledge_slots
acknowledge_length true = refl
acknowledge_length false = refl

-- "60 + 10n slots"
pub slots_length : (f : Frame) → length (slots f) ≡ size (length f.bytes)
unfolding slots size start end_of_data end_of_frame
slots_length f =
    rw (length-append (line_code (carried f)), length-append (acknowledge_slots f.acknowledge), acknowledge_length, code_length, carried_length) (omega arith)

-- a test decides which of two values is picked
pub picked : {A : Type 0} (P : A → Type 0) (t : Bool) (a b : A) → (t ≡ true → P a) → (t ≡ false → P b) → P (pick t a b)
picked P true a b yes' no' = yes' refl
picked P false a b yes' no' = no' refl

pub pick_same : {A : Type 0} (t : Bool) (a : A) → pick t a a ≡ a
pick_same true a = refl
pick_same false a = refl
