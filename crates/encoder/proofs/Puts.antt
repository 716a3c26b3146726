-- The parts of a frame, each in slots of its own.
use Prim.Native.Nat.{ℕ, ◌+◌, ◌*◌, ◌/◌, ◌%◌, ◌≤◌, ◌<◌}
use mathlib.Core.Bool.{Bool}
use mathlib.Core.List.{List, [], ◌∷◌, ◌++◌, append_assoc, append-nil}
use mathlib.Core.Path.{◌≡◌, ap, ◌∙◌, sym}
use native.Mathlib.Nat.{div-one}
use native.Mathlib.Omega.{arith}
use lib.ListN.{get_or, length, take, drop, length-append, drop_of_length-le}
use borrow.Rule.Slice.PartMut.{put_mid}
use Rattle.std.specs.Prelude.{flat_map}
use Rattle.std.proofs.lemmas.List.{take_all}
use Rattle.std.proofs.lemmas.Slice.{take-put_mid}
use Rattle.line.specs.Bits.{bits}
use Rattle.line.specs.LineCode.{line_code, pattern}
use Rattle.line.specs.Check.{check}
use Rattle.line.specs.Frame.{byte_bits, covered, carried, start, closing_slots, slots}
use Rattle.line.proofs.Laws.{next, header_bits, bits_length, bits_split, bits_mod, code_append, pattern_length, pattern_mod, nibble_code, covered_length}
use Rattle.codec.specs.Encode.{given}

-- ---- the parts by nibbles

pub byte_code : (b : ℕ) → line_code (bits 8 b) ≡ flat_map pattern (b / 16 ∷ b % 16 ∷ [])
unfolding pattern
byte_code b = rw (bits_split 4 4, ← (bits_mod 4 b)) (nibble_code (b / 16) (bits 4 (b % 16)) ∙ simp append-nil)

twelve : (i : ℕ) → bits 12 i ≡ bits 4 (i / 256) ++ (bits 4 (i / 16 % 16) ++ bits 4 (i % 16))
twelve i = bits_split 4 8 i ∙ ap (λ (l : List ℕ). bits 4 (i / 256) ++ l) (bits_split 4 4 i ∙ rw (← (bits_mod 4 (i / 16)), ← (bits_mod 4 i)))

pub header_code : (i c : ℕ) → line_code (bits 12 i ++ bits 4 c) ≡ flat_map pattern (i / 256 ∷ i / 16 % 16 ∷ i % 16 ∷ c ∷ [])
unfolding pattern
header_code i c =
    rw (twelve, append_assoc (bits 4 (i / 256)), append_assoc (bits 4 (i / 16 % 16)), nibble_code (i / 256), nibble_code (i / 16 % 16), nibble_code (i % 16)) (simp append-nil)

fifteen : (c : ℕ) → bits 15 c ≡ bits 4 (c / 2048) ++ (bits 4 (c / 128 % 16) ++ (bits 4 (c / 8 % 16) ++ bits 3 c))
fifteen c =
    bits_split 4 11 c
    ∙ ap (λ (l : List ℕ). bits 4 (c / 2048) ++ l) (bits_split 4 7 c ∙ rw (← (bits_mod 4 (c / 128))) (ap (λ (l : List ℕ). bits 4 (c / 128 % 16) ++ l) (bits_split 4 3 c ∙ rw (← (bits_mod 4 (c / 8))))))

three_code : (c : ℕ) → line_code (bits 3 c) ≡ (c / 4 % 2) ∷ (c / 2 % 2) ∷ (c % 2) ∷ []
unfolding line_code bits
three_code c = simp div-one

pub check_code : (c : ℕ) → line_code (bits 15 c) ≡ flat_map pattern (c / 2048 ∷ c / 128 % 16 ∷ c / 8 % 16 ∷ []) ++ (c / 4 % 2 ∷ c / 2 % 2 ∷ c % 2 ∷ [])
check_code c =
    rw (fifteen, nibble_code (c / 2048), nibble_code (c / 128 % 16), nibble_code (c / 8 % 16), three_code) (simp (append_assoc, append-nil))

-- ---- part by part: what is laid, and what is left

pub nibbles_next : (room ys ns : List ℕ) (k w : ℕ) → k < length ns → 5 * k ≤ length room → ys ≡ pattern (get_or ns k 0 % 16)
    → take (5 * (k + 1)) (put_mid (5 * k) w room ys) ++ flat_map pattern (drop (k + 1) ns) ≡ take (5 * k) room ++ flat_map pattern (drop k ns)
nibbles_next room ys ns k w h l e =
    let p : ys ≡ pattern (get_or ns k 0) = e ∙ pattern_mod (get_or ns k 0) in
    let n : 5 * (k + 1) ≡ 5 * k + length ys = rw (p, pattern_length) (omega arith) in
    rw (take-put_mid (5 * k) w room ys (5 * (k + 1)) n l, next ns k h, p) (append_assoc (take (5 * k) room) (pattern (get_or ns k 0)) (flat_map pattern (drop (k + 1) ns)))

pub bytes_next : (room ys bs : List ℕ) (k w : ℕ) → k < length bs → 10 * k ≤ length room → ys ≡ flat_map pattern (get_or bs k 0 / 16 ∷ get_or bs k 0 % 16 ∷ [])
    → take (10 * (k + 1)) (put_mid (10 * k) w room ys) ++ line_code (byte_bits (drop (k + 1) bs)) ≡ take (10 * k) room ++ line_code (byte_bits (drop k bs))
unfolding byte_bits
bytes_next room ys bs k w h l e =
    let b : ℕ = get_or bs k 0 in
    let p : ys ≡ line_code (bits 8 b) = e ∙ sym (byte_code b) in
    let u = pattern_length (b / 16) in
    let v = pattern_length (b % 16) in
    let n : 10 * (k + 1) ≡ 10 * k + length ys = rw (e, length-append, append-nil, u, v) (omega arith) in
    rw (take-put_mid (10 * k) w room ys (10 * (k + 1)) n l, next bs k h, code_append (bits 8 b) (byte_bits (drop (k + 1) bs)) (rw bits_length), p)
    (append_assoc (take (10 * k) room) (line_code (bits 8 b)) (line_code (byte_bits (drop (k + 1) bs))))

pub bytes_end : (room bs : List ℕ) (k : ℕ) → length bs ≤ k → length room ≡ 10 * length bs → take (10 * k) room ++ line_code (byte_bits (drop k bs)) ≡ room
unfolding byte_bits line_code
bytes_end room bs k h e = rw (drop_of_length-le bs h, take_all (10 * k) room (omega arith)) (append-nil room)

-- ---- the check over identifier, command and data

pub check_bits : (i c : ℕ) (bs : List ℕ) → c < 16 → check (byte_bits (i / 16 ∷ (i % 16 * 16 + c) ∷ bs)) ≡ check (bits 12 i ++ (bits 4 c ++ byte_bits bs))
unfolding byte_bits
check_bits i c bs h =
    ap check
    (sym (append_assoc (bits 8 (i / 16)) (bits 8 (i % 16 * 16 + c)) (byte_bits bs))
    ∙ ap (λ (l : List ℕ). l ++ byte_bits bs) (header_bits i c h)
    ∙ append_assoc (bits 12 i) (bits 4 c) (byte_bits bs))

-- ---- the whole frame

pub whole_frame : (i c : ℕ) (bs : List ℕ) (a : Bool) →
    slots (given i c bs a)
    ≡ start ++ (line_code (bits 12 i ++ bits 4 c) ++ (line_code (byte_bits bs) ++ (line_code (bits 15 (check (covered (given i c bs a)))) ++ closing_slots a)))
unfolding slots carried covered
whole_frame i c bs a =
    let k : ℕ = check (covered (given i c bs a)) in
    let l = covered_length (given i c bs a) in
    rw (code_append (covered (given i c bs a)) (bits 15 k) (omega arith), ← (append_assoc (bits 12 i) (bits 4 c) (byte_bits bs)), code_append (bits 12 i ++ bits 4 c) (byte_bits bs) (simp (length-append, bits_length)))
    (simp append_assoc)
