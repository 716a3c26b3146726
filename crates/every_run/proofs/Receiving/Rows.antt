-- Rows of slots and bits, part by part: what a nibble adds to them, and where the slots of a frame begin as others do.
use Prim.Native.Nat.{ℕ, zero, suc, ◌+◌, ◌-◌, ◌*◌, ◌/◌, ◌%◌, ◌^◌, ◌≤◌, ◌<◌}
use mathlib.Core.List.{List, [], ◌∷◌, ◌++◌, append_assoc}
use mathlib.Core.Path.{◌≡◌, refl, ap, ◌∙◌, sym}
use native.Mathlib.Omega.{arith}
use borrow.Author.Tests.{eqb-true, eqb-false}
use lib.Dec.{eqb}
use lib.ListN.{length, get_or, set, take, drop, replicate, length-append, length-set, take-append-drop, replicate-append-replicate}
use lib.Seq.{take_at, length-take-le, set_split, split_at}
use Rattle.line.specs.Bits.{bits, Below}
use Rattle.line.specs.LineCode.{line_code}
use Rattle.line.specs.Frame.{byte_bits}
use Rattle.line.proofs.Laws.{bits_length, bits_split, bits_mod, code_length, byte_bits_append, picked, byte_bits_length}
use Rattle.rules.specs.Definitions.Longest.{capacity, most_nibbles}
use Rattle.rules.specs.Definitions.Reception.{with_nibble}
use Rattle.every_run.proofs.Ranges.Bytes.{at_below, set_below}

-- ---- rows that begin alike

pub cons_head : {x y : ℕ} {s t : List ℕ} → x ∷ s ≡ y ∷ t → x ≡ y
cons_head {x} {y} {s} {t} e = ap (λ (l : List ℕ). get_or l 0 x) e

pub cons_tail : {x y : ℕ} {s t : List ℕ} → x ∷ s ≡ y ∷ t → s ≡ t
cons_tail {x} {y} {s} {t} e = ap (λ (l : List ℕ). drop 1 l) e

pub cons_eq : {x y : ℕ} {s t : List ℕ} → x ≡ y → s ≡ t → x ∷ s ≡ y ∷ t
cons_eq e d = λ i. e i ∷ d i

pub cancel : (p : List ℕ) {s t : List ℕ} → p ++ s ≡ p ++ t → s ≡ t
cancel [] e = e
cancel (x ∷ p) e = cancel p (cons_tail e)

-- ---- bytes as bits

-- so many whole nibbles
pub nibbles_length : (bytes : List ℕ) (j : ℕ) → length bytes ≡ capacity + 4 → j ≤ most_nibbles capacity → length (take (4 * j) (byte_bits bytes)) ≡ 4 * j
nibbles_length bytes j e h = length-take-le (4 * j) (byte_bits bytes) (omega (arith, byte_bits_length bytes))

pub nibbles_slots : (bytes : List ℕ) (j : ℕ) → length bytes ≡ capacity + 4 → j ≤ most_nibbles capacity → length (line_code (take (4 * j) (byte_bits bytes))) ≡ 5 * j
nibbles_slots bytes j e h = rw (code_length, nibbles_length bytes j e h) (omega arith)

-- n bytes before a byte b
module _ (p : List ℕ) (b : ℕ) (q : List ℕ) where
  cut_bits : byte_bits (p ++ (b ∷ q)) ≡ byte_bits p ++ (bits 4 (b / 16) ++ (bits 4 b ++ byte_bits q))
  unfolding byte_bits
  cut_bits = rw (byte_bits_append p (b ∷ q), bits_split 4 4 b, append_assoc (bits 4 (b / 16)))

  pub take_half : (m : ℕ) → m ≡ 8 * length p + 4 → take m (byte_bits (p ++ (b ∷ q))) ≡ byte_bits p ++ bits 4 (b / 16)
  take_half m e =
      let l : length (byte_bits p ++ bits 4 (b / 16)) ≡ m = rw (length-append (byte_bits p), bits_length, byte_bits_length) (omega arith) in
      rw (cut_bits, ← (append_assoc (byte_bits p) (bits 4 (b / 16)) (bits 4 b ++ byte_bits q))) (take_at (byte_bits p ++ bits 4 (b / 16)) (bits 4 b ++ byte_bits q) m l)

  pub take_byte : (m : ℕ) → m ≡ 8 * length p + 8 → take m (byte_bits (p ++ (b ∷ q))) ≡ byte_bits p ++ (bits 4 (b / 16) ++ bits 4 b)
  take_byte m e =
      let w : List ℕ = byte_bits p ++ (bits 4 (b / 16) ++ bits 4 b) in
      let l : length w ≡ m = rw (length-append (byte_bits p), length-append (bits 4 (b / 16)), bits_length, bits_length, byte_bits_length) (omega arith) in
      let g : byte_bits (p ++ (b ∷ q)) ≡ w ++ byte_bits q = cut_bits ∙ simp append_assoc in
      rw g (take_at w (byte_bits q) m l)

pub take_bytes : (n : ℕ) (s : List ℕ) (m : ℕ) → m ≡ 8 * n → n ≤ length s → take m (byte_bits s) ≡ byte_bits (take n s)
take_bytes n s m e h =
    let l : length (byte_bits (take n s)) ≡ m = rw (byte_bits_length, length-take-le n s h) (sym e) in
    let g : byte_bits s ≡ byte_bits (take n s) ++ byte_bits (drop n s) = ap byte_bits (sym (take-append-drop n s)) ∙ byte_bits_append (take n s) (drop n s) in
    rw g (take_at (byte_bits (take n s)) (byte_bits (drop n s)) m l)

-- ---- a nibble more

module _ (bytes : List ℕ) (j x : ℕ) (long : length bytes ≡ capacity + 4) (h : j ≤ most_nibbles capacity) where
  even_nibble : j % 2 ≡ 0 → take (4 * (j + 1)) (byte_bits (set bytes (j / 2 % (capacity + 4)) (x % 16 * 16))) ≡ take (4 * j) (byte_bits bytes) ++ bits 4 x
  even_nibble e =
      let i : j / 2 % (capacity + 4) ≡ j / 2 = omega arith in
      let l : length (take (j / 2) bytes) ≡ j / 2 = length-take-le (j / 2) bytes (omega arith) in
      let q : x % 16 * 16 / 16 ≡ x % 16 = omega arith in
      rw (i, set_split bytes (j / 2) (x % 16 * 16) (omega arith), take_half (take (j / 2) bytes) (x % 16 * 16) (drop (suc (j / 2)) bytes) (4 * (j + 1)) (omega arith), take_bytes (j / 2) bytes (4 * j) (omega arith) (omega arith), q)
      (ap (λ (t : List ℕ). byte_bits (take (j / 2) bytes) ++ t) (bits_mod 4 x))

  odd_nibble : j % 2 ≡ 1 → take (4 * (j + 1)) (byte_bits (set bytes (j / 2 % (capacity + 4)) (get_or bytes (j / 2 % (capacity + 4)) 0 / 16 * 16 + x % 16))) ≡ take (4 * j) (byte_bits bytes) ++ bits 4 x
  odd_nibble e =
      let i : j / 2 % (capacity + 4) ≡ j / 2 = omega arith in
      let l : length (take (j / 2) bytes) ≡ j / 2 = length-take-le (j / 2) bytes (omega arith) in
      let b : ℕ = get_or bytes (j / 2) 0 in
      let p : List ℕ = take (j / 2) bytes in
      let r : List ℕ = drop (suc (j / 2)) bytes in
      let q : (b / 16 * 16 + x % 16) / 16 ≡ b / 16 = omega arith in
      let m : (b / 16 * 16 + x % 16) % 16 ≡ x % 16 = omega arith in
      let w : bits 4 (b / 16 * 16 + x % 16) ≡ bits 4 x = sym (bits_mod 4 (b / 16 * 16 + x % 16)) ∙ ap (λ (t : ℕ). bits 4 t) m ∙ bits_mod 4 x in
      let before : take (4 * j) (byte_bits bytes) ≡ byte_bits p ++ bits 4 (b / 16) = ap (λ (t : List ℕ). take (4 * j) (byte_bits t)) (split_at bytes (j / 2) 0 (omega arith)) ∙ take_half p b r (4 * j) (omega arith) in
      rw i
      (ap (λ (t : List ℕ). take (4 * (j + 1)) (byte_bits t)) (set_split bytes (j / 2) (b / 16 * 16 + x % 16) (omega arith))
      ∙ take_byte p (b / 16 * 16 + x % 16) r (4 * (j + 1)) (omega arith)
      ∙ rw (q, w, before) (sym (append_assoc (byte_bits p) (bits 4 (b / 16)) (bits 4 x))))

  pub nibble_added : take (4 * (j + 1)) (byte_bits (with_nibble bytes j x)) ≡ take (4 * j) (byte_bits bytes) ++ bits 4 x
  unfolding with_nibble
  nibble_added =
      picked (λ (t : List ℕ). take (4 * (j + 1)) (byte_bits t) ≡ take (4 * j) (byte_bits bytes) ++ bits 4 x) (eqb (j % 2) 0) (set bytes (j / 2 % (capacity + 4)) (x % 16 * 16)) (set bytes (j / 2 % (capacity + 4)) (get_or bytes (j / 2 % (capacity + 4)) 0 / 16 * 16 + x % 16))
      (λ e. even_nibble (eqb-true (j % 2) 0 e)) (λ e. let d = eqb-false (j % 2) 0 e in odd_nibble (omega arith))

-- ---- zeros behind

-- s is b with zeros behind it
abbrev pub Padded : List ℕ → List ℕ → Type 0
Padded b s = (zeros : ℕ) × (s ≡ b ++ replicate zeros 0)

pub zeros_bits : (n : ℕ) → byte_bits (replicate n 0) ≡ replicate (8 * n) 0
unfolding byte_bits bits
zeros_bits zero = refl
zeros_bits (suc n) =
    let e : 8 + 8 * n ≡ 8 * suc n = omega arith in
    ap (λ (t : List ℕ). replicate 8 0 ++ t) (zeros_bits n) ∙ replicate-append-replicate 8 (8 * n) 0 ∙ ap (λ (k : ℕ). replicate k 0) e

zeros_tail : (a b : List ℕ) (z : ℕ) → a ++ b ≡ replicate z 0 → Padded [] b
zeros_tail [] b z e = (z, e)
zeros_tail (x ∷ a) b zero e = absurd (omega (arith, ap length e))
zeros_tail (x ∷ a) b (suc z) e = zeros_tail a b z (cons_tail e)

module _ (bytes : List ℕ) (j x : ℕ) (long : length bytes ≡ capacity + 4) (h : j ≤ most_nibbles capacity) where
  abbrev p : List ℕ
  p = take (j / 2) bytes

  abbrev c : ℕ
  c = get_or bytes (j / 2) 0

  abbrev q : List ℕ
  q = drop (suc (j / 2)) bytes

  bytes_cut : byte_bits bytes ≡ byte_bits p ++ (bits 4 (c / 16) ++ (bits 4 c ++ byte_bits q))
  bytes_cut = ap byte_bits (split_at bytes (j / 2) 0 (omega arith)) ∙ cut_bits p c q

  even_made : j % 2 ≡ 0 → (z : ℕ) → byte_bits q ≡ replicate z 0 → byte_bits (set bytes (j / 2 % (capacity + 4)) (x % 16 * 16)) ≡ (take (4 * j) (byte_bits bytes) ++ bits 4 x) ++ replicate (4 + z) 0
  even_made e z behind =
      let i : j / 2 % (capacity + 4) ≡ j / 2 = omega arith in
      let b : take (4 * j) (byte_bits bytes) ≡ byte_bits p = take_bytes (j / 2) bytes (4 * j) (omega arith) (omega arith) in
      let m : x % 16 * 16 % 16 ≡ 0 = omega arith in
      let d : x % 16 * 16 / 16 ≡ x % 16 = omega arith in
      let w : bits 4 (x % 16 * 16) ≡ replicate 4 0 = sym (bits_mod 4 (x % 16 * 16)) ∙ rw m (unfold bits in refl) in
      rw (i, set_split bytes (j / 2) (x % 16 * 16) (omega arith), cut_bits p (x % 16 * 16) q, d, w, behind, b, bits_mod 4 x)
      (ap (λ (s : List ℕ). byte_bits p ++ (bits 4 x ++ s)) (replicate-append-replicate 4 z 0) ∙ sym (append_assoc (byte_bits p) (bits 4 x) (replicate (4 + z) 0)))

  even_padded : j % 2 ≡ 0 → Padded (take (4 * j) (byte_bits bytes)) (byte_bits bytes) → Padded (take (4 * j) (byte_bits bytes) ++ bits 4 x) (byte_bits (set bytes (j / 2 % (capacity + 4)) (x % 16 * 16)))
  even_padded e z =
      let b : take (4 * j) (byte_bits bytes) ≡ byte_bits p = take_bytes (j / 2) bytes (4 * j) (omega arith) (omega arith) in
      let r : bits 4 (c / 16) ++ (bits 4 c ++ byte_bits q) ≡ replicate z.0 0 = cancel (byte_bits p) (sym bytes_cut ∙ z.1 ∙ ap (λ (t : List ℕ). t ++ replicate z.0 0) b) in
      let t = zeros_tail (bits 4 (c / 16) ++ bits 4 c) (byte_bits q) z.0 (append_assoc (bits 4 (c / 16)) (bits 4 c) (byte_bits q) ∙ r) in
      (4 + t.0, even_made e t.0 t.1)

  odd_made : j % 2 ≡ 1 → (z : ℕ) → byte_bits q ≡ replicate z 0
      → byte_bits (set bytes (j / 2 % (capacity + 4)) (get_or bytes (j / 2 % (capacity + 4)) 0 / 16 * 16 + x % 16)) ≡ ((byte_bits p ++ bits 4 (c / 16)) ++ bits 4 x) ++ replicate z 0
  odd_made e z behind =
      let i : j / 2 % (capacity + 4) ≡ j / 2 = omega arith in
      let y : ℕ = c / 16 * 16 + x % 16 in
      let d : (c / 16 * 16 + x % 16) / 16 ≡ c / 16 = omega arith in
      let m : (c / 16 * 16 + x % 16) % 16 ≡ x % 16 = omega arith in
      let w : bits 4 y ≡ bits 4 x = sym (bits_mod 4 y) ∙ ap (λ (t : ℕ). bits 4 t) m ∙ bits_mod 4 x in
      rw i (ap byte_bits (set_split bytes (j / 2) y (omega arith)) ∙ cut_bits p y q ∙ rw (d, w, behind) (simp append_assoc))

  odd_padded : j % 2 ≡ 1 → Padded (take (4 * j) (byte_bits bytes)) (byte_bits bytes)
      → Padded (take (4 * j) (byte_bits bytes) ++ bits 4 x) (byte_bits (set bytes (j / 2 % (capacity + 4)) (get_or bytes (j / 2 % (capacity + 4)) 0 / 16 * 16 + x % 16)))
  odd_padded e z =
      let l : length p ≡ j / 2 = length-take-le (j / 2) bytes (omega arith) in
      let b : take (4 * j) (byte_bits bytes) ≡ byte_bits p ++ bits 4 (c / 16) = ap (λ (t : List ℕ). take (4 * j) (byte_bits t)) (split_at bytes (j / 2) 0 (omega arith)) ∙ take_half p c q (4 * j) (omega arith) in
      let r : bits 4 c ++ byte_bits q ≡ replicate z.0 0
      = cancel (byte_bits p ++ bits 4 (c / 16)) (append_assoc (byte_bits p) (bits 4 (c / 16)) (bits 4 c ++ byte_bits q) ∙ sym bytes_cut ∙ z.1 ∙ ap (λ (t : List ℕ). t ++ replicate z.0 0) b) in
      let t = zeros_tail (bits 4 c) (byte_bits q) z.0 r in
      (t.0, odd_made e t.0 t.1 ∙ ap (λ (s : List ℕ). (s ++ bits 4 x) ++ replicate t.0 0) (sym b))

  -- zeros stay behind a nibble more
  pub nibble_padded : Padded (take (4 * j) (byte_bits bytes)) (byte_bits bytes) → Padded (take (4 * j) (byte_bits bytes) ++ bits 4 x) (byte_bits (with_nibble bytes j x))
  unfolding with_nibble
  nibble_padded z =
      picked (λ (t : List ℕ). Padded (take (4 * j) (byte_bits bytes) ++ bits 4 x) (byte_bits t)) (eqb (j % 2) 0) (set bytes (j / 2 % (capacity + 4)) (x % 16 * 16)) (set bytes (j / 2 % (capacity + 4)) (get_or bytes (j / 2 % (capacity + 4)) 0 / 16 * 16 + x % 16))
      (λ e. even_padded (eqb-true (j % 2) 0 e) z) (λ e. let d = eqb-false (j % 2) 0 e in odd_padded (omega arith) z)

pub nibble_long : (bytes : List ℕ) (j x : ℕ) → length bytes ≡ capacity + 4 → length (with_nibble bytes j x) ≡ capacity + 4
unfolding with_nibble
nibble_long bytes j x l =
    picked (λ (t : List ℕ). length t ≡ capacity + 4) (eqb (j % 2) 0) (set bytes (j / 2 % (capacity + 4)) (x % 16 * 16)) (set bytes (j / 2 % (capacity + 4)) (get_or bytes (j / 2 % (capacity + 4)) 0 / 16 * 16 + x % 16))
    (λ e. length-set bytes (j / 2 % (capacity + 4)) (x % 16 * 16) ∙ l) (λ e. length-set bytes (j / 2 % (capacity + 4)) (get_or bytes (j / 2 % (capacity + 4)) 0 / 16 * 16 + x % 16) ∙ l)

pub nibble_below : {bytes : List ℕ} → Below 256 bytes → (j x : ℕ) → Below 256 (with_nibble bytes j x)
unfolding with_nibble
nibble_below {bytes} b j x =
    let h = at_below b (j / 2 % (capacity + 4)) in
    picked (Below 256) (eqb (j % 2) 0) (set bytes (j / 2 % (capacity + 4)) (x % 16 * 16)) (set bytes (j / 2 % (capacity + 4)) (get_or bytes (j / 2 % (capacity + 4)) 0 / 16 * 16 + x % 16))
    (λ e. set_below b (j / 2 % (capacity + 4)) (x % 16 * 16) (omega arith)) (λ e. set_below b (j / 2 % (capacity + 4)) (get_or bytes (j / 2 % (capacity + 4)) 0 / 16 * 16 + x % 16) (omega arith))

-- four bits, and the opposite of the last
pub nibble_slots : (x v : ℕ) → v < 2 → (v ≡ x % 2 → ⊥) → line_code (bits 4 x) ≡ bits 4 x ++ (v ∷ [])
unfolding line_code bits
nibble_slots x v h d = let e : 1 - x / 1 % 2 ≡ v = omega arith in rw e

-- a bit more
last_bit : (b v : ℕ) → v < 2 → bits 1 (b % 8 * 2 + v % 2) ≡ v ∷ []
unfolding bits
last_bit b v h = let e : (b % 8 * 2 + v % 2) / 1 % 2 ≡ v = omega arith in rw e

low_bits : (a b : ℕ) → a ≤ 3 → bits a (b % 8) ≡ bits a b
low_bits a b h = sym (bits_mod a (b % 8)) ∙ ap (λ (x : ℕ). bits a x) (small a h) ∙ bits_mod a b
  where
    small : (a : ℕ) → a ≤ 3 → b % 8 % 2 ^ a ≡ b % 2 ^ a
    small zero h = omega arith
    small (suc zero) h = omega arith
    small (suc (suc zero)) h = omega arith
    small (suc (suc (suc zero))) h = omega arith
    small (suc (suc (suc (suc a)))) h = absurd (omega arith)

pub bit_added : (at b v : ℕ) → at ≤ 3 → v < 2 → bits (at + 1) (b % 8 * 2 + v % 2) ≡ bits at b ++ (v ∷ [])
bit_added at b v h g =
    let q : (b % 8 * 2 + v % 2) / 2 ≡ b % 8 = omega arith in
    bits_split at 1 (b % 8 * 2 + v % 2) ∙ rw (q, last_bit b v g, low_bits at b h)

-- ---- slots of a frame that begin as other slots do

-- whole nibbles b; more bits c, up to the pair 00
pub record Opens (b c x t : List ℕ) : Type 0 where
  pub rest : List ℕ
  pub bits_are : c ≡ b ++ rest
  pub slots_are : x ≡ line_code rest ++ (0 ∷ 0 ∷ t)
  pub long : length rest % 4 ≡ 3

pub opens : (b c x t : List ℕ) → length b % 4 ≡ 0 → length c % 4 ≡ 3 → line_code b ++ x ≡ line_code c ++ (0 ∷ 0 ∷ t) → Opens b c x t
unfolding line_code
opens [] c x t h g e = record { rest = c; bits_are = refl; slots_are = e; long = g }
opens (p ∷ []) c x t h g e = absurd (omega arith)
opens (p ∷ q ∷ []) c x t h g e = absurd (omega arith)
opens (p ∷ q ∷ r ∷ []) c x t h g e = absurd (omega arith)
opens (p ∷ q ∷ r ∷ y ∷ b) [] x t h g e = absurd (omega arith)
opens (p ∷ q ∷ r ∷ y ∷ b) (p' ∷ []) x t h g e = absurd (omega arith)
opens (p ∷ q ∷ r ∷ y ∷ b) (p' ∷ q' ∷ []) x t h g e = absurd (omega arith)
opens (p ∷ q ∷ r ∷ y ∷ b) (p' ∷ q' ∷ r' ∷ []) x t h g e =
    let first : y ≡ 0 = cons_head (cons_tail (cons_tail (cons_tail e))) in
    let second : 1 - y ≡ 0 = cons_head (cons_tail (cons_tail (cons_tail (cons_tail e)))) in
    absurd (omega arith)
opens (p ∷ q ∷ r ∷ y ∷ b) (p' ∷ q' ∷ r' ∷ y' ∷ c) x t h g e =
    let k = opens b c x t (omega arith) (omega arith) (cons_tail (cons_tail (cons_tail (cons_tail (cons_tail e))))) in
    let e₁ = cons_head e in
    let e₂ = cons_head (cons_tail e) in
    let e₃ = cons_head (cons_tail (cons_tail e)) in
    let e₄ = cons_head (cons_tail (cons_tail (cons_tail e))) in
    record { rest = k.rest; bits_are = cons_eq (sym e₁) (cons_eq (sym e₂) (cons_eq (sym e₃) (cons_eq (sym e₄) k.bits_are))); slots_are = k.slots_are; long = k.long }

-- two rows of bits up to the pair 00
pub same_code : (b c x t : List ℕ) → length b % 4 ≡ 3 → length c % 4 ≡ 3 → line_code b ++ (0 ∷ 0 ∷ x) ≡ line_code c ++ (0 ∷ 0 ∷ t) → (b ≡ c) × (x ≡ t)
unfolding line_code
same_code [] c x t h g e = absurd (omega arith)
same_code (p ∷ []) c x t h g e = absurd (omega arith)
same_code (p ∷ q ∷ []) c x t h g e = absurd (omega arith)
same_code (p ∷ q ∷ r ∷ b) [] x t h g e = absurd (omega arith)
same_code (p ∷ q ∷ r ∷ b) (p' ∷ []) x t h g e = absurd (omega arith)
same_code (p ∷ q ∷ r ∷ b) (p' ∷ q' ∷ []) x t h g e = absurd (omega arith)
same_code (p ∷ q ∷ r ∷ []) (p' ∷ q' ∷ r' ∷ []) x t h g e =
    let e₁ = cons_head e in
    let e₂ = cons_head (cons_tail e) in
    let e₃ = cons_head (cons_tail (cons_tail e)) in
    (cons_eq e₁ (cons_eq e₂ (cons_eq e₃ refl)), cons_tail (cons_tail (cons_tail (cons_tail (cons_tail e)))))
same_code (p ∷ q ∷ r ∷ []) (p' ∷ q' ∷ r' ∷ y' ∷ c) x t h g e =
    let first : 0 ≡ y' = cons_head (cons_tail (cons_tail (cons_tail e))) in
    let second : 0 ≡ 1 - y' = cons_head (cons_tail (cons_tail (cons_tail (cons_tail e)))) in
    absurd (omega arith)
same_code (p ∷ q ∷ r ∷ y ∷ b) (p' ∷ q' ∷ r' ∷ []) x t h g e =
    let first : y ≡ 0 = cons_head (cons_tail (cons_tail (cons_tail e))) in
    let second : 1 - y ≡ 0 = cons_head (cons_tail (cons_tail (cons_tail (cons_tail e)))) in
    absurd (omega arith)
same_code (p ∷ q ∷ r ∷ y ∷ b) (p' ∷ q' ∷ r' ∷ y' ∷ c) x t h g e =
    let k = same_code b c x t (omega arith) (omega arith) (cons_tail (cons_tail (cons_tail (cons_tail (cons_tail e))))) in
    let e₁ = cons_head e in
    let e₂ = cons_head (cons_tail e) in
    let e₃ = cons_head (cons_tail (cons_tail e)) in
    let e₄ = cons_head (cons_tail (cons_tail (cons_tail e))) in
    (cons_eq e₁ (cons_eq e₂ (cons_eq e₃ (cons_eq e₄ k.0))), k.1)
