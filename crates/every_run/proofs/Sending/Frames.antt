-- The fixed frame's bytes carry the frame's slots.
use Prim.Native.Nat.{ℕ, ◌+◌, ◌-◌, ◌*◌, ◌/◌, ◌%◌, ◌≤◌}
use mathlib.Core.Bool.{false}
use mathlib.Core.List.{List, [], ◌∷◌, ◌++◌, append_assoc}
use mathlib.Core.Path.{◌≡◌, ap, ◌∙◌, sym}
use native.Mathlib.Omega.{arith}
use lib.ListN.{length, get_or, take, replicate}
use lib.Seq.{take_at}
use Rattle.line.specs.Bits.{bits}
use Rattle.line.specs.Check.{check}
use Rattle.line.specs.Frame.{Frame, Fits, byte_bits, covered, carried, slots}
use Rattle.line.proofs.Laws.{bits_split, bits_mod, header_bits, byte_bits_append, carried_length}
use Rattle.rules.specs.Definitions.Longest.{capacity}
use Rattle.rules.specs.Definitions.Mailbox.{coded, coded_bytes}
use Rattle.rules.specs.Definitions.Attempt.{sent_slots, level_at}

last_bit : (x : ℕ) → x % 2 ≡ 0 → bits 1 x ≡ 0 ∷ []
unfolding bits
last_bit x h = let e : x / 1 % 2 ≡ 0 = omega arith in rw e

-- the check's fifteen bits and a zero bit as two bytes
pub check_bytes : (c : ℕ) → bits 8 (c / 128) ++ bits 8 (c % 128 * 2) ≡ bits 15 c ++ (0 ∷ [])
check_bytes c =
    let h : c % 128 * 2 / 2 ≡ c % 128 = omega arith in
    let low : bits 8 (c % 128 * 2) ≡ bits 7 c ++ (0 ∷ []) = bits_split 7 1 (c % 128 * 2) ∙ rw (h, bits_mod 7 c, last_bit (c % 128 * 2) (omega arith)) in
    rw (low, bits_split 8 7 c) (sym (append_assoc (bits 8 (c / 128)) (bits 7 c) (0 ∷ [])))

glued : (a b d c₁ c₂ z h₁ h₂ k : List ℕ) → a ++ b ≡ h₁ ++ h₂ → c₁ ++ c₂ ≡ k ++ (0 ∷ [])
    → a ++ (b ++ (d ++ (c₁ ++ (c₂ ++ z)))) ≡ ((h₁ ++ (h₂ ++ d)) ++ k) ++ (0 ∷ z)
glued a b d c₁ c₂ z h₁ h₂ k e w =
    let x : c₁ ++ (c₂ ++ z) ≡ k ++ (0 ∷ z) = sym (append_assoc c₁ c₂ z) ∙ ap (λ (l : List ℕ). l ++ z) w ∙ append_assoc k (0 ∷ []) z in
    sym (append_assoc a b (d ++ (c₁ ++ (c₂ ++ z)))) ∙ rw (e, x) (simp append_assoc)

-- a frame of at most `longest` data bytes is one that the state has room for
pub wider : {longest : ℕ} {f : Frame} → longest ≤ capacity → Fits longest f → Fits capacity f
wider most f = record { identifier = f.identifier; command = f.command; size = omega (arith, f.size); bytes = f.bytes }

module _ (f : Frame) (fits : Fits capacity f) where
  abbrev pub rest : List ℕ
  rest = byte_bits (replicate (capacity - length f.bytes) 0)

  pub coded_bits : byte_bits (coded_bytes f) ≡ carried f ++ (0 ∷ rest)
  unfolding coded_bytes byte_bits carried covered
  coded_bits =
      let c : ℕ = check (covered f) in
      rw (byte_bits_append f.bytes)
      (glued (bits 8 (f.identifier / 16)) (bits 8 (f.identifier % 16 * 16 + f.command)) (byte_bits f.bytes) (bits 8 (c / 128)) (bits 8 (c % 128 * 2)) rest
      (bits 12 f.identifier) (bits 4 f.command) (bits 15 c) (header_bits f.identifier f.command (omega (arith, fits.command))) (check_bytes c))

  coded_carried : take (31 + 8 * length f.bytes) (byte_bits (coded_bytes f)) ≡ carried f
  coded_carried = rw coded_bits (take_at (carried f) (0 ∷ rest) (31 + 8 * length f.bytes) (carried_length f))

  -- the level of slot k of the fixed frame is the k-th element of the frame's slots
  pub level_coded : f.acknowledge ≡ false → (k : ℕ) → level_at (coded f) k ≡ get_or (slots f) k 1
  unfolding level_at sent_slots coded slots
  level_coded a k =
      let n : length f.bytes % (capacity + 1) ≡ length f.bytes = omega (arith, fits.size) in
      rw (n, coded_carried, a)
