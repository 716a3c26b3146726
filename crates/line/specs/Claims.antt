-- What is claimed of frames on the line: their layout, over every frame and every slot, and the check, by closed cases.
use Rattle.std.specs.Prelude.{ℕ, ◌-◌, ◌*◌, ◌/◌, ◌%◌, true, List, [], ◌∷◌, ◌++◌, ◌≡◌, length, get_or}
use Rattle.line.specs.Bits.{bits}
use Rattle.line.specs.LineCode.{line_code, pattern}
use Rattle.line.specs.Check.{check}
use Rattle.line.specs.Frame.{Frame, byte_bits, covered, slots, size}
use Rattle.line.specs.Layout.{level_of}

pub record Layout : Type 0 where
  -- a frame of n data bytes has 60 + 10n slots
  pub long : (f : Frame) → length (slots f) ≡ size (length f.bytes)
  -- the level of slot k, found by its part and place, is the k-th element of the frame's slots; past them the line is recessive
  pub level : (f : Frame) (k : ℕ) → level_of f k ≡ get_or (slots f) k 1
  -- a nibble's pattern is its four bits and the opposite of the last
  pub table : (n : ℕ) → pattern n ≡ (n / 8 % 2) ∷ (n / 4 % 2) ∷ (n / 2 % 2) ∷ (n % 2) ∷ (1 - n % 2) ∷ []
  -- the line code of nibbles is their patterns, one behind the other
  pub nibbles : (n : ℕ) (s : List ℕ) → line_code (bits 4 n ++ s) ≡ pattern n ++ line_code s

-- the check of a frame, followed by a zero bit
abbrev pub check_and_zero : ℕ → ℕ → List ℕ → ℕ
check_and_zero identifier command bytes = check (covered (record { identifier = identifier; command = command; bytes = bytes; acknowledge = true })) * 2

-- closed: the check where it is known without a model
pub record Checked : Type 0 where
  -- of frames captured on real buses
  pub captured_4d4 : check_and_zero 0x4D4 14 (0x82 ∷ 0x0C ∷ 0x01 ∷ 0x00 ∷ 0x11 ∷ 0x00 ∷ 0x3F ∷ 0x3F ∷ 0x3F ∷ 0x3F ∷ 0x82 ∷ []) ≡ 0x7BA4
  pub captured_5e4 : check_and_zero 0x5E4 12 (0x00 ∷ 0xFF ∷ []) ≡ 0x1FF8
  pub captured_8c4 : check_and_zero 0x8C4 12 (0x8A ∷ 0x21 ∷ 0x40 ∷ []) ≡ 0x3D54
  -- of the nine bytes "123456789"
  pub nine_digits : check (byte_bits (0x31 ∷ 0x32 ∷ 0x33 ∷ 0x34 ∷ 0x35 ∷ 0x36 ∷ 0x37 ∷ 0x38 ∷ 0x39 ∷ [])) ≡ 0x6B39
