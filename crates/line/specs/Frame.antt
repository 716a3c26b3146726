-- A frame and its slots (01, Frames on the line, the table of parts). Recessive is 1, dominant 0.
--   Frame    == identifier, command, data bytes, and whether an acknowledge is present
--   longest_data == the most data bytes of a frame
--   Fits     == the frame's numbers are in their ranges, with at most `longest` data bytes
--   covered  == the bits that the check covers: identifier, command and data
--   slots_of  == the slots of a row of coded bits and an acknowledge, in the order of the table of parts
--   slots    == the frame's slots
use Rattle.std.specs.Prelude.{ℕ, ◌+◌, ◌*◌, ◌≤◌, Bool, true, false, List, [], ◌∷◌, ◌++◌, length, replicate}
use Rattle.line.specs.Bits.{bits, Below}
use Rattle.line.specs.LineCode.{line_code}
use Rattle.line.specs.Check.{check}

pub record Frame : Type 0 where
  pub identifier : ℕ
  pub command : ℕ
  pub bytes : List ℕ
  pub acknowledge : Bool

-- data: "n bytes, 0 to 30"
abbrev pub longest_data : ℕ
longest_data = 30

pub record Fits (longest : ℕ) (f : Frame) : Type 0 where
  pub identifier : f.identifier ≤ 4095
  pub command : f.command ≤ 15
  pub size : length f.bytes ≤ longest
  pub bytes : Below 256 f.bytes

unfoldable pub byte_bits : List ℕ → List ℕ
byte_bits [] = []
byte_bits (b ∷ bs) = bits 8 b ++ byte_bits bs

unfoldable pub covered : Frame → List ℕ
covered f = bits 12 f.identifier ++ (bits 4 f.command ++ byte_bits f.bytes)

-- the bits that the line code carries: identifier, command, data and check
unfoldable pub carried : Frame → List ℕ
carried f = covered f ++ bits 15 (check (covered f))

unfoldable pub start : List ℕ
start = 0 ∷ 0 ∷ 0 ∷ 0 ∷ 1 ∷ 1 ∷ 1 ∷ 1 ∷ 0 ∷ 1 ∷ []

unfoldable pub end_of_data : List ℕ
end_of_data = 0 ∷ 0 ∷ []

-- "10 present, 11 absent (house)"
unfoldable pub acknowledge_slots : Bool → List ℕ
acknowledge_slots true = 1 ∷ 0 ∷ []
acknowledge_slots false = 1 ∷ 1 ∷ []

unfoldable pub end_of_frame : List ℕ
end_of_frame = replicate 8 1

-- what follows the check
abbrev pub closing_slots : Bool → List ℕ
closing_slots a = end_of_data ++ (acknowledge_slots a ++ end_of_frame)

abbrev pub slots_of : List ℕ → Bool → List ℕ
slots_of bs a = start ++ (line_code bs ++ closing_slots a)

unfoldable pub slots : Frame → List ℕ
slots f = slots_of (carried f) f.acknowledge

-- "Whole frame: 60 + 10n slots"
unfoldable pub size : ℕ → ℕ
size n = 60 + 10 * n
