-- The line code (01, Frames on the line; 000, enhanced Manchester code).
--   line_code  == the slots of a row of bits
--   pattern   == the five slots of a nibble
use Rattle.std.specs.Prelude.{ℕ, ◌-◌, List, [], ◌∷◌}
use Rattle.line.specs.Bits.{bits}

-- "Three plain bits, then one bit sent as itself and its opposite, then three plain bits again"
unfoldable pub line_code : List ℕ → List ℕ
line_code [] = []
line_code (a ∷ []) = a ∷ []
line_code (a ∷ b ∷ []) = a ∷ b ∷ []
line_code (a ∷ b ∷ c ∷ []) = a ∷ b ∷ c ∷ []
line_code (a ∷ b ∷ c ∷ d ∷ bs) = a ∷ b ∷ c ∷ d ∷ (1 - d) ∷ line_code bs

-- "a table gives the five slots of each of the 16 nibbles"
unfoldable pub pattern : ℕ → List ℕ
pattern n = line_code (bits 4 n)
