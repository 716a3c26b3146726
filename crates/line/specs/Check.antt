-- The check (01, Frames on the line, "Check"; 000, the frame check sequence).
--   polynomial  == x^15+x^11+x^10+x^9+x^8+x^7+x^4+x^3+x^2+1 without its highest power
--   check_bit    == the remainder once one bit more is divided
--   remainder   == the remainder of a row of bits, from a starting value
--   check       == the check of a row of bits: start all ones, result complemented
use Rattle.std.specs.Prelude.{ℕ, ◌+◌, ◌-◌, ◌*◌, ◌/◌, ◌%◌, ◌^◌, List, [], ◌∷◌, eqb}
use Rattle.std.specs.Int.Bits.{bit_xor}
use Rattle.line.specs.Bits.{pick}

unfoldable pub polynomial : ℕ
polynomial = 2 ^ 11 + 2 ^ 10 + 2 ^ 9 + 2 ^ 8 + 2 ^ 7 + 2 ^ 4 + 2 ^ 3 + 2 ^ 2 + 1

-- the polynomial is taken off where the bit that leaves the remainder and the bit that comes differ
unfoldable pub check_bit : ℕ → ℕ → ℕ
check_bit r b = pick (eqb (r / 2 ^ 14) b) (r % 2 ^ 14 * 2) (bit_xor (r % 2 ^ 14 * 2) polynomial)

unfoldable pub remainder : ℕ → List ℕ → ℕ
remainder r [] = r
remainder r (b ∷ bs) = remainder (check_bit r b) bs

unfoldable pub all_ones : ℕ
all_ones = 2 ^ 15 - 1

unfoldable pub check : List ℕ → ℕ
check bs = all_ones - remainder all_ones bs
