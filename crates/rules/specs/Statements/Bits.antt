-- Bits of a number, for the statements.
--   bit_at == bit k of a number, bit 0 the lowest
use Rattle.std.specs.Prelude.{ℕ, ◌/◌, ◌%◌, ◌^◌}

abbrev pub bit_at : ℕ → ℕ → ℕ
bit_at n k = n / 2 ^ k % 2
