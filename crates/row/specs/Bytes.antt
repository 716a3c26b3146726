-- A row with a number laid at a place: with_half == of 16 bits, with_word == of 32 bits.
use Rattle.std.specs.Prelude.{ℕ, ◌+◌, ◌/◌, ◌%◌, List, set}

abbrev pub with_half : List ℕ → ℕ → ℕ → List ℕ
with_half s at x = set (set s at (x % 256)) (at + 1) (x / 256)

abbrev pub with_word : List ℕ → ℕ → ℕ → List ℕ
with_word s at x = set (set (set (set s at (x % 256)) (at + 1) (x / 256 % 256)) (at + 2) (x / 65536 % 256)) (at + 3) (x / 16777216)
