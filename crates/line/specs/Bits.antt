-- Numbers as rows of bits, most significant bit first (01, Frames on the line).
--   pick    == the first of two values where the test holds, else the second
--   bits    == the lowest bits of a number, as many as its first argument says
--   bits_value == the value of a row of bits
--   Below   == every number of a list is below a bound: a row of bits is Below 2, a row of bytes Below 256
use Rattle.std.specs.Prelude.{ℕ, zero, suc, ◌+◌, ◌*◌, ◌/◌, ◌%◌, ◌^◌, ◌<◌, Bool, true, false, List, [], ◌∷◌}

abbrev pub pick : {A : Type 0} → Bool → A → A → A
pick true a b = a
pick false a b = b

unfoldable pub bits : ℕ → ℕ → List ℕ
bits zero x = []
bits (suc w) x = (x / 2 ^ w % 2) ∷ bits w x

-- the value of a row of bits behind a value x
unfoldable pub bits_value_from : ℕ → List ℕ → ℕ
bits_value_from x [] = x
bits_value_from x (b ∷ bs) = bits_value_from (x * 2 + b) bs

unfoldable pub bits_value : List ℕ → ℕ
bits_value bs = bits_value_from 0 bs

pub data Below (m : ℕ) : List ℕ → Type 0 where
  none : Below m []
  one : {x : ℕ} {xs : List ℕ} → x < m → Below m xs → Below m (x ∷ xs)
