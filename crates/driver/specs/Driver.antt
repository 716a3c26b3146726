-- The level of a slot of the fixed frame, found by its place (01, Frames on the line; Sending).
--   nibble_at   == nibble i of the bytes, the high half of a byte first
--   slot_coded  == slot m behind the start: a slot of its nibble's pattern
--   placed     == slot k of the frame of n data bytes. A count above longest_data, which no state in range has, is taken mod longest_data + 1
--   framed     == the fixed frame of n data bytes
use Rattle.std.specs.Prelude.{ℕ, ◌+◌, ◌-◌, ◌*◌, ◌/◌, ◌%◌, List, eqb, ltb, get_or}
use Rattle.line.specs.Bits.{pick}
use Rattle.line.specs.LineCode.{pattern}
use Rattle.line.specs.Frame.{longest_data, start}
use Rattle.rules.specs.declared.Coded.{Coded}

unfoldable pub nibble_at : List ℕ → ℕ → ℕ
nibble_at bytes i = pick (eqb (i % 2) 0) (get_or bytes (i / 2) 0 / 16) (get_or bytes (i / 2) 0 % 16)

unfoldable pub slot_coded : List ℕ → ℕ → ℕ
slot_coded bytes m = get_or (pattern (nibble_at bytes (m / 5) % 16)) (m % 5) 0

unfoldable pub placed : List ℕ → ℕ → ℕ → ℕ
placed bytes n k =
    pick (ltb k 10) (get_or start k 1)
    (pick (ltb k (48 + 10 * (n % (longest_data + 1)))) (slot_coded bytes (k - 10)) (pick (ltb k (50 + 10 * (n % (longest_data + 1)))) 0 1))

unfoldable pub framed : ℕ → List ℕ → Coded
framed n bytes = record { n = n; bytes = bytes }
