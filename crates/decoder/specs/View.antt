-- How the decoder's functions see a slot sequence: for their own contracts, below the definitions of Decode.
--   view      == the bits from place i on, as many as asked, where the line code puts them
--   bytes_at   == the bytes that the bits from place i on write
--   Follows, Ends, Sees, Gives == what a function's answer says of the reading that it stands for
use Rattle.std.specs.Prelude.{ℕ, zero, suc, ◌+◌, ◌*◌, ◌/◌, ◌≤◌, Bool, ◌≡◌, List, [], ◌∷◌, Result, Ok, Err, length, drop, get_or}
use Rattle.line.specs.Bits.{bits_value}
use Rattle.codec.specs.declared.Refusal.{Refusal}
use Rattle.codec.specs.declared.Head.{Head}
use Rattle.codec.specs.Decode.{Read, read, fault, Reading, frame, refused, frame_of, head_of}

-- bit i of identifier, command, data and check stands in slot 10 + i + i / 4
unfoldable pub view : List ℕ → ℕ → ℕ → List ℕ
view s i zero = []
view s i (suc n) = get_or s (10 + i + i / 4) 0 ∷ view s (i + 1) n

unfoldable pub bytes_at : List ℕ → ℕ → ℕ → List ℕ
bytes_at s i zero = []
bytes_at s i (suc n) = bits_value (view s i 8) ∷ bytes_at s (i + 8) n

-- the bits of j whole nibbles and three plain bits
abbrev pub seen_bits : List ℕ → ℕ → List ℕ
seen_bits s j = view s 0 (4 * j + 3)

abbrev pub Follows : List ℕ → ℕ → Result ℕ Refusal → Read (Unit {0}) → Type 0
Follows s end (Ok p) r = (p ≡ end) × (p ≤ length s) × (r ≡ read tt (drop p s))
Follows s end (Err k) r = r ≡ fault k

abbrev pub Ends : List ℕ → Result ℕ Refusal → Read (List ℕ) → Type 0
Ends s (Ok j) r = (15 + 5 * j ≤ length s) × (r ≡ read (seen_bits s j) (drop (15 + 5 * j) s))
Ends s (Err k) r = r ≡ fault k

abbrev pub Sees : List ℕ → ℕ → Result Bool Refusal → Read Bool → Type 0
Sees s end (Ok a) r = (end ≤ length s) × (r ≡ read a (drop end s))
Sees s end (Err k) r = r ≡ fault k

-- a frame of n data bytes has 31 + 8n bits
abbrev pub Gives : List ℕ → Result Head Refusal → Reading → Type 0
Gives s (Ok h) r =
    (h ≡ head_of (frame_of (view s 0 (31 + 8 * h.count)) h.acknowledge))
    × (r ≡ frame (frame_of (view s 0 (31 + 8 * h.count)) h.acknowledge))
    × (60 + 10 * h.count ≤ length s)
Gives s (Err k) r = r ≡ refused k
