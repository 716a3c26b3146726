-- 01, Session and listing: the numbers of a session are unsigned LEB128, in the shortest form, of at most three groups and at most 65,535.
--   decode == the value at the start of the bytes, and how many of them it used        uleb128 == the bytes of a value
use Rattle.std.specs.Prelude.{ℕ, zero, suc, ◌+◌, ◌*◌, ◌/◌, ◌%◌, ◌<◌, List, [], ◌∷◌, Result, Ok, Err, Bool, true, false, ltb, eqb, get_or}
use Rattle.leb128.specs.declared.Refusal.{Refusal}
use Rattle.leb128.specs.declared.Refusal.TheVariants.{Cut, NotShortest, TooLarge}
use Rattle.leb128.specs.declared.Number.{Number}
use Rattle.leb128.specs.declared.BadNumber.{BadNumber}

abbrev pub pick : {A : Type 0} → Bool → A → A → A
pick true a b = a
pick false a b = b

-- 01, Numbers refused: 30, 31, 32 "number cut, not shortest, above 65,535".
unfoldable pub refusal_number : Refusal → ℕ
refusal_number Cut = 30
refusal_number NotShortest = 31
refusal_number TooLarge = 32

-- A value, how many bytes it used and the bytes that follow it; or why there is none and how many bytes were looked at (02, Req 02).
pub data Parsed : Type 0 where
  Value : ℕ → ℕ → List ℕ → Parsed
  Refused : Refusal → ℕ → Parsed

-- The same of what the reader returns.
abbrev pub parsed : Result Number BadNumber → Parsed
parsed (Ok n) = Value n.value n.used n.rest.now
parsed (Err e) = Refused e.why e.looked

-- The group b before those of the value `high`: one byte more, which holds the seven bits below. If `high` is 0, they are not the shortest form.
unfoldable pub before : ℕ → Parsed → Parsed
before b (Refused f looked) = Refused f (looked + 1)
before b (Value high used rest) =
    pick (eqb high 0) (Refused NotShortest (used + 1))
    (pick (ltb 65535 (high * 128 + b % 128)) (Refused TooLarge (used + 1)) (Value (high * 128 + b % 128) (used + 1) rest))

-- 01, Session and listing: "groups of seven bits, low group first, top bit set when more follow", of which at most `left` are read.
unfoldable pub groups : ℕ → List ℕ → Parsed
groups zero s = Refused TooLarge 0
groups (suc left) [] = Refused Cut 0
groups (suc left) (b ∷ s) = pick (ltb b 128) (Value b 1 s) (before b (groups left s))

-- 01, Session and listing: "A third group with its top bit set is 32."
unfoldable pub decode : List ℕ → Parsed
decode s = groups 3 s

-- 01, Numbers refused: "Each returns its number and zero elsewhere". Where there is a value, the number is 0; a refusal has the value 0 and hands back no byte.
unfoldable pub fault_of : Parsed → ℕ
fault_of (Value v used rest) = 0
fault_of (Refused f looked) = refusal_number f

unfoldable pub value_of : Parsed → ℕ
value_of (Value v used rest) = v
value_of (Refused f looked) = 0

unfoldable pub rest_of : Parsed → List ℕ
rest_of (Value v used rest) = rest
rest_of (Refused f looked) = []

-- 02, Req 02: "how many bytes it used when good, and for 30, 31 and 32 how many bytes were looked at".
unfoldable pub looked_of : Parsed → ℕ
looked_of (Value v used rest) = used
looked_of (Refused f looked) = looked

-- The shortest form of n, where `left` groups are enough for it.
unfoldable pub groups_of : ℕ → ℕ → List ℕ
groups_of zero n = []
groups_of (suc left) n = pick (ltb n 128) (n ∷ []) ((128 + n % 128) ∷ groups_of left (n / 128))

-- The LEB128 form of n; at most 65,535 takes at most three groups.
unfoldable pub uleb128 : ℕ → List ℕ
uleb128 n = groups_of 3 n

-- Lent bytes are below 256.
abbrev pub Bytes : List ℕ → Type 0
Bytes s = (k : ℕ) → get_or s k 0 < 256
