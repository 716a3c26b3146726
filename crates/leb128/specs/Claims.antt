-- What is claimed of the bytes that a number's reading looks at: the types of the claims, whose values crate claims holds.
--   Looked == how many they are, and which
use Rattle.std.specs.Prelude.{ℕ, ◌+◌, ◌-◌, ◌<◌, ◌≤◌, List, ◌++◌, ◌≡◌, length, get_or, take}
use Rattle.leb128.specs.Leb128.{Parsed, decode, looked_of, Value, Refused}
use Rattle.leb128.specs.declared.Refusal.{Refusal}
use Rattle.leb128.specs.declared.Refusal.TheVariants.{Cut, NotShortest, TooLarge}

-- 02, Req 02, "for 30, 31 and 32 how many bytes were looked at". 30: all that there are, and each says that a group follows. 31: up to and with the group that
-- is zero. 32: three, and the third is above 3.
unfoldable pub RefusedAfter : Refusal → List ℕ → ℕ → Type 0
RefusedAfter Cut s looked = (looked ≡ length s) × (looked ≤ 2) × ((i : ℕ) → i < looked → 128 ≤ get_or s i 0)
RefusedAfter NotShortest s looked = (2 ≤ looked) × (get_or s (looked - 1) 1 ≡ 0)
RefusedAfter TooLarge s looked = (looked ≡ 3) × (3 < get_or s 2 0)

-- 02, Req 02, "how many bytes it used when good": one or more. They and the rest are the lent bytes.
unfoldable pub After : List ℕ → Parsed → Type 0
After s (Value v used rest) = (1 ≤ used) × (s ≡ take used s ++ rest)
After s (Refused f looked) = RefusedAfter f s looked

-- At most three bytes are looked at, and at most those that are there. In each but the last the top bit says that a group follows.
pub record Looked (s : List ℕ) : Type 0 where
  pub most : looked_of (decode s) ≤ 3
  pub there : looked_of (decode s) ≤ length s
  pub followed : (i : ℕ) → i + 1 < looked_of (decode s) → 128 ≤ get_or s i 0
  pub after : After s (decode s)
