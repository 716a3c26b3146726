-- 01, Marked cases, "Also run": 65,535 and 80 80 04; and beside them numbers cut, not shortest and above 65,535. 02, Req 02: each with how many bytes were looked at.
use Rattle.std.specs.Prelude.{ℕ, List, [], ◌∷◌, ◌≡◌}
use Rattle.leb128.specs.Leb128.{decode, fault_of, value_of, looked_of, rest_of, uleb128}

-- What the reading of the bytes s gives: the refusal's number or 0, the value, how many bytes were looked at, and the rest.
abbrev pub Gives : List ℕ → ℕ → ℕ → ℕ → List ℕ → Type 0
Gives s fault value looked rest = (fault_of (decode s) ≡ fault) × (value_of (decode s) ≡ value) × (looked_of (decode s) ≡ looked) × (rest_of (decode s) ≡ rest)

pub record Cases : Type 0 where
  pub written : uleb128 65535 ≡ 0xFF ∷ 0xFF ∷ 0x03 ∷ []
  pub largest : Gives (0xFF ∷ 0xFF ∷ 0x03 ∷ []) 0 65535 3 []
  pub two_groups : Gives (0xAC ∷ 0x02 ∷ 0x01 ∷ []) 0 300 2 (0x01 ∷ [])
  pub one_group : Gives (0x05 ∷ 0x80 ∷ []) 0 5 1 (0x80 ∷ [])
  pub above : Gives (0x80 ∷ 0x80 ∷ 0x04 ∷ 0x01 ∷ []) 32 0 3 []
  pub third_more : Gives (0xFF ∷ 0xFF ∷ 0xFF ∷ 0x00 ∷ []) 32 0 3 []
  pub second_zero : Gives (0x83 ∷ 0x00 ∷ 0x01 ∷ []) 31 0 2 []
  pub third_zero : Gives (0x80 ∷ 0x80 ∷ 0x00 ∷ []) 31 0 3 []
  pub third_missing : Gives (0x80 ∷ 0x80 ∷ []) 30 0 2 []
  pub second_missing : Gives (0x80 ∷ []) 30 0 1 []
  pub empty : Gives [] 30 0 0 []
