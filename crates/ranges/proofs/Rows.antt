-- Rows tested from the first on, each joined to those before it by `&`, as the code does.
use Prim.Native.Nat.{ℕ}
use mathlib.Core.Bool.{Bool, true, false, ◌&&◌}
use mathlib.Core.List.{List, [], ◌∷◌}
use mathlib.Core.Path.{◌≡◌, refl}
use lib.Dec.{leb}
use Rattle.rules.specs.Definitions.Registers.{both}
use Rattle.rules.specs.Definitions.State.{within}

abbrev pub joined : Bool → List (ℕ × ℕ) → Bool
joined b [] = b
joined b (r ∷ rs) = joined (b && leb r.0 r.1) rs

both_false : (rs : List (ℕ × ℕ)) → joined false rs ≡ false
both_false [] = refl
both_false (r ∷ rs) = both_false rs

pub joined_within : (b : Bool) (rs : List (ℕ × ℕ)) → joined b rs ≡ both b (within rs)
unfolding within
joined_within true [] = refl
joined_within false [] = refl
joined_within true (r ∷ rs) = joined_within (leb r.0 r.1) rs
joined_within false (r ∷ rs) = both_false rs
