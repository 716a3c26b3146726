-- The lowest of the channels that pass a test.
use Prim.Native.Nat.{ℕ, zero, suc, ◌+◌, ◌≤◌, ◌<◌}
use mathlib.Core.Bool.{Bool, true, false}
use mathlib.Core.Path.{◌≡◌, refl}
use native.Mathlib.Omega.{arith}
use borrow.Author.Tests.{ltb-true, ltb-false}
use lib.Dec.{ltb}
use Rattle.std.specs.Prelude.{Some}
use Rattle.line.specs.Bits.{pick}
use Rattle.rules.specs.Definitions.Channels.{lowest}

-- "Lowest channel number wins": the one that is found passes, and none below it does
pub found : (passes : ℕ → Bool) (left from c : ℕ) → lowest passes left from ≡ Some c → (passes c ≡ true) × ((k : ℕ) → from ≤ k → k < c → passes k ≡ false)
unfolding lowest
found passes zero from c e = absurd (let z : ◌≡◌ {A = ℕ} 0 1 = cc in omega arith)
found passes (suc left) from c e = go (passes from) refl e (found passes left (from + 1) c)
  where
    go : (b : Bool) → passes from ≡ b → pick b (Some from) (lowest passes left (from + 1)) ≡ Some c
        → (lowest passes left (from + 1) ≡ Some c → (passes c ≡ true) × ((k : ℕ) → from + 1 ≤ k → k < c → passes k ≡ false))
        → (passes c ≡ true) × ((k : ℕ) → from ≤ k → k < c → passes k ≡ false)
    go true p h rest = let q : from ≡ c = cc in (rw (← q) p, λ k a b. absurd (omega arith))
    go false p h rest = ((rest h).0, λ k a b. below k (ltb from k) refl a b)
      where
        below : (k : ℕ) (x : Bool) → ltb from k ≡ x → from ≤ k → k < c → passes k ≡ false
        below k true y a b = (rest h).1 k (omega (arith, ltb-true)) b
        below k false y a b = let q : k ≡ from = omega (arith, ltb-false) in rw q p
