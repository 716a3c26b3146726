-- How many bytes are looked at, where at most `left` groups are read.
use Prim.Native.Nat.{ℕ, zero, suc, ◌+◌, ◌-◌, ◌*◌, ◌/◌, ◌%◌, ◌<◌, ◌≤◌}
use mathlib.Core.Bool.{Bool, true, false}
use mathlib.Core.List.{List, [], ◌∷◌, ◌++◌}
use mathlib.Core.Path.{◌≡◌, refl, ap}
use native.Mathlib.Omega.{arith}
use borrow.Author.Tests.{ltb-true, ltb-false, eqb-true, eqb-false}
use lib.Dec.{ltb, eqb}
use lib.ListN.{length, get_or, take}
use Rattle.leb128.specs.Leb128.{pick, Parsed, before, groups, decode, looked_of, Value, Refused}
use Rattle.leb128.specs.declared.Refusal.{Refusal}
use Rattle.leb128.specs.declared.Refusal.TheVariants.{Cut, NotShortest, TooLarge}
use Rattle.leb128.specs.Claims.{RefusedAfter, After, Looked}
use Rattle.leb128.proofs.GroupLaws.{looked_fits, one_byte_more}

-- The same as `After` for so many groups; and of a value, what its last byte says of it.
unfoldable RefusedIn : ℕ → Refusal → List ℕ → ℕ → Type 0
RefusedIn left Cut s u = (u ≡ length s) × (u < left) × ((i : ℕ) → i < u → 128 ≤ get_or s i 0)
RefusedIn left NotShortest s u = (2 ≤ u) × (get_or s (u - 1) 1 ≡ 0)
RefusedIn left TooLarge s u = (u ≡ left) × (1 ≤ left → 3 < get_or s (left - 1) 0)

unfoldable AfterIn : ℕ → List ℕ → Parsed → Type 0
AfterIn left s (Value v u t) = (1 ≤ u) × (s ≡ take u s ++ t) × (u ≡ 1 → (v < 128) × (v ≡ get_or s 0 0)) × (u ≡ 2 → v / 128 ≡ get_or s 1 0) × (v ≡ 0 → get_or s (u - 1) 1 ≡ 0)
AfterIn left s (Refused f u) = RefusedIn left f s u

record LookedIn (left : ℕ) (s : List ℕ) (r : Parsed) : Type 0 where
  most : looked_of r ≤ left
  followed : (i : ℕ) → i + 1 < looked_of r → 128 ≤ get_or s i 0
  after : AfterIn left s r

-- One group more in front of those read.
module _ (left b : ℕ) (s : List ℕ) where
  last_byte : (u : ℕ) → 1 ≤ u → get_or s (u - 1) 1 ≡ 0 → get_or (b ∷ s) (u + 1 - 1) 1 ≡ 0
  last_byte u h e = let m : u + 1 - 1 ≡ suc (u - 1) = omega arith in rw m e

  one_more_used : (u : ℕ) (t : List ℕ) → s ≡ take u s ++ t → b ∷ s ≡ take (u + 1) (b ∷ s) ++ t
  one_more_used u t e = let m : u + 1 ≡ suc u = omega arith in rw m (ap (λ (x : List ℕ). b ∷ x) e)

  all_more : 128 ≤ b → (u : ℕ) → ((i : ℕ) → i < u → 128 ≤ get_or s i 0) → (i : ℕ) → i < u + 1 → 128 ≤ get_or (b ∷ s) i 0
  all_more h u f zero l = h
  all_more h u f (suc i) l = f i (omega arith)

  third_more : 128 ≤ b → (1 ≤ left → 3 < get_or s (left - 1) 0) → 1 ≤ suc left → 3 < get_or (b ∷ s) (suc left - 1) 0
  third_more h f l = go left f
    where
      go : (n : ℕ) → (1 ≤ n → 3 < get_or s (n - 1) 0) → 3 < get_or (b ∷ s) (suc n - 1) 0
      go zero k = omega arith
      go (suc n) k = let m : suc (suc n) - 1 ≡ suc (suc n - 1) = omega arith in rw m (k (omega arith))

  refused_more : 128 ≤ b → (f : Refusal) (u : ℕ) → RefusedIn left f s u → RefusedIn (suc left) f (b ∷ s) (u + 1)
  unfolding RefusedIn
  refused_more l Cut u h = (omega arith, omega arith, all_more l u h.2)
  refused_more l NotShortest u h = (omega arith, last_byte u (omega arith) h.1)
  refused_more l TooLarge u h = (omega arith, third_more l h.1)

  after_more : left ≤ 2 → 128 ≤ b → (r : Parsed) → looked_of r ≤ left → AfterIn left s r → AfterIn (suc left) (b ∷ s) (before b r)
  unfolding before looked_of AfterIn RefusedIn
  after_more l h (Refused f u) m a = refused_more h f u a
  after_more l h (Value v u t) m a = go (eqb v 0) (ltb 65535 (v * 128 + b % 128)) refl refl
    where
      go : (x y : Bool) → eqb v 0 ≡ x → ltb 65535 (v * 128 + b % 128) ≡ y
          → AfterIn (suc left) (b ∷ s) (pick x (Refused NotShortest (u + 1)) (pick y (Refused TooLarge (u + 1)) (Value (v * 128 + b % 128) (u + 1) t)))
      go true y p q = (omega arith, last_byte u a.0 (a.4 (eqb-true v 0 p)))
      go false true p q = too_large (ltb-true 65535 (v * 128 + b % 128) q)
        where
          too_large : 65535 < v * 128 + b % 128 → (u + 1 ≡ suc left) × (1 ≤ suc left → 3 < get_or (b ∷ s) (suc left - 1) 0)
          too_large i =
              let k : u ≡ 1 → ⊥ = λ (z : u ≡ 1). let w = (a.2 z).0 in omega arith in
              let two : u ≡ 2 = omega (arith, k) in
              let n : suc left - 1 ≡ 2 = omega (arith, two) in
              (omega (arith, two), (λ o. rw n (let w : v / 128 ≡ get_or s 1 0 = a.3 two in omega arith)))
      go false false p q =
          let some = eqb-false v 0 p in (
            omega arith,
            one_more_used u t a.1,
            (λ (z : u + 1 ≡ 1). absurd (omega arith)),
            (λ (z : u + 1 ≡ 2). let w = a.2 (omega arith) in omega arith),
            (λ (z : v * 128 + b % 128 ≡ 0). absurd (some (omega arith))),
          )

  followed_more : 128 ≤ b → (r : Parsed) → ((i : ℕ) → i + 1 < looked_of r → 128 ≤ get_or s i 0) → (i : ℕ) → i + 1 < looked_of (before b r) → 128 ≤ get_or (b ∷ s) i 0
  followed_more h r f zero l = h
  followed_more h r f (suc i) l = let e = one_byte_more b r in f i (omega arith)

  group_more : left ≤ 2 → (r : Parsed) → LookedIn left s r → LookedIn (suc left) (b ∷ s) (pick (ltb b 128) (Value b 1 s) (before b r))
  unfolding looked_of AfterIn
  group_more l r h = go (ltb b 128) refl
    where
      go : (x : Bool) → ltb b 128 ≡ x → LookedIn (suc left) (b ∷ s) (pick x (Value b 1 s) (before b r))
      go true e = record { most = omega arith; followed = λ i k. omega arith; after = (omega arith, refl, (λ z. (ltb-true b 128 e, refl)), (λ (z : ◌≡◌ {A = ℕ} 1 2). absurd (omega arith)), (λ z. z)) }
      go false e =
          let k = ltb-false b 128 e in
          record {
            most = let m = h.most in let n = one_byte_more b r in omega arith;
            followed = followed_more k r h.followed;
            after = after_more l k r h.most h.after;
          }

looked_in : (left : ℕ) → left ≤ 3 → (s : List ℕ) → LookedIn left s (groups left s)
unfolding groups looked_of AfterIn RefusedIn
looked_in zero h s = record { most = omega arith; followed = λ i k. omega arith; after = (refl, (λ k. absurd (omega arith))) }
looked_in (suc left) h [] = record { most = omega arith; followed = λ i k. omega arith; after = (refl, omega arith, (λ i k. absurd (omega arith))) }
looked_in (suc left) h (b ∷ s) = group_more left b s (omega arith) (groups left s) (looked_in left (omega arith) s)

refused_after : (f : Refusal) (s : List ℕ) (u : ℕ) → RefusedIn 3 f s u → RefusedAfter f s u
unfolding RefusedIn RefusedAfter
refused_after Cut s u h = (h.0, omega arith, h.2)
refused_after NotShortest s u h = h
refused_after TooLarge s u h = (h.0, h.1 (omega arith))

after_is : (s : List ℕ) (r : Parsed) → AfterIn 3 s r → After s r
unfolding AfterIn After
after_is s (Value v u t) h = (h.0, h.1)
after_is s (Refused f u) h = refused_after f s u h

pub looked : (s : List ℕ) → Looked s
unfolding decode
looked s =
    let h = looked_in 3 (omega arith) s in
    record { most = h.most; there = looked_fits s; followed = h.followed; after = after_is s (groups 3 s) h.after }
