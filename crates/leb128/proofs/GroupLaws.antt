-- Laws of the groups read and of the groups of a value.
use Prim.Native.Nat.{ℕ, zero, suc, ◌+◌, ◌*◌, ◌/◌, ◌%◌, ◌<◌, ◌≤◌}
use mathlib.Core.Bool.{Bool, true, false}
use mathlib.Core.List.{List, [], ◌∷◌, ◌++◌}
use mathlib.Core.Path.{◌≡◌, refl, ap, ◌∙◌}
use native.Mathlib.Omega.{arith}
use borrow.Author.Tests.{lt-ltb, le-ltb, ne_eqb, ltb-true, ltb-false}
use lib.Dec.{ltb, eqb}
use lib.ListN.{length}
use Rattle.leb128.specs.Leb128.{pick, Parsed, before, groups, decode, looked_of, groups_of, uleb128, Value, Refused}
use Rattle.leb128.specs.declared.Refusal.{Refusal}
use Rattle.leb128.specs.declared.Refusal.TheVariants.{Cut, NotShortest, TooLarge}

-- What holds of both ways holds of the one picked.
pub either : {A : Type 0} (P : A → Type 0) (x : Bool) {i j : A} → (x ≡ true → P i) → (x ≡ false → P j) → P (pick x i j)
either P true h k = h refl
either P false h k = k refl

-- The rules of one group.
pub alone : (k b : ℕ) (t : List ℕ) → b < 128 → groups (suc k) (b ∷ t) ≡ Value b 1 t
unfolding groups
alone k b t h = simp (lt-ltb _ _ h)

pub opens : (k b : ℕ) (t : List ℕ) → 128 ≤ b → groups (suc k) (b ∷ t) ≡ before b (groups k t)
unfolding groups
opens k b t h = simp (le-ltb _ _ h)

pub joins : (b v u : ℕ) (t : List ℕ) → (v ≡ 0 → ⊥) → v * 128 + b % 128 ≤ 65535 → before b (Value v u t) ≡ Value (v * 128 + b % 128) (u + 1) t
unfolding before
joins b v u t h k = simp (ne_eqb _ _ h, le-ltb _ _ k)

pub small : (k n : ℕ) → n < 128 → groups_of (suc k) n ≡ n ∷ []
unfolding groups_of
small k n h = simp (lt-ltb _ _ h)

pub large : (k n : ℕ) → 128 ≤ n → groups_of (suc k) n ≡ (128 + n % 128) ∷ groups_of k (n / 128)
unfolding groups_of
large k n h = simp (le-ltb _ _ h)

-- No more bytes are looked at than there are.
pub one_byte_more : (b : ℕ) (r : Parsed) → looked_of (before b r) ≡ looked_of r + 1
unfolding before looked_of
one_byte_more b (Refused f u) = refl
one_byte_more b (Value v u t) = go (eqb v 0) (ltb 65535 (v * 128 + b % 128))
  where
    go : (x y : Bool) → looked_of (pick x (Refused NotShortest (u + 1)) (pick y (Refused TooLarge (u + 1)) (Value (v * 128 + b % 128) (u + 1) t))) ≡ u + 1
    go true y = refl
    go false true = refl
    go false false = refl

pub looked_groups : (k : ℕ) (s : List ℕ) → looked_of (groups k s) ≤ length s
unfolding groups looked_of
looked_groups zero s = omega arith
looked_groups (suc k) [] = omega arith
looked_groups (suc k) (b ∷ s) = go (ltb b 128) (looked_groups k s) (one_byte_more b (groups k s))
  where
    go : (x : Bool) → looked_of (groups k s) ≤ length s → looked_of (before b (groups k s)) ≡ looked_of (groups k s) + 1
        → looked_of (pick x (Value b 1 s) (before b (groups k s))) ≤ suc (length s)
    go true h l = omega arith
    go false h l = omega arith

pub looked_fits : (s : List ℕ) → looked_of (decode s) ≤ length s
unfolding decode
looked_fits s = looked_groups 3 s

-- How many groups a form has: one to three, and no fewer for a larger value.
some_groups : (k n : ℕ) → 1 ≤ length (groups_of (suc k) n)
unfolding groups_of
some_groups k n = go (ltb n 128)
  where
    go : (x : Bool) → 1 ≤ length (pick x (n ∷ []) ((128 + n % 128) ∷ groups_of k (n / 128)))
    go true = omega arith
    go false = omega arith

most_groups : (k n : ℕ) → length (groups_of k n) ≤ k
unfolding groups_of
most_groups zero n = omega arith
most_groups (suc k) n = go (ltb n 128) (most_groups k (n / 128))
  where
    go : (x : Bool) → length (groups_of k (n / 128)) ≤ k → length (pick x (n ∷ []) ((128 + n % 128) ∷ groups_of k (n / 128))) ≤ suc k
    go true h = omega arith
    go false h = omega arith

no_groups : (m n : ℕ) → length (groups_of 0 m) ≤ length (groups_of 0 n)
unfolding groups_of
no_groups m n = omega arith

one_group_more : (k m n : ℕ) → m ≤ n → length (groups_of k (m / 128)) ≤ length (groups_of k (n / 128)) → length (groups_of (suc k) m) ≤ length (groups_of (suc k) n)
one_group_more k m n h r = go (ltb m 128) refl
  where
    go : (x : Bool) → ltb m 128 ≡ x → length (groups_of (suc k) m) ≤ length (groups_of (suc k) n)
    go true e = rw (small k m (ltb-true m 128 e)) (some_groups k n)
    go false e = let l = ltb-false m 128 e in rw (large k m l, large k n (omega arith)) (omega arith)

more_groups : (k m n : ℕ) → m ≤ n → length (groups_of k m) ≤ length (groups_of k n)
more_groups zero m n h = no_groups m n
more_groups (suc k) m n h = one_group_more k m n h (more_groups k (m / 128) (n / 128) (omega arith))

pub uleb128_some : (n : ℕ) → 1 ≤ length (uleb128 n)
unfolding uleb128
uleb128_some n = some_groups 2 n

pub uleb128_most : (n : ℕ) → length (uleb128 n) ≤ 3
unfolding uleb128
uleb128_most n = most_groups 3 n

pub uleb128_grows : (m n : ℕ) → m ≤ n → length (uleb128 m) ≤ length (uleb128 n)
unfolding uleb128
uleb128_grows m n h = more_groups 3 m n h

pub uleb128_small : (n : ℕ) → n < 128 → length (uleb128 n) ≡ 1
unfolding uleb128
uleb128_small n h = rw (small 2 n h)

-- Bytes behind a value, or behind a refusal that is no cut, change neither.
unfoldable pub followed : Parsed → List ℕ → Parsed
followed (Value v u rest) t = Value v u (rest ++ t)
followed (Refused f u) t = Refused f u

abbrev NotCut : Parsed → Type 0
NotCut r = (u : ℕ) → r ≡ Refused Cut u → ⊥

followed_pick : (x : Bool) (i j : Parsed) (t : List ℕ) → pick x (followed i t) (followed j t) ≡ followed (pick x i j) t
followed_pick true i j t = refl
followed_pick false i j t = refl

before_followed : (b : ℕ) (r : Parsed) (t : List ℕ) → before b (followed r t) ≡ followed (before b r) t
unfolding before followed
before_followed b (Refused f u) t = refl
before_followed b (Value v u rest) t =
    ap (λ (r : Parsed). pick (eqb v 0) (Refused NotShortest (u + 1)) r)
    (followed_pick (ltb 65535 (v * 128 + b % 128)) (Refused TooLarge (u + 1)) (Value (v * 128 + b % 128) (u + 1) rest) t)
    ∙ followed_pick (eqb v 0) (Refused NotShortest (u + 1))
    (pick (ltb 65535 (v * 128 + b % 128)) (Refused TooLarge (u + 1)) (Value (v * 128 + b % 128) (u + 1) rest)) t

pub refused_stays : (b : ℕ) (f : Refusal) (u : ℕ) → before b (Refused f u) ≡ Refused f (u + 1)
unfolding before
refused_stays b f u = refl

group_followed : (k b : ℕ) (s t : List ℕ) → (NotCut (groups k s) → groups k (s ++ t) ≡ followed (groups k s) t)
    → NotCut (pick (ltb b 128) (Value b 1 s) (before b (groups k s)))
    → pick (ltb b 128) (Value b 1 (s ++ t)) (before b (groups k (s ++ t))) ≡ followed (pick (ltb b 128) (Value b 1 s) (before b (groups k s))) t
unfolding followed
group_followed k b s t rest h = go (ltb b 128) h
  where
    go : (x : Bool) → NotCut (pick x (Value b 1 s) (before b (groups k s)))
        → pick x (Value b 1 (s ++ t)) (before b (groups k (s ++ t))) ≡ followed (pick x (Value b 1 s) (before b (groups k s))) t
    go true l = refl
    go false l = ap (before b) (rest (λ u q. l (u + 1) (ap (before b) q ∙ refused_stays b Cut u))) ∙ before_followed b (groups k s) t

groups_followed : (k : ℕ) (s t : List ℕ) → NotCut (groups k s) → groups k (s ++ t) ≡ followed (groups k s) t
unfolding groups followed
groups_followed zero s t h = refl
groups_followed (suc k) [] t h = absurd (h 0 refl)
groups_followed (suc k) (b ∷ s) t h = group_followed k b s t (groups_followed k s t) h

pub decode_followed : (s t : List ℕ) → ((u : ℕ) → decode s ≡ Refused Cut u → ⊥) → decode (s ++ t) ≡ followed (decode s) t
unfolding decode
decode_followed s t h = groups_followed 3 s t h
