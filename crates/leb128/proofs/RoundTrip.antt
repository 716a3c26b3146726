-- The values up to 65,535 and their LEB128 forms are one to one: `complete` and `sound` of crate claims.
use Prim.Native.Nat.{ℕ, zero, suc, ◌+◌, ◌*◌, ◌/◌, ◌%◌, ◌<◌, ◌≤◌}
use mathlib.Core.Bool.{Bool, true, false}
use mathlib.Core.List.{List, [], ◌∷◌, ◌++◌}
use mathlib.Core.Path.{◌≡◌, refl, ap, sym, ◌∙◌}
use native.Mathlib.Omega.{arith}
use borrow.Author.Tests.{ltb-true, ltb-false, eqb-false}
use lib.Dec.{ltb, eqb}
use lib.ListN.{length}
use Rattle.leb128.specs.Leb128.{pick, Bytes, Parsed, before, groups, decode, groups_of, uleb128, Value, Refused}
use Rattle.leb128.specs.declared.Refusal.{Refusal}
use Rattle.leb128.specs.declared.Refusal.TheVariants.{Cut, NotShortest, TooLarge}
use Rattle.leb128.proofs.GroupLaws.{alone, opens, joins, small, large, refused_stays}

-- One group more, of a number that takes at most k above it.
module _ (k n : ℕ) (t : List ℕ) (fits : n ≤ 65535) where
  one_more : (128 ≤ n → groups k (groups_of k (n / 128) ++ t) ≡ Value (n / 128) (length (groups_of k (n / 128))) t)
      → groups (suc k) (groups_of (suc k) n ++ t) ≡ Value n (length (groups_of (suc k) n)) t
  one_more above = go (ltb n 128) refl
    where
      go : (b : Bool) → ltb n 128 ≡ b → groups (suc k) (groups_of (suc k) n ++ t) ≡ Value n (length (groups_of (suc k) n)) t
      go true e = let h = ltb-true n 128 e in rw (small k n h) (alone k n t h)
      go false e =
          let h = ltb-false n 128 e in
          let z : n / 128 * 128 + (128 + n % 128) % 128 ≡ n = omega arith in
          rw (large k n h) (opens k (128 + n % 128) (groups_of k (n / 128) ++ t) (omega arith)
          ∙ ap (before (128 + n % 128)) (above h)
          ∙ joins (128 + n % 128) (n / 128) (length (groups_of k (n / 128))) t (λ (q : n / 128 ≡ 0). omega arith) (omega arith)
          ∙ ap (λ (m : ℕ). Value m (length (groups_of k (n / 128)) + 1) t) z
          ∙ ap (λ (m : ℕ). Value n m t) (omega arith))

-- The form of n is read as n, whatever follows it.
pub complete : (n : ℕ) (t : List ℕ) → n ≤ 65535 → decode (uleb128 n ++ t) ≡ Value n (length (uleb128 n)) t
unfolding decode uleb128
complete n t h =
    one_more 2 n t h λ _. one_more 1 (n / 128) t (omega arith) λ _. one_more 0 (n / 128 / 128) t (omega arith) λ (l : 128 ≤ n / 128 / 128). absurd (omega arith)

-- What is read as the value n, of u bytes, with t behind it.
module _ (n u : ℕ) (t : List ℕ) where
  abbrev Form : ℕ → List ℕ → Type 0
  Form k s = (n ≤ 65535) × (s ≡ groups_of k n ++ t) × (u ≡ length (groups_of k n))

  never : (f : Refusal) (k : ℕ) → Refused f k ≡ Value n u t → ⊥
  never f k e = let z : ◌≡◌ {A = ℕ} 0 1 = cc in omega arith

  last_group : (k b : ℕ) (s : List ℕ) → b < 128 → Value b 1 s ≡ Value n u t → Form (suc k) (b ∷ s)
  last_group k b s h e =
      let p : b ≡ n = cc in
      let q : s ≡ t = cc in
      let l : u ≡ 1 = cc in
      (omega arith, rw (small k n (omega arith)) (cc), rw (small k n (omega arith)) l)

  -- the group b before the form of v
  group_before : (k b v w : ℕ) (s r : List ℕ) → 128 ≤ b → b < 256 → s ≡ groups_of k v ++ r → w ≡ length (groups_of k v) → (v ≡ 0 → ⊥) → v * 128 + b % 128 ≤ 65535
      → Value (v * 128 + b % 128) (w + 1) r ≡ Value n u t → Form (suc k) (b ∷ s)
  group_before k b v w s r h l form size some fits e =
      let p : v * 128 + b % 128 ≡ n = cc in
      let q : r ≡ t = cc in
      let m : u ≡ w + 1 = cc in
      let low : 128 + n % 128 ≡ b = omega arith in
      let high : n / 128 ≡ v = omega arith in
      (omega arith, rw (large k n (omega arith), low, high) (ap (λ (x : List ℕ). b ∷ x) (form ∙ rw q)), rw (large k n (omega arith), high) (omega (arith, m, size)))

  judged : (k b v w : ℕ) (s r : List ℕ) → 128 ≤ b → b < 256 → s ≡ groups_of k v ++ r → w ≡ length (groups_of k v) → before b (Value v w r) ≡ Value n u t → Form (suc k) (b ∷ s)
  unfolding before
  judged k b v w s r h l form size e = go (eqb v 0) (ltb 65535 (v * 128 + b % 128)) refl refl e
    where
      go : (x y : Bool) → eqb v 0 ≡ x → ltb 65535 (v * 128 + b % 128) ≡ y
          → pick x (Refused NotShortest (w + 1)) (pick y (Refused TooLarge (w + 1)) (Value (v * 128 + b % 128) (w + 1) r)) ≡ Value n u t → Form (suc k) (b ∷ s)
      go true y p q i = absurd (never NotShortest (w + 1) i)
      go false true p q i = absurd (never TooLarge (w + 1) i)
      go false false p q i = group_before k b v w s r h l form size (eqb-false v 0 p) (ltb-false _ _ q) i

split : (n u : ℕ) (t : List ℕ) (k b : ℕ) (s : List ℕ) → b < 256 → ((m w : ℕ) (r : List ℕ) → groups k s ≡ Value m w r → Form m w r k s)
    → pick (ltb b 128) (Value b 1 s) (before b (groups k s)) ≡ Value n u t → Form n u t (suc k) (b ∷ s)
split n u t k b s l rest e = go (ltb b 128) refl (groups k s) refl e
  where
    go : (x : Bool) → ltb b 128 ≡ x → (r : Parsed) → groups k s ≡ r → pick x (Value b 1 s) (before b r) ≡ Value n u t → Form n u t (suc k) (b ∷ s)
    go true p r q i = last_group n u t k b s (ltb-true b 128 p) i
    go false p (Refused f w) q i = absurd (never n u t f (w + 1) (sym (refused_stays b f w) ∙ i))
    go false p (Value v w r) q i = let f = rest v w r q in judged n u t k b v w s r (ltb-false b 128 p) l f.1 f.2 i

form : (k : ℕ) (s : List ℕ) → Bytes s → (n u : ℕ) (t : List ℕ) → groups k s ≡ Value n u t → Form n u t k s
unfolding groups
form zero s bytes n u t e = absurd (never n u t TooLarge 0 e)
form (suc k) [] bytes n u t e = absurd (never n u t Cut 0 e)
form (suc k) (b ∷ s) bytes n u t e = split n u t k b s (bytes 0) (form k s (λ i. bytes (suc i))) e

-- What is accepted is the form of its value, with the rest behind it, and its bytes are as many as the form has.
pub sound : (s : List ℕ) → Bytes s → (n u : ℕ) (t : List ℕ) → decode s ≡ Value n u t → (n ≤ 65535) × (s ≡ uleb128 n ++ t) × (u ≡ length (uleb128 n))
unfolding decode uleb128
sound s bytes n u t e = form 3 s bytes n u t e
