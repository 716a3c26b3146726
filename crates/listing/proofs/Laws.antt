-- Laws: numerals by their last digits, and how long they are; texts laid one behind another.
use Prim.Native.Nat.{ℕ, zero, suc, ◌+◌, ◌*◌, ◌/◌, ◌%◌, ◌≤◌, ◌<◌}
use mathlib.Core.Bool.{Bool, true, false}
use mathlib.Core.List.{List, [], ◌∷◌, ◌++◌, append_assoc}
use mathlib.Core.Path.{◌≡◌, refl, ap, sym, ◌∙◌}
use native.Mathlib.Omega.{arith}
use borrow.Author.Tests.{ltb-false, lt-ltb, le-ltb, le-leb}
use lib.Dec.{ltb}
use lib.ListN.{length, length-append}
use Rattle.line.proofs.Room.{sets_append}
use Rattle.leb128.specs.Leb128.{pick}
use Rattle.listing.specs.declared.Edge.{Edge}
use Rattle.listing.specs.declared.Edge.TheVariants.{Count, Bad, End}
use Rattle.listing.specs.Laid.{Laid, words, last_two}
use Rattle.listing.specs.Listing.{digit, decimal_in, decimal, two_digits, hexadecimal_in, hexadecimal, newline, events_line, end_line, bad_line, edge_line, longest_line, holds, line_room, line_place}

-- ---- decimal

same_decimal : (j k n : ℕ) → n ≤ j → n ≤ k → decimal_in j n ≡ decimal_in k n
unfolding decimal_in
same_decimal zero zero n a b = refl
same_decimal zero (suc k) n a b = let z : n ≡ 0 = omega arith in rw z
same_decimal (suc j) zero n a b = let z : n ≡ 0 = omega arith in rw z
same_decimal (suc j) (suc k) n a b = go (ltb n 10) refl (same_decimal j k (n / 10))
  where
    go : (t : Bool) → ltb n 10 ≡ t → (n / 10 ≤ j → n / 10 ≤ k → decimal_in j (n / 10) ≡ decimal_in k (n / 10))
        → pick (ltb n 10) ((48 + n) ∷ []) (decimal_in j (n / 10) ++ ((48 + n % 10) ∷ [])) ≡ pick (ltb n 10) ((48 + n) ∷ []) (decimal_in k (n / 10) ++ ((48 + n % 10) ∷ []))
    go true e h = rw e
    go false e h = let l = ltb-false n 10 e in rw (e, h (omega arith) (omega arith))

pub decimal_one : (n : ℕ) → n < 10 → decimal n ≡ (48 + n) ∷ []
unfolding decimal decimal_in
decimal_one zero h = refl
decimal_one (suc n) h = rw (lt-ltb (suc n) 10 h)

pub decimal_more : (n : ℕ) → 10 ≤ n → decimal n ≡ decimal (n / 10) ++ ((48 + n % 10) ∷ [])
unfolding decimal decimal_in
decimal_more zero h = absurd (omega arith)
decimal_more (suc n) h = rw (le-ltb (suc n) 10 h, same_decimal n (suc n / 10) (suc n / 10) (omega arith) (omega arith))

pub decimal_hundreds : (n : ℕ) → 100 ≤ n → decimal n ≡ decimal (n / 100) ++ last_two n
unfolding last_two
decimal_hundreds n h =
    let e : n / 10 / 10 ≡ n / 100 = omega arith in
    decimal_more n (omega arith)
    ∙ ap (λ (l : List ℕ). l ++ ((48 + n % 10) ∷ [])) (decimal_more (n / 10) (omega arith))
    ∙ append_assoc (decimal (n / 10 / 10)) ((48 + n / 10 % 10) ∷ []) ((48 + n % 10) ∷ [])
    ∙ rw e

pub last_two_lem : (n : ℕ) → last_two n ≡ last_two (n % 100)
unfolding last_two
last_two_lem n =
    let t : n / 10 % 10 ≡ n % 100 / 10 % 10 = omega arith in
    let u : n % 10 ≡ n % 100 % 10 = omega arith in
    rw (t, u)

abbrev tens : ℕ → ℕ
tens zero = 10
tens (suc d) = 10 * tens d

long_in : (d k n : ℕ) → n < tens d → length (decimal_in k n) ≤ suc d
unfolding decimal_in
long_in d zero n h = omega arith
long_in zero (suc k) n h = rw (lt-ltb n 10 h) (omega arith)
long_in (suc d) (suc k) n h = go (ltb n 10) refl (long_in d k (n / 10))
  where
    go : (t : Bool) → ltb n 10 ≡ t → (n / 10 < tens d → length (decimal_in k (n / 10)) ≤ suc d)
        → length (pick (ltb n 10) ((48 + n) ∷ []) (decimal_in k (n / 10) ++ ((48 + n % 10) ∷ []))) ≤ suc (suc d)
    go true e i = rw e (omega arith)
    go false e i = let l = i (omega arith) in rw e (omega (arith, length-append (decimal_in k (n / 10)) ((48 + n % 10) ∷ [])))

pub decimal_long_18 : (n : ℕ) → n < 1000000000000000000 → length (decimal n) ≤ 18
unfolding decimal
decimal_long_18 n h = long_in 17 n n h

-- ---- hexadecimal

same_hexadecimal : (j k n : ℕ) → n ≤ j → n ≤ k → hexadecimal_in j n ≡ hexadecimal_in k n
unfolding hexadecimal_in
same_hexadecimal zero zero n a b = refl
same_hexadecimal zero (suc k) n a b = let z : n ≡ 0 = omega arith in rw z
same_hexadecimal (suc j) zero n a b = let z : n ≡ 0 = omega arith in rw z
same_hexadecimal (suc j) (suc k) n a b = go (ltb n 256) refl (same_hexadecimal j k (n / 16))
  where
    go : (t : Bool) → ltb n 256 ≡ t → (n / 16 ≤ j → n / 16 ≤ k → hexadecimal_in j (n / 16) ≡ hexadecimal_in k (n / 16))
        → pick (ltb n 256) (two_digits n) (hexadecimal_in j (n / 16) ++ (digit (n % 16) ∷ [])) ≡ pick (ltb n 256) (two_digits n) (hexadecimal_in k (n / 16) ++ (digit (n % 16) ∷ []))
    go true e h = rw e
    go false e h = let l = ltb-false n 256 e in rw (e, h (omega arith) (omega arith))

pub hexadecimal_two : (n : ℕ) → n < 256 → hexadecimal n ≡ two_digits n
unfolding hexadecimal hexadecimal_in
hexadecimal_two zero h = refl
hexadecimal_two (suc n) h = rw (lt-ltb (suc n) 256 h)

pub hexadecimal_more : (n : ℕ) → 256 ≤ n → hexadecimal n ≡ hexadecimal (n / 16) ++ (digit (n % 16) ∷ [])
unfolding hexadecimal hexadecimal_in
hexadecimal_more zero h = absurd (omega arith)
hexadecimal_more (suc n) h = rw (le-ltb (suc n) 256 h, same_hexadecimal n (suc n / 16) (suc n / 16) (omega arith) (omega arith))

-- ---- texts in lent room

pub joined : {a b c : List ℕ} {i j k : ℕ} {vs ws : List ℕ} → Laid a i vs b j → Laid b j ws c k → Laid a i (vs ++ ws) c k
joined {a} {b} {c} {i} {j} {k} {vs} {ws} p q =
    record {
      room = q.room ∙ rw (p.room, p.behind) (sym (sets_append a i vs ws));
      behind = let x = p.behind in let y = q.behind in omega (arith, length-append vs ws);
    }

-- A line that is held is laid.
pub line_laid : {room after text : List ℕ} {at r : ℕ} → at + longest_line ≤ length room → r ≡ line_place (length room) at text → after ≡ line_room room at text → Laid room at text after r
unfolding holds line_place line_room
line_laid {room} {at = at} h p q = record { room = simp (le-leb (at + longest_line) (length room) h) at q; behind = simp (le-leb (at + longest_line) (length room) h) at p }

-- ---- a line around the events is its words and a line feed

line_words : (l : Edge) → words l ++ newline ≡ edge_line l
unfolding events_line end_line bad_line
line_words (Count count) = refl
line_words (Bad number place looked) = refl
line_words (End count) = refl

pub ended : {before after : List ℕ} {at place : ℕ} (l : Edge) → Laid before at (words l ++ newline) after place → Laid before at (edge_line l) after place
ended l h = rw (← (line_words l)) h
