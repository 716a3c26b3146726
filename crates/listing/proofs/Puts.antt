-- What the writers of texts and numerals leave in the room.
use Prim.Native.Nat.{ℕ, ◌+◌, ◌-◌, ◌/◌, ◌%◌, ◌≤◌, ◌<◌}
use mathlib.Core.Bool.{Bool, true, false}
use borrow.Author.Tests.{leb-true, le-leb}
use mathlib.Core.List.{List, [], ◌∷◌, ◌++◌, append_assoc}
use mathlib.Core.Path.{◌≡◌, refl, ap, sym, ◌∙◌}
use native.Mathlib.Numerals.{add-one}
use native.Mathlib.Omega.{arith}
use lib.ListN.{set, length, take, drop}
use lib.Seq.{sets-eq, drop-drop}
use borrow.Rule.Slice.PartMut.{put_mid}
use Rattle.listing.specs.Listing.{digit, decimal, two_digits, hexadecimal, holds, line_room, line_place}
use Rattle.listing.specs.Laid.{Laid, last_two}
use Rattle.listing.proofs.Laws.{joined, decimal_one, decimal_more, decimal_hundreds, last_two_lem, decimal_long_18, hexadecimal_two, hexadecimal_more}

-- ---- bytes one by one

pub one : (room : List ℕ) (at v : ℕ) → Laid room at (v ∷ []) (set room at v) (at + 1)
one room at v = record { room = refl; behind = refl }

pub two : (room : List ℕ) (at v w : ℕ) → Laid room at (v ∷ w ∷ []) (set (set room at v) (at + 1) w) (at + 2)
two room at v w = record { room = rw add-one; behind = refl }

-- ---- numerals

pub units : (room : List ℕ) (at n : ℕ) → n < 10 → Laid room at (decimal n) (set room at (48 + n)) (at + 1)
units room at n h = rw (decimal_one n h) (one room at (48 + n))

tens_units : (n : ℕ) → 10 ≤ n → n < 100 → decimal n ≡ (48 + n / 10) ∷ (48 + n % 10) ∷ []
tens_units n g h = decimal_more n g ∙ rw (decimal_one (n / 10) (omega arith))

pub tens : (room : List ℕ) (at n : ℕ) → 10 ≤ n → n < 100 → Laid room at (decimal n) (set (set room at (48 + n / 10)) (at + 1) (48 + n % 10)) (at + 2)
tens room at n g h = rw (tens_units n g h) (two room at (48 + n / 10) (48 + n % 10))

pub last : (room : List ℕ) (at n : ℕ) → Laid room at (last_two n) (set (set room at (48 + n / 10 % 10)) (at + 1) (48 + n % 10)) (at + 2)
unfolding last_two
last room at n = two room at (48 + n / 10 % 10) (48 + n % 10)

pub hundreds : {before between after : List ℕ} {at p q : ℕ} (n : ℕ) → 100 ≤ n → Laid before at (decimal (n / 100)) between p → Laid between p (last_two n) after q
    → Laid before at (decimal n) after q
hundreds n h k l = rw (decimal_hundreds n h) (joined k l)

pub hundreds_cut : {before between after : List ℕ} {at p q : ℕ} (n : ℕ) → 100 ≤ n → Laid before at (decimal (n / 100)) between p → Laid between p (last_two (n % 100)) after q
    → Laid before at (decimal n) after q
hundreds_cut n h k l = hundreds n h k (rw (last_two_lem n) l)

-- a number of at most twenty digits has at most eighteen before the last two
pub hundreds_fit : {before after : List ℕ} {at p : ℕ} (n : ℕ) → n < 100000000000000000000 → Laid before at (decimal (n / 100)) after p → p + 2 ≤ at + 20
hundreds_fit n h l = let k = decimal_long_18 (n / 100) (omega arith) in let e = l.behind in omega arith

pub pair : (room : List ℕ) (at x a b : ℕ) → a ≡ digit (x / 16 % 16) → b ≡ digit (x % 16) → Laid room at (two_digits x) (set (set room at a) (at + 1) b) (at + 2)
unfolding two_digits
pair room at x a b d e = rw (← d, ← e) (two room at a b)

pub three : {before after : List ℕ} {at p : ℕ} (x a : ℕ) → 256 ≤ x → x < 4096 → a ≡ digit (x % 16) → Laid before at (two_digits (x / 16)) after p
    → Laid before at (hexadecimal x) (set after p a) (p + 1)
three {after = after} {p = p} x a g h e l = rw (hexadecimal_more x g, hexadecimal_two (x / 16) (omega arith), ← e) (joined l (one after p a))

four_digits : (x : ℕ) → 4096 ≤ x → x < 65536 → hexadecimal x ≡ two_digits (x / 256) ++ two_digits x
unfolding two_digits
four_digits x g h =
    let e : x / 16 / 16 ≡ x / 256 = omega arith in
    hexadecimal_more x (omega arith)
    ∙ ap (λ (l : List ℕ). l ++ (digit (x % 16) ∷ [])) (hexadecimal_more (x / 16) (omega arith))
    ∙ rw (e, hexadecimal_two (x / 256) (omega arith))

pub four : {before between after : List ℕ} {at p q : ℕ} (x : ℕ) → 4096 ≤ x → x < 65536 → Laid before at (two_digits (x / 256)) between p → Laid between p (two_digits x) after q
    → Laid before at (hexadecimal x) after q
four x g h k l = rw (four_digits x g h) (joined k l)

-- ---- lines

pub fits : (room at : ℕ) (b : Bool) → b ≡ holds room at → b ≡ true → at + 80 ≤ room
unfolding holds
fits room at b e t = leb-true (at + 80) room (sym e ∙ t)

pub held : {room after text : List ℕ} {at r : ℕ} → at + 80 ≤ length room → Laid room at text after r → (r ≡ line_place (length room) at text) × (after ≡ line_room room at text)
unfolding holds line_place line_room
held {room} {at = at} h l = (simp (le-leb (at + 80) (length room) h) l.behind, simp (le-leb (at + 80) (length room) h) l.room)

pub short : (room text : List ℕ) (at : ℕ) (b : Bool) → b ≡ holds (length room) at → b ≡ false → (at ≡ line_place (length room) at text) × (room ≡ line_room room at text)
unfolding line_place line_room
short room text at b e f = (rw (sym e ∙ f), rw (sym e ∙ f))

-- ---- a text copied into its part of the room

pub text_put : (room text part : List ℕ) (at : ℕ) → at + length text ≤ length room → part ≡ text → Laid room at text (put_mid at (at + length text - at) room part) (at + length text)
text_put room text part at h e =
    let k : at + length text - at ≡ length text = omega arith in
    record { room = rw (e, k) (ap (λ (r : List ℕ). take at room ++ (text ++ r)) (drop-drop (length text) at room) ∙ sym (append_assoc (take at room) text (drop (at + length text) room)) ∙ sym (sets-eq text room at h)); behind = refl }
