-- What the definitions say at a place of a slot sequence.
use Prim.Native.Nat.{ℕ, zero, suc, ◌+◌, ◌-◌, ◌*◌, ◌/◌, ◌%◌, ◌^◌, ◌≤◌, ◌<◌}
use mathlib.Core.Bool.{Bool, true, false}
use mathlib.Core.List.{List, [], ◌∷◌, ◌++◌, append_assoc, append-nil}
use mathlib.Core.Path.{◌≡◌, refl, ap, ◌∙◌, sym}
use native.Mathlib.Nat.{zero-add, suc-add, add-zero, pow-le-pow_right}
use native.Mathlib.Omega.{arith}
use lib.Dec.{eqb, leb}
use lib.ListN.{get_or, set, length, take, drop, length-drop, drop_of_length-le}
use lib.Seq.{take_at, drop_at}
use borrow.Author.Tests.{eq-eqb, ne_eqb, eqb-true, leb-true, lt-ltb, le-ltb, lt-leb}
use Rattle.line.specs.Bits.{pick, bits, bits_value, bits_value_from, Below, none, one}
use Rattle.line.specs.Check.{remainder, check, all_ones}
use Rattle.line.specs.Frame.{Frame, longest_data, start, end_of_frame}
use Rattle.line.proofs.Laws.{next, bits_value_lem, value_below, value_append, remainder_append}
use Rattle.codec.specs.declared.Refusal.{Refusal}
use Rattle.codec.specs.declared.Refusal.TheVariants.{Level, Start, Pair, Length, Check, Acknowledge, EndOfFrame, CutShort, LeftOver, Room}
use Rattle.codec.specs.declared.Head.{Head}
use Rattle.std.specs.Prelude.{Ok, Err}
use Rattle.std.specs.List.{list_all}
use Rattle.std.proofs.lemmas.List.{take_all, take_more_set}
use Rattle.codec.specs.Answer.{laid}
use Rattle.codec.specs.Decode.{Read, read, fault, Reading, frame, refused, after, levels, expected, most, nibbles, whole, plain_run, pair_at, right, second_slot, acknowledged, bytes_of, frame_of, head_of, ended, closing, judged, reading, decoded, decoded_room}
use Rattle.codec.proofs.RoundTrip.{both, bytes_long}
use Rattle.decoder.specs.View.{view, seen_bits, bytes_at, Follows, Sees, Gives}

-- ---- views

pub view_length : (s : List ℕ) (i n : ℕ) → length (view s i n) ≡ n
unfolding view
view_length s i zero = refl
view_length s i (suc n) = ap suc (view_length s (i + 1) n)

pub view_append : (s : List ℕ) (i a b : ℕ) → view s i (a + b) ≡ view s i a ++ view s (i + a) b
unfolding view
view_append s i zero b = rw (zero-add, add-zero)
view_append s i (suc a) b =
    let e : i + 1 + a ≡ i + suc a = omega arith in
    rw (suc-add a b, view_append s (i + 1) a b, e)

below_at : {m : ℕ} {s : List ℕ} → Below m s → 0 < m → (i : ℕ) → get_or s i 0 < m
below_at none h i = h
below_at (one x s) h zero = x
below_at (one x s) h (suc i) = below_at s h i

pub slot_below : {s : List ℕ} → Below 2 s → (i : ℕ) → get_or s i 0 < 2
slot_below l i = below_at l (omega arith) i

pub view_below : {s : List ℕ} → Below 2 s → (i n : ℕ) → Below 2 (view s i n)
unfolding view
view_below l i zero = none
view_below l i (suc n) = one (slot_below l (10 + i + i / 4)) (view_below l (i + 1) n)

pub view_last : (s : List ℕ) (i k : ℕ) → view s i (k + 1) ≡ view s i k ++ (get_or s (10 + (i + k) + (i + k) / 4) 0 ∷ [])
unfolding view
view_last s i k = view_append s i k 1

pub view_take : (s : List ℕ) (i a n : ℕ) → a ≤ n → take a (view s i n) ≡ view s i a
view_take s i a n h =
    let e : n ≡ a + (n - a) = omega arith in
    rw (e, view_append s i a (n - a)) (take_at (view s i a) (view s (i + a) (n - a)) a (view_length s i a))

pub view_drop : (s : List ℕ) (i a n : ℕ) → a ≤ n → drop a (view s i n) ≡ view s (i + a) (n - a)
view_drop s i a n h =
    let e : n ≡ a + (n - a) = omega arith in
    ap (λ (m : ℕ). drop a (view s i m)) e ∙ rw (view_append s i a (n - a)) (drop_at (view s i a) (view s (i + a) (n - a)) a (view_length s i a))

pub value_next : (s : List ℕ) (i k : ℕ) → bits_value (view s i (k + 1)) ≡ bits_value (view s i k) * 2 + get_or s (10 + (i + k) + (i + k) / 4) 0
unfolding bits_value bits_value_from
value_next s i k = rw view_last (value_append 0 (view s i k) (get_or s (10 + (i + k) + (i + k) / 4) 0 ∷ []))

pub value_view : {s : List ℕ} → Below 2 s → (i k : ℕ) → bits_value (view s i k) < 2 ^ k
value_view {s} l i k = rw (view_length s i k) at (value_below (view_below l i k))

pub value_small : {s : List ℕ} → Below 2 s → (i k m : ℕ) → k ≤ m → bits_value (view s i k) < 2 ^ m
value_small l i k m h =
    let a = value_view l i k in
    let b : 2 ^ k ≤ 2 ^ m = pow-le-pow_right (omega arith) h in
    omega arith

-- the bits of a nibble are those of the number that they write
pub remainder_next : {s : List ℕ} → Below 2 s → (r k : ℕ) →
    remainder r (view s 0 (4 * (k + 1))) ≡ remainder (remainder r (view s 0 (4 * k))) (bits 4 (bits_value (view s (4 * k) 4)))
unfolding bits_value
remainder_next {s} l r k =
    let e : 4 * (k + 1) ≡ 4 * k + 4 = omega arith in
    let z : 0 + 4 * k ≡ 4 * k = omega arith in
    let own : bits 4 (bits_value_from 0 (view s (4 * k) 4)) ≡ view s (4 * k) 4 = rw (view_length s (4 * k) 4) at (bits_value_lem (view_below l (4 * k) 4) 0) in
    rw (e, own, view_append s 0 (4 * k) 4, z) (remainder_append r (view s 0 (4 * k)) (view s (4 * k) 4))

-- ---- slots at a place

pub levels_all : (s : List ℕ) → levels s ≡ list_all (λ x. leb x 1) s
unfolding levels
levels_all [] = refl
levels_all (zero ∷ s) = levels_all s
levels_all (suc zero ∷ s) = levels_all s
levels_all (suc (suc x) ∷ s) = rw (lt-ltb 1 (suc (suc x)) (omega arith), lt-leb (suc (suc x)) 1 (omega arith))

module _ (r : Refusal) (p s : List ℕ) (at i : ℕ) where
  pub expected_next : i < length p → at + i < length s →
      expected r (drop i p) (drop (at + i) s)
      ≡ pick (eqb (get_or s (at + i) 0) (get_or p i 0)) (expected r (drop (i + 1) p) (drop (at + (i + 1)) s)) (fault r)
  unfolding expected
  expected_next h k =
      let e : at + i + 1 ≡ at + (i + 1) = omega arith in
      rw (next p i h, next s (at + i) k, e)

  pub expected_cut : i < length p → length s ≤ at + i → expected r (drop i p) (drop (at + i) s) ≡ fault CutShort
  unfolding expected
  expected_cut h k = rw (next p i h, drop_of_length-le s k)

  pub expected_end : length p ≤ i → expected r (drop i p) (drop (at + i) s) ≡ read tt (drop (at + i) s)
  unfolding expected
  expected_end h = rw (drop_of_length-le p h)

-- ---- three plain bits, then a pair

short_plain : (l bs : List ℕ) → length l < 3 → plain_run longest_data l bs ≡ fault CutShort
unfolding plain_run
short_plain [] bs h = refl
short_plain (a ∷ []) bs h = refl
short_plain (a ∷ b ∷ []) bs h = refl
short_plain (a ∷ b ∷ c ∷ l) bs h = absurd (omega arith)

short_pair : (l bs : List ℕ) → length l < 2 → pair_at longest_data l bs ≡ fault CutShort
unfolding plain_run
short_pair [] bs h = refl
short_pair (a ∷ []) bs h = refl
short_pair (a ∷ b ∷ l) bs h = absurd (omega arith)

module _ (s : List ℕ) (j : ℕ) where
  seen_three : view s 0 (4 * j) ++ (get_or s (10 + 5 * j) 0 ∷ get_or s (11 + 5 * j) 0 ∷ get_or s (12 + 5 * j) 0 ∷ []) ≡ seen_bits s j
  unfolding view
  seen_three =
      let a : 10 + (0 + 4 * j) + (0 + 4 * j) / 4 ≡ 10 + 5 * j = omega arith in
      let b : 10 + (0 + 4 * j + 1) + (0 + 4 * j + 1) / 4 ≡ 11 + 5 * j = omega arith in
      let c : 10 + (0 + 4 * j + 1 + 1) + (0 + 4 * j + 1 + 1) / 4 ≡ 12 + 5 * j = omega arith in
      sym (view_append s 0 (4 * j) 3 ∙ rw (a, b, c))

  seen_four : seen_bits s j ++ (get_or s (13 + 5 * j) 0 ∷ []) ≡ view s 0 (4 * (j + 1))
  unfolding view
  seen_four =
      let n : 4 * (j + 1) ≡ 4 * j + 3 + 1 = omega arith in
      let a : 10 + (0 + (4 * j + 3)) + (0 + (4 * j + 3)) / 4 ≡ 13 + 5 * j = omega arith in
      rw n (sym (view_append s 0 (4 * j + 3) 1 ∙ rw a))

  seen_nibbles : nibbles (seen_bits s j) ≡ j
  unfolding nibbles
  seen_nibbles = rw view_length (omega arith)

  three_slots : 13 + 5 * j ≤ length s →
      drop (10 + 5 * j) s ≡ get_or s (10 + 5 * j) 0 ∷ get_or s (11 + 5 * j) 0 ∷ get_or s (12 + 5 * j) 0 ∷ drop (13 + 5 * j) s
  three_slots h =
      let a : 10 + 5 * j + 1 ≡ 11 + 5 * j = omega arith in
      let b : 11 + 5 * j + 1 ≡ 12 + 5 * j = omega arith in
      let c : 12 + 5 * j + 1 ≡ 13 + 5 * j = omega arith in
      next s (10 + 5 * j) (omega arith)
      ∙ rw (a, next s (11 + 5 * j) (omega arith), b, next s (12 + 5 * j) (omega arith), c)

  two_slots : 15 + 5 * j ≤ length s → drop (13 + 5 * j) s ≡ get_or s (13 + 5 * j) 0 ∷ get_or s (13 + 5 * j + 1) 0 ∷ drop (15 + 5 * j) s
  two_slots h =
      let b : 13 + 5 * j + 1 + 1 ≡ 15 + 5 * j = omega arith in
      next s (13 + 5 * j) (omega arith) ∙ rw (next s (13 + 5 * j + 1) (omega arith), b)

  pub plain_on : 13 + 5 * j ≤ length s → plain_run longest_data (drop (10 + 5 * j) s) (view s 0 (4 * j)) ≡ pair_at longest_data (drop (13 + 5 * j) s) (seen_bits s j)
  unfolding plain_run
  plain_on h =
      ap (λ (l : List ℕ). plain_run longest_data l (view s 0 (4 * j))) (three_slots h) ∙ ap (λ (bs : List ℕ). pair_at longest_data (drop (13 + 5 * j) s) bs) seen_three

  pub pair_on : 15 + 5 * j ≤ length s →
      pair_at longest_data (drop (13 + 5 * j) s) (seen_bits s j)
      ≡ pick (eqb (get_or s (13 + 5 * j) 0) (get_or s (13 + 5 * j + 1) 0))
      (pick (eqb (get_or s (13 + 5 * j) 0) 0) (read (seen_bits s j) (drop (15 + 5 * j) s)) (fault Pair))
      (pick (leb (7 + 2 * longest_data) j) (fault Length) (plain_run longest_data (drop (10 + 5 * (j + 1)) s) (view s 0 (4 * (j + 1)))))
  unfolding plain_run most
  pair_on h =
      let n : 10 + 5 * (j + 1) ≡ 15 + 5 * j = omega arith in
      rw (two_slots h, seen_four, seen_nibbles, n)

  pub plain_short : length s - (10 + 5 * j) < 3 → plain_run longest_data (drop (10 + 5 * j) s) (view s 0 (4 * j)) ≡ fault CutShort
  plain_short h = short_plain (drop (10 + 5 * j) s) (view s 0 (4 * j)) (rw length-drop h)

  pub pair_short : length s - (13 + 5 * j) < 2 → pair_at longest_data (drop (13 + 5 * j) s) (seen_bits s j) ≡ fault CutShort
  pair_short h = short_pair (drop (13 + 5 * j) s) (seen_bits s j) (rw length-drop h)

-- ---- the check, the acknowledge and the end

pub right_view : (s : List ℕ) (j : ℕ) → 3 ≤ j →
    right (seen_bits s j) ≡ eqb (bits_value (view s (4 * (j - 3)) 15)) (32767 - remainder all_ones (view s 0 (4 * (j - 3))))
unfolding right check all_ones
right_view s j h =
    let m : 4 * j + 3 - 15 ≡ 4 * (j - 3) = omega arith in
    let n : 4 * j + 3 - 4 * (j - 3) ≡ 15 = omega arith in
    rw (view_length s 0 (4 * j + 3), m, view_take s 0 (4 * (j - 3)) (4 * j + 3) (omega arith), view_drop s 0 (4 * (j - 3)) (4 * j + 3) (omega arith), n, zero-add)

pub whole_odd : (j : ℕ) → whole longest_data j ≡ true → (7 ≤ j) × (j ≤ 7 + 2 * longest_data) × (j % 2 ≡ 1)
unfolding whole most
whole_odd j e =
    let p = both (eqb (j % 2) 1) (pick (leb 7 j) (leb j (7 + 2 * longest_data)) false) e in
    let q = both (leb 7 j) (leb j (7 + 2 * longest_data)) p.1 in
    (leb-true 7 j q.0, leb-true j (7 + 2 * longest_data) q.1, eqb-true (j % 2) 1 p.0)

pub judged_seen : (s t : List ℕ) (j : ℕ) →
    judged longest_data (seen_bits s j) t ≡ pick (whole longest_data j) (pick (right (seen_bits s j)) (closing (seen_bits s j) t) (refused Check)) (refused Length)
unfolding judged
judged_seen s t j = rw (seen_nibbles s j)

pub ack_empty : (t : List ℕ) → length t < 1 → acknowledged t ≡ fault CutShort
unfolding acknowledged
ack_empty [] h = refl
ack_empty (a ∷ t) h = absurd (omega arith)

pub ack_wrong : (t : List ℕ) → 1 ≤ length t → (get_or t 0 0 ≡ 1 → ⊥) → acknowledged t ≡ fault Acknowledge
unfolding acknowledged
ack_wrong [] h n = absurd (omega arith)
ack_wrong (a ∷ t) h n = rw (ne_eqb a 1 n)

pub ack_one : (t : List ℕ) → length t < 2 → get_or t 0 0 ≡ 1 → acknowledged t ≡ fault CutShort
unfolding acknowledged second_slot
ack_one [] h e = refl
ack_one (a ∷ []) h e = rw (eq-eqb a 1 e)
ack_one (a ∷ b ∷ t) h e = absurd (omega arith)

pub ack_two : (t : List ℕ) → 2 ≤ length t → get_or t 0 0 ≡ 1 → acknowledged t ≡ read (eqb (get_or t 1 0) 0) (drop 2 t)
unfolding acknowledged second_slot
ack_two [] h e = absurd (omega arith)
ack_two (a ∷ []) h e = absurd (omega arith)
ack_two (a ∷ b ∷ t) h e = rw (eq-eqb a 1 e)

module _ (bs t : List ℕ) where
  pub closing_fault : {r : Refusal} → acknowledged t ≡ fault r → closing bs t ≡ refused r
  unfolding closing after
  closing_fault e = rw e

  pub closing_end_fault : {a : Bool} {t₁ : List ℕ} {r : Refusal} → acknowledged t ≡ read a t₁ → expected EndOfFrame end_of_frame t₁ ≡ fault r → closing bs t ≡ refused r
  unfolding closing after
  closing_end_fault e d = rw (e, d)

  pub closing_ended : {a : Bool} {t₁ t₂ : List ℕ} → acknowledged t ≡ read a t₁ → expected EndOfFrame end_of_frame t₁ ≡ read tt t₂ → closing bs t ≡ ended (frame_of bs a) t₂
  unfolding closing after
  closing_ended e d = rw (e, d)

pub left_over : (f : Frame) (s : List ℕ) (at : ℕ) → at < length s → ended f (drop at s) ≡ refused LeftOver
unfolding ended
left_over f s at h = rw (next s at h)

pub at_end : (f : Frame) (s : List ℕ) (at : ℕ) → length s ≤ at → ended f (drop at s) ≡ frame f
unfolding ended
at_end f s at h = rw (drop_of_length-le s h)

-- what the decoder's functions found, put together
module _ (bs s : List ℕ) (j : ℕ) where
  pub not_seen : (r : Refusal) → Sees s (15 + 5 * j + 2) (Err r) (acknowledged (drop (15 + 5 * j) s)) → closing bs (drop (15 + 5 * j) s) ≡ refused r
  not_seen r e = closing_fault bs (drop (15 + 5 * j) s) e

  module _ (a : Bool) (seen : Sees s (15 + 5 * j + 2) (Ok a) (acknowledged (drop (15 + 5 * j) s))) where
    moved : acknowledged (drop (15 + 5 * j) s) ≡ read a (drop (17 + 5 * j) s)
    moved = let e : 15 + 5 * j + 2 ≡ 17 + 5 * j = omega arith in seen.1 ∙ rw e

    pub not_ended : (r : Refusal) → Follows s (17 + 5 * j + 8) (Err r) (expected EndOfFrame end_of_frame (drop (17 + 5 * j) s)) → closing bs (drop (15 + 5 * j) s) ≡ refused r
    not_ended r e = closing_end_fault bs (drop (15 + 5 * j) s) moved e

    pub goes_on : (p : ℕ) → Follows s (17 + 5 * j + 8) (Ok p) (expected EndOfFrame end_of_frame (drop (17 + 5 * j) s)) → p < length s → closing bs (drop (15 + 5 * j) s) ≡ refused LeftOver
    goes_on p e h = closing_ended bs (drop (15 + 5 * j) s) moved e.2 ∙ left_over (frame_of bs a) s p h

    pub is_whole : (p : ℕ) → Follows s (17 + 5 * j + 8) (Ok p) (expected EndOfFrame end_of_frame (drop (17 + 5 * j) s)) → length s ≤ p → closing bs (drop (15 + 5 * j) s) ≡ frame (frame_of bs a)
    is_whole p e h = closing_ended bs (drop (15 + 5 * j) s) moved e.2 ∙ at_end (frame_of bs a) s p h

-- ---- the frame

pub count_seen : (s : List ℕ) (j : ℕ) (a : Bool) → 7 ≤ j → length (frame_of (seen_bits s j) a).bytes ≡ (j - 7) / 2
unfolding frame_of
count_seen s j a h =
    let e : (4 * j + 3 - 31) / 8 ≡ (j - 7) / 2 = omega arith in
    rw (view_length s 0 (4 * j + 3), e) (bytes_long ((j - 7) / 2) (drop 16 (seen_bits s j)))

pub head_seen : (s : List ℕ) (j : ℕ) (a : Bool) → 7 ≤ j →
    head_of (frame_of (seen_bits s j) a) ≡ record { identifier = bits_value (view s 0 12); command = bits_value (view s 12 4); count = (j - 7) / 2; acknowledge = a }
unfolding head_of frame_of
head_seen s j a h =
    let i : bits_value (take 12 (seen_bits s j)) ≡ bits_value (view s 0 12) = rw (view_take s 0 12 (4 * j + 3) (omega arith)) in
    let c : bits_value (take 4 (drop 12 (seen_bits s j))) ≡ bits_value (view s 12 4) = rw (view_drop s 0 12 (4 * j + 3) (omega arith), view_take s 12 4 (4 * j + 3 - 12) (omega arith)) in
    λ k. record { identifier = i k; command = c k; count = count_seen s j a h k; acknowledge = a }

pub gives : (s : List ℕ) (j : ℕ) (a : Bool) (h : Head) (r : Reading) → 7 ≤ j → j % 2 ≡ 1 → 25 + 5 * j ≤ length s
    → h ≡ head_of (frame_of (seen_bits s j) a) → r ≡ frame (frame_of (seen_bits s j) a) → Gives s (Ok h) r
unfolding head_of frame_of
gives s j a h r low odd long e d =
    let n : h.count ≡ (j - 7) / 2 = ap (λ (x : Head). x.count) e ∙ count_seen s j a low in
    let k : h.acknowledge ≡ a = ap (λ (x : Head). x.acknowledge) e in
    let m : 31 + 8 * h.count ≡ 4 * j + 3 = omega arith in
    let g : frame_of (seen_bits s j) a ≡ frame_of (view s 0 (31 + 8 * h.count)) h.acknowledge = λ i. frame_of (view s 0 (sym m i)) (sym k i) in
    (e ∙ ap head_of g, d ∙ ap frame g, omega arith)

pub bytes_seen : (s : List ℕ) (n i m : ℕ) → 8 * n ≤ m → bytes_of n (view s i m) ≡ bytes_at s i n
unfolding bytes_of bytes_at
bytes_seen s zero i m h = refl
bytes_seen s (suc n) i m h =
    rw (view_take s i 8 m (omega arith), view_drop s i 8 m (omega arith), bytes_seen s n (i + 8) (m - 8) (omega arith))

pub frame_bytes : (s : List ℕ) (n : ℕ) (a : Bool) → (frame_of (view s 0 (31 + 8 * n)) a).bytes ≡ bytes_at s 16 n
unfolding frame_of
frame_bytes s n a =
    let e : (31 + 8 * n - 31) / 8 ≡ n = omega arith in
    rw (view_length s 0 (31 + 8 * n), e, view_drop s 0 16 (31 + 8 * n) (omega arith)) (bytes_seen s n 16 (31 + 8 * n - 16) (omega arith))

pub begun : (s : List ℕ) (p : ℕ) (r : Read (Unit {0})) → Follows s 10 (Ok p) r → r ≡ read tt (drop 10 s)
begun s p r f = f.2 ∙ ap (λ (k : ℕ). read tt (drop k s)) f.0

module _ (s : List ℕ) where
  pub bad_level : levels s ≡ false → reading longest_data s ≡ refused Level
  unfolding reading
  bad_level e = rw e

  module _ (l : levels s ≡ true) where
    pub bad_start : (r : Refusal) → expected Start start s ≡ fault r → reading longest_data s ≡ refused r
    unfolding reading after
    bad_start r e = rw (l, e)

    module _ (b : expected Start start s ≡ read tt (drop 10 s)) where
      pub bad_code : (r : Refusal) → plain_run longest_data (drop 10 s) [] ≡ fault r → reading longest_data s ≡ refused r
      unfolding reading after
      bad_code r e = rw (l, b, e)

      pub coded : (bs t : List ℕ) → plain_run longest_data (drop 10 s) [] ≡ read bs t → reading longest_data s ≡ judged longest_data bs t
      unfolding reading after
      coded bs t e = rw (l, b, e)

pub fill_next : (s room : List ℕ) (k : ℕ) → k < length room →
    take (k + 1) (set room k (bits_value (view s (16 + 8 * k) 8))) ++ bytes_at s (16 + 8 * (k + 1)) (length room - (k + 1))
    ≡ take k room ++ bytes_at s (16 + 8 * k) (length room - k)
unfolding bytes_at
fill_next s room k h =
    let n : length room - k ≡ suc (length room - (k + 1)) = omega arith in
    let i : 16 + 8 * (k + 1) ≡ 16 + 8 * k + 8 = omega arith in
    let v : ℕ = bits_value (view s (16 + 8 * k) 8) in
    rw (take_more_set room k v h, n, i) (append_assoc (take k room) (v ∷ []) (bytes_at s (16 + 8 * k + 8) (length room - (k + 1))))

pub fill_end : (s room : List ℕ) (k : ℕ) → length room ≤ k → take k room ++ bytes_at s (16 + 8 * k) (length room - k) ≡ room
unfolding bytes_at
fill_end s room k h = let n : length room - k ≡ 0 = omega arith in rw (n, take_all k room h) (append-nil room)

-- ---- the answer and the lent room

pub room_refused : (room : List ℕ) (r : Refusal) (x : Reading) → x ≡ refused r → (Err r ≡ decoded (length room) x) × (room ≡ decoded_room room x)
unfolding decoded decoded_room
room_refused room r x e = (rw e, rw e)

module _ (s room : List ℕ) (h : Head) (x : Reading) (g : Gives s (Ok h) x) where
  count_is : h.count ≡ length (frame_of (view s 0 (31 + 8 * h.count)) h.acknowledge).bytes
  unfolding head_of
  count_is = ap (λ (y : Head). y.count) g.0

  pub room_short : length room < h.count → (Err Room ≡ decoded (length room) x) × (room ≡ decoded_room room x)
  unfolding decoded decoded_room
  room_short k =
      let t = lt-ltb (length room) (length (frame_of (view s 0 (31 + 8 * h.count)) h.acknowledge).bytes) (rw (← count_is) k) in
      (rw (g.1, t), rw (g.1, t))

  pub room_filled : h.count ≤ length room → (Ok h ≡ decoded (length room) x) × (bytes_at s 16 h.count ++ drop h.count room ≡ decoded_room room x)
  unfolding decoded decoded_room laid
  room_filled k =
      let t = le-ltb (length room) (length (frame_of (view s 0 (31 + 8 * h.count)) h.acknowledge).bytes) (rw (← count_is) k) in
      let b = frame_bytes s h.count h.acknowledge in
      (rw (g.1, t) (ap Ok g.0), rw (g.1, t, ← count_is, b) refl)
