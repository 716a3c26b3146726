-- The level at each place of a frame's slots. The laws of the first part are over a row of coded bits.
use Prim.Native.Nat.{ℕ, zero, suc, ◌+◌, ◌-◌, ◌*◌, ◌≤◌, ◌<◌}
use mathlib.Core.Bool.{Bool, true, false}
use mathlib.Core.List.{List, ◌++◌}
use mathlib.Core.Path.{◌≡◌, refl, ap, ◌∙◌, sym}
use native.Mathlib.Omega.{arith}
use lib.Dec.{ltb}
use lib.ListN.{length, get_or, replicate, get_or-append}
use lib.Seq.{get_or-append-add}
use borrow.Author.Tests.{ltb-true, ltb-false}
use Rattle.line.specs.declared.Part.{Part}
use Rattle.line.specs.declared.Part.TheVariants.{Start, Identifier, Command, Data, Check, EndOfData, Acknowledge, EndOfFrame, After}
use Rattle.line.specs.LineCode.{line_code}
use Rattle.line.specs.Frame.{Frame, carried, slots, slots_of, closing_slots, start, end_of_data, end_of_frame, acknowledge_slots}
use Rattle.line.specs.Layout.{part_of, in_five, bit_of, coded_level, level_in, level_of}
use Rattle.line.proofs.Laws.{code_length, code_at, carried_length, acknowledge_length, picked}

pub ones : (n i : ℕ) → get_or {A = ℕ} (replicate n 1) i 1 ≡ 1
ones zero i = refl
ones (suc n) zero = refl
ones (suc n) (suc i) = ones n i

-- ---- coded bits s, an acknowledge a, slot k

module _ (s : List ℕ) (a : Bool) (k : ℕ) where
  abbrev level : ℕ
  level = get_or (slots_of s a) k 1

  pub in_start : k < 10 → get_or start k 1 ≡ level
  unfolding start
  in_start h = sym (get_or-append start (line_code s ++ closing_slots a) 1 k h)

  pub in_code_lem : (i : ℕ) → k ≡ 10 + i → i < length (line_code s) → get_or (line_code s) i 1 ≡ level
  unfolding start
  in_code_lem i e h =
      sym (ap (λ (j : ℕ). get_or (slots_of s a) j 1) e ∙ get_or-append-add start (line_code s ++ closing_slots a) i 1 ∙ get_or-append (line_code s) (closing_slots a) 1 i h)

  in_closing : (i : ℕ) → k ≡ 10 + (length (line_code s) + i) → get_or (closing_slots a) i 1 ≡ level
  unfolding start
  in_closing i e =
      sym
      (ap (λ (j : ℕ). get_or (slots_of s a) j 1) e ∙ get_or-append-add start (line_code s ++ closing_slots a) (length (line_code s) + i) 1
      ∙ get_or-append-add (line_code s) (closing_slots a) i 1)

  pub in_end_of_data : 10 + length (line_code s) ≤ k → k < 12 + length (line_code s) → 0 ≡ level
  unfolding end_of_data
  in_end_of_data g h = two (k - (10 + length (line_code s))) (omega arith) ∙ in_closing (k - (10 + length (line_code s))) (omega arith)
    where
      two : (i : ℕ) → i < 2 → 0 ≡ get_or (closing_slots a) i 1
      two zero h = refl
      two (suc zero) h = refl
      two (suc (suc i)) h = absurd (omega arith)

  pub in_acknowledge : (i : ℕ) → k ≡ 12 + (length (line_code s) + i) → i < 2 → get_or (acknowledge_slots a) i 1 ≡ level
  unfolding end_of_data
  in_acknowledge i e h =
      sym (get_or-append (acknowledge_slots a) end_of_frame 1 i (rw acknowledge_length h)) ∙ in_closing (suc (suc i)) (omega arith)

  -- the line is recessive past the frame too
  pub in_end : 14 + length (line_code s) ≤ k → 1 ≡ level
  unfolding end_of_data end_of_frame
  in_end h =
      let j : ℕ = k - (14 + length (line_code s)) in
      let l = acknowledge_length a in
      sym (get_or-append-add (acknowledge_slots a) end_of_frame j 1 ∙ ones 8 j)
      ∙ in_closing (suc (suc (length (acknowledge_slots a) + j))) (omega arith)

-- both acknowledge slots recessive: so is all that follows the end of data
pub recessive : (s : List ℕ) (k : ℕ) → 12 + length (line_code s) ≤ k → 1 ≡ get_or (slots_of s false) k 1
unfolding acknowledge_slots
recessive s k h = go (ltb k (14 + length (line_code s))) refl
  where
    go : (t : Bool) → ltb k (14 + length (line_code s)) ≡ t → 1 ≡ get_or (slots_of s false) k 1
    go true e =
        let i : ℕ = k - (12 + length (line_code s)) in
        sym (ones 2 i) ∙ in_acknowledge s false k i (omega arith) (omega (arith, ltb-true))
    go false e = in_end s false k (ltb-false k (14 + length (line_code s)) e)

-- ---- a frame's slots

module _ (f : Frame) (k : ℕ) where
  abbrev m : ℕ
  m = length f.bytes

  code_long : length (line_code (carried f)) ≡ 38 + 10 * m
  code_long = rw (code_length, carried_length) (omega arith)

  coded : 10 ≤ k → k < 48 + 10 * m → coded_level f k ≡ get_or (slots f) k 1
  unfolding slots coded_level in_five bit_of
  coded g h =
      let l = code_long in
      sym (code_at (carried f) (k - 10) (omega arith)) ∙ in_code_lem (carried f) f.acknowledge k (k - 10) (omega arith) (omega arith)

  -- the level of slot k is the k-th element of the frame's slots; past them the line is recessive
  pub level_at_lem : level_of f k ≡ get_or (slots f) k 1
  unfolding level_of part_of level_in slots
  level_at_lem =
      picked P (ltb k 10) Start _ (λ e. in_start s a k (ltb-true k 10 e)) λ e₁.
      picked P (ltb k 25) Identifier _ (λ e. coded (ltb-false k 10 e₁) (omega (arith, ltb-true))) λ e₂.
      picked P (ltb k 30) Command _ (λ e. coded (ltb-false k 10 e₁) (omega (arith, ltb-true))) λ e₃.
      picked P (ltb k (30 + 10 * m)) Data _ (λ e. coded (ltb-false k 10 e₁) (omega (arith, ltb-true))) λ e₄.
      picked P (ltb k (48 + 10 * m)) Check _ (λ e. coded (ltb-false k 10 e₁) (omega (arith, ltb-true))) λ e₅.
      picked P (ltb k (50 + 10 * m)) EndOfData _ (λ e. in_end_of_data s a k (omega (arith, l, ltb-false)) (omega (arith, l, ltb-true))) λ e₆.
      picked P (ltb k (52 + 10 * m)) Acknowledge _ (λ e. in_acknowledge s a k (k - (50 + 10 * m)) (omega (arith, l, ltb-false)) (omega (arith, ltb-true))) λ e₇.
      picked P (ltb k (60 + 10 * m)) EndOfFrame After (λ e. in_end s a k (omega (arith, l, ltb-false))) λ e₈.
      in_end s a k (omega (arith, l, ltb-false))
    where
      s : List ℕ
      s = carried f

      a : Bool
      a = f.acknowledge

      l : length (line_code s) ≡ 38 + 10 * m
      l = code_long

      P : Part → Type 0
      P p = level_in f k p ≡ get_or (slots f) k 1
