-- What a sample may be for an attempt.
--   Judged == in slot k of the fixed frame        Tried == for an effort, with no attempt too
use Prim.Native.Nat.{ℕ, ◌+◌, ◌*◌, ◌≤◌, ◌<◌}
use mathlib.Core.Bool.{Bool, true, false, false≢true}
use mathlib.Core.Path.{◌≡◌}
use native.Mathlib.Omega.{arith}
use borrow.Author.Tests.{ltb-true, ltb-false, eqb-true, eqb-false}
use lib.Dec.{eqb, ltb}
use Rattle.line.specs.Frame.{size}
use Rattle.line.specs.Layout.{part_of, half_of, in_five}
use Rattle.line.proofs.Laws.{picked}
use Rattle.line.specs.declared.Part.{Part}
use Rattle.line.specs.declared.Part.TheVariants.{Start, Identifier, Command, Data, Check, EndOfData, Acknowledge, EndOfFrame, After}
use Rattle.line.specs.declared.Half.{Half}
use Rattle.line.specs.declared.Half.TheVariants.{Plain, First, Second}
use Rattle.rules.specs.Definitions.Registers.{both, CV, ACKE, FCSE}
use Rattle.rules.specs.Definitions.Attempt.{rtr_slot, is_request, level_at, due, open_half, arbitrated, in_check, in_acknowledge, difference_in, difference, judge_slot}
use Rattle.rules.proofs.Logic.{both_true}
use Rattle.rules.specs.declared.Coded.{Coded}
use Rattle.rules.specs.declared.Effort.{Effort}
use Rattle.rules.specs.declared.Verdict.{Verdict}
use Rattle.rules.specs.declared.Verdict.TheVariants.{Unjudged, Goes, Lost, Failed, Done, Answered}

-- an attempt goes on only inside its frame; contention is lost only in a plain bit or first half of identifier, command or data; an error's code fits the register
pub data Judged (x : Coded) (k v : ℕ) : Verdict → Type 0 where
  went : v ≡ due x k → k + 1 < size x.n → Judged x k v Goes
  lost : 10 ≤ k → k < 30 + 10 * x.n → in_five k < 4 → Judged x k v Lost
  broke : (code : ℕ) → code ≤ 32 → Judged x k v (Failed code)
  done : Judged x k v Done
  answered : k ≡ rtr_slot → is_request x ≡ true → (v ≡ due x k → ⊥) → Judged x k v Answered

no : {A : Type 0} → false ≡ true → A
no e = absurd (false≢true e)

arbitrated_in : (n k : ℕ) → arbitrated (part_of n k) ≡ true → (10 ≤ k) × (k < 30 + 10 * n)
unfolding part_of arbitrated
arbitrated_in n k =
    picked P (ltb k 10) Start _ (λ e. no) λ e₁.
    picked P (ltb k 25) Identifier _ (λ e h. (ltb-false k 10 e₁, omega (arith, ltb-true))) λ e₂.
    picked P (ltb k 30) Command _ (λ e h. (ltb-false k 10 e₁, omega (arith, ltb-true))) λ e₃.
    picked P (ltb k (30 + 10 * n)) Data _ (λ e h. (ltb-false k 10 e₁, ltb-true k (30 + 10 * n) e)) λ e₄.
    picked P (ltb k (48 + 10 * n)) Check _ (λ e. no) λ e₅.
    picked P (ltb k (50 + 10 * n)) EndOfData _ (λ e. no) λ e₆.
    picked P (ltb k (52 + 10 * n)) Acknowledge _ (λ e. no) λ e₇.
    picked P (ltb k (60 + 10 * n)) EndOfFrame After (λ e. no) (λ e. no)
  where
    P : Part → Type 0
    P p = arbitrated p ≡ true → (10 ≤ k) × (k < 30 + 10 * n)

open_in : (n k : ℕ) → 10 ≤ k → k < 30 + 10 * n → open_half (half_of n k) ≡ true → in_five k < 4
unfolding half_of open_half
open_in n k a b =
    picked P (ltb k 10) Plain _ (λ e h. absurd (omega (arith, ltb-true))) λ e₁.
    picked P (ltb k (50 + 10 * n)) _ Plain
    (λ e₂. picked P (ltb (in_five k) 3) Plain _ (λ e h. omega (arith, ltb-true))
    (λ e. picked P (eqb (in_five k) 3) First Second (λ d h. omega (arith, eqb-true)) (λ d. no)))
    (λ e₂ h. absurd (omega (arith, ltb-false)))
  where
    P : Half → Type 0
    P h = open_half h ≡ true → in_five k < 4

module _ (x : Coded) (k v : ℕ) where
  difference_judged : (d : ℕ) → Judged x k v (difference x.n k d)
  unfolding difference difference_in
  difference_judged d =
      let p : Part = part_of x.n k in
      let o : Bool = both (eqb d 1) (open_half (half_of x.n k)) in
      picked (Judged x k v) (both o (arbitrated p)) Lost _ (λ e. overdriven (both_true o (arbitrated p) e))
      (λ e. picked (Judged x k v) (both o (in_check p)) (Failed FCSE) _ (λ e. broke FCSE (omega arith))
      (λ e. picked (Judged x k v) (in_acknowledge p) (Failed ACKE) (Failed CV) (λ e. broke ACKE (omega arith)) (λ e. broke CV (omega arith))))
    where
      overdriven : (both (eqb d 1) (open_half (half_of x.n k)) ≡ true) × (arbitrated (part_of x.n k) ≡ true) → Judged x k v Lost
      overdriven h =
          let i = arbitrated_in x.n k h.1 in
          lost i.0 i.1 (open_in x.n k i.0 i.1 (both_true (eqb d 1) (open_half (half_of x.n k)) h.0).1)

  pub slot_judged : Judged x k v (judge_slot x k v)
  unfolding judge_slot
  slot_judged =
      picked (Judged x k v) (eqb v (due x k)) _ _
      (λ e. picked (Judged x k v) (ltb (k + 1) (size x.n)) Goes Done (λ d. went (eqb-true v (due x k) e) (ltb-true _ _ d)) (λ d. done))
      (λ e. picked (Judged x k v) (both (eqb k rtr_slot) (is_request x)) Answered _
      (λ d. let h = both_true (eqb k rtr_slot) (is_request x) d in answered (eqb-true k rtr_slot h.0) h.1 (eqb-false v (due x k) e))
      (λ d. difference_judged (level_at x k)))

-- in an attempt that another module answers
pub data Awaited : Verdict → Type 0 where
  on : Awaited Answered
  broken : (code : ℕ) → code ≤ 32 → Awaited (Failed code)
  fulfilled : Awaited Done

pub data Tried (e : Effort) (v : ℕ) : Verdict → Type 0 where
  unjudged : Tried e v Unjudged
  awaited : {w : Verdict} → Awaited w → Tried e v w
  judged : {w : Verdict} → Judged e.frame e.progress.at v w → Tried e v w
