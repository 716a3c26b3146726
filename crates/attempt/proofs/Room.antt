-- A slot that goes on has one behind it; there the place goes by the rule.
use Prim.Native.Nat.{ℕ, ◌+◌, ◌<◌}
use lib.Dec.{eqb, ltb}
use native.Mathlib.Omega.{arith}
use mathlib.Core.Path.{◌≡◌, refl}
use borrow.Author.Tests.{ltb-true, lt-ltb}
use Rattle.line.specs.Frame.{size}
use Rattle.line.specs.Layout.{part_of, half_of}
use Rattle.line.proofs.Laws.{picked}
use Rattle.rules.specs.Definitions.Registers.{both, CV, ACKE, FCSE}
use Rattle.rules.specs.Definitions.Mailbox.{asks_reply}
use Rattle.rules.specs.Definitions.Attempt.{rtr_slot, open_half, arbitrated, in_check, in_acknowledge, difference_in, difference, advance}
use Rattle.rules.specs.Definitions.Service.{good_for, answered_as}
use Rattle.rules.specs.declared.Delivery.{Delivery}
use Rattle.rules.specs.declared.Delivery.TheVariants.{Nothing, Stored, Overflowed, Spoiled}
use Rattle.rules.specs.declared.Hearing.{Hearing}
use Rattle.rules.specs.declared.Hearing.TheVariants.{Silent, Follows, Fault, Good}
use Rattle.rules.specs.declared.Verdict.{Verdict}
use Rattle.rules.specs.declared.Effort.{Effort}
use Rattle.rules.specs.declared.Verdict.TheVariants.{Unjudged, Goes, Lost, Failed, Done, Answered}
use Rattle.attempt.specs.Following.{following, next_place, advanced}
use Rattle.attempt.specs.Level.{due_level, judge_level}

Room : ℕ → Verdict → Type 0
Room k w = following w k < 65536

module _ (k : ℕ) where
  pub ends : (n d : ℕ) → following (difference n k d) k < 65536
  unfolding Room following difference difference_in
  ends n d =
      let p = part_of n k in
      let o = both (eqb d 1) (open_half (half_of n k)) in
      picked (Room k) (both o (arbitrated p)) Lost _ (λ e. omega arith)
      (λ e. picked (Room k) (both o (in_check p)) (Failed FCSE) _ (λ e. omega arith)
      (λ e. picked (Room k) (in_acknowledge p) (Failed ACKE) (Failed CV) (λ e. omega arith) (λ e. omega arith)))

  pub room : (n low d v : ℕ) → n < 256 → following (judge_level n low k d v) k < 65536
  unfolding Room following judge_level size
  room n low d v h =
      picked (Room k) (eqb v (due_level n low k d)) _ _
      (λ e. picked (Room k) (ltb (k + 1) (size n)) Goes Done (λ i. let j = ltb-true (k + 1) (size n) i in omega arith) (λ i. omega arith))
      (λ e. picked (Room k) (both (eqb k rtr_slot) (asks_reply low)) Answered _ (λ i. omega arith) (λ i. ends n d))

  pub good_room : (d : Delivery) → following (good_for d) k < 65536
  unfolding Room following good_for
  good_room Nothing = omega arith
  good_room Stored = omega arith
  good_room Overflowed = omega arith
  good_room Spoiled = omega arith

  pub awaited_room : (h : Hearing) (d : Delivery) → following (answered_as h d) k < 65536
  unfolding Room following answered_as
  awaited_room Silent d = omega arith
  awaited_room Follows d = omega arith
  awaited_room (Fault code) d = omega arith
  awaited_room Good d = good_room d

-- ---- where the next slot has its number

pub next_is : (at : ℕ) → at + 1 < 65536 → next_place at ≡ at + 1
unfolding next_place
next_is at h = rw (lt-ltb at 65535 (omega arith))

pub advanced_is : (w : Verdict) (e : Effort) → following w e.progress.at < 65536 → advanced w e ≡ advance w e
unfolding following advanced advance
advanced_is Unjudged e h = refl
advanced_is Goes e h = rw (next_is e.progress.at h)
advanced_is Lost e h = refl
advanced_is (Failed code) e h = refl
advanced_is Done e h = refl
advanced_is Answered e h = refl
