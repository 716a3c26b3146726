use Prim.Native.Nat.{ℕ}
use mathlib.Core.Bool.{true, ◌&&◌}
use mathlib.Core.List.{[], ◌∷◌}
use mathlib.Core.Path.{◌∙◌}
use Rattle.line.specs.Frame.{size}
use Rattle.rules.specs.Definitions.State.{ranges, in_range}
use Rattle.ranges.proofs.Rows.{joined, joined_within}
use Rattle.row.specs.Row.{byte_at, core_by, core_of}
use Rattle.row.proofs.in_range.Goals as goal

pub returns : goal.returns
unfolding in_range ranges size core_of core_by
returns c =
    let b : ℕ → ℕ = byte_at c.args.s.now in
    (λ i.
    joined
    (joined true
    ((b 0, 15)
    ∷ (b 1, 13)
    ∷ (b 2, 15)
    ∷ (b 3, 13)
    ∷ (b 4, 32)
    ∷ (b 5, 12)
    ∷ (b 6, 9)
    ∷ (b 7, 67)
    ∷ (b 8, 15)
    ∷ (b 9, 13)
    ∷ (b 17, 127)
    ∷ (b 10, 31)
    ∷ (b 11, 13)
    ∷ (b 12, 30)
    ∷ (b 13, 15)
    ∷ (c.half.ensures i, 359)
    ∷ (c.word.ensures i, 15)
    ∷ (b 14, 13)
    ∷ (c.half-2.ensures i, 359)
    ∷ (b 15, 30)
    ∷ (b 16, 7)
    ∷ (c.word-2.ensures i, 8)
    ∷ [])
    && c.period_in_range.ensures i)
    ((c.word-3.ensures i, 4)
    ∷ (c.word-4.ensures i, 4)
    ∷ (c.word-5.ensures i, 4)
    ∷ []))
    ∙ joined_within true (ranges _ (core_of c.args.s.now))
