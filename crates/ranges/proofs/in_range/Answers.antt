use mathlib.Core.Bool.{true}
use Rattle.line.specs.Frame.{size}
use Rattle.rules.specs.Definitions.State.{ranges, in_range}
use Rattle.ranges.proofs.Rows.{joined_within}
use Rattle.ranges.proofs.in_range.Goals as goal

pub returns : goal.returns
unfolding in_range ranges size
returns c =
    rw c.divider-divider.ensures (joined_within true (ranges _ c.args.k.now))
