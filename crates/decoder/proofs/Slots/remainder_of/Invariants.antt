use Rattle.std.proofs.Common.{◌≡◌, ◌*◌}
use Rattle.line.specs.Check.{remainder, all_ones}
use Rattle.decoder.specs.View.{view}
use Rattle.decoder.proofs.Slots.remainder_of.Given as goal

abbrev pub invariant-loop-k : goal.invariant-loop-k
invariant-loop-k l =
    l.r ≡ remainder all_ones (view l.self.levels.now 0 (4 * l.k))
