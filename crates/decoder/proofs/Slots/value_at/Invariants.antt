use Rattle.std.proofs.Common.{◌≡◌}
use Rattle.line.specs.Bits.{bits_value}
use Rattle.decoder.specs.View.{view}
use Rattle.decoder.proofs.Slots.value_at.Given as goal

abbrev pub invariant-loop-k : goal.invariant-loop-k
invariant-loop-k l =
    l.x ≡ bits_value (view l.self.levels.now l.i l.k)
