use Rattle.std.proofs.Common.{◌≡◌, ◌++◌, ◌*◌, take, drop}
use Rattle.std.specs.Prelude.{flat_map}
use Rattle.line.specs.LineCode.{pattern}
use Rattle.encoder.proofs.put_nibbles.Given as goal

abbrev pub invariant-loop-k : goal.invariant-loop-k
invariant-loop-k l =
    take (5 * l.k) l.slots ++ flat_map pattern (drop l.k l.nibbles) ≡ flat_map pattern l.nibbles
