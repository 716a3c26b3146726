use Rattle.std.proofs.Common.{◌≡◌, ◌++◌, ◌*◌, take, drop}
use Rattle.line.specs.LineCode.{line_code}
use Rattle.line.specs.Frame.{byte_bits}
use Rattle.encoder.proofs.put_bytes.Given as goal

abbrev pub invariant-loop-k : goal.invariant-loop-k
invariant-loop-k l =
    take (10 * l.k) l.slots ++ line_code (byte_bits (drop l.k l.bytes)) ≡ line_code (byte_bits l.bytes)
