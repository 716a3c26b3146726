use Prim.Native.Nat.{◌<◌, ◌^◌}
use mathlib.Core.Path.{◌≡◌}
use lib.ListN.{drop}
use Rattle.line.specs.Check.{remainder}
use Rattle.line.specs.Frame.{byte_bits}
use Rattle.frame_check.proofs.bytes_divided.Given as goal

abbrev pub invariant-loop-byte : goal.invariant-loop-byte
invariant-loop-byte l =
    (l.r < 2 ^ 15) × (remainder l.remainder (byte_bits l.bytes) ≡ remainder l.r (byte_bits (drop l.byte-index l.bytes)))
