use Prim.Native.Nat.{◌-◌, ◌+◌}
use mathlib.Core.Path.{◌≡◌}
use lib.Seq.{sets}
use Rattle.rules.specs.Definitions.Mailbox.{mailbox_bytes}
use Rattle.memory.proofs.copy.Given as goal

abbrev pub invariant-loop-k : goal.invariant-loop-k
invariant-loop-k l =
    sets l.initial.bytes 2 (mailbox_bytes l.m l.pointer 1 l.n) ≡ sets l.bytes (l.k + 2) (mailbox_bytes l.m l.pointer (l.k + 1) (l.n - l.k))
