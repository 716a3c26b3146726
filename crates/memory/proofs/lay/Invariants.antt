use Prim.Native.Nat.{◌+◌}
use mathlib.Core.Path.{◌≡◌}
use lib.ListN.{drop}
use Rattle.rules.specs.Definitions.Mailbox.{laid_from}
use Rattle.memory.proofs.lay.Given as goal

abbrev pub invariant-loop-k : goal.invariant-loop-k
invariant-loop-k l =
    laid_from l.initial.m l.pointer 1 l.bytes ≡ laid_from l.m l.pointer (l.k + 1) (drop l.k l.bytes)
