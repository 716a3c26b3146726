use Prim.Native.Nat.{◌≤◌, ◌+◌}
use mathlib.Core.Path.{◌≡◌}
use lib.ListN.{length, drop}
use lib.Seq.{sets}
use Rattle.player.proofs.lay.Given as goal

abbrev pub invariant-loop-k : goal.invariant-loop-k
invariant-loop-k l =
    (l.k ≤ length l.text) × (length l.room ≡ length l.initial.room) × (sets l.initial.room l.at l.text ≡ sets l.room (l.at + l.k) (drop l.k l.text))
