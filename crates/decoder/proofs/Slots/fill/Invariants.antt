use Rattle.std.proofs.Common.{◌≡◌, ◌+◌, ◌*◌, ◌-◌, ◌++◌, length, take}
use Rattle.decoder.specs.View.{bytes_at}
use Rattle.decoder.proofs.Slots.fill.Given as goal

abbrev pub invariant-loop-k : goal.invariant-loop-k
invariant-loop-k l =
    take l.k l.room ++ bytes_at l.self.levels.now (16 + 8 * l.k) (length l.room - l.k) ≡ bytes_at l.self.levels.now 16 (length l.room)
