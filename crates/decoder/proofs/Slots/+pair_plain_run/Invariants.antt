use Rattle.std.proofs.Common.{◌+◌, ◌*◌, ◌-◌, length}
use Rattle.decoder.proofs.Slots.+pair_plain_run.Given as goal

-- the slots left
abbrev pub decreases-pair : goal.decreases-pair
decreases-pair l = length l.self.now.levels.now - (13 + 5 * l.j)

abbrev pub decreases-plain_run : goal.decreases-plain_run
decreases-plain_run l = length l.self.now.levels.now - (10 + 5 * l.j)
