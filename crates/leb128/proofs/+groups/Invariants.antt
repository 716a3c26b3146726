-- The groups left fall with each group read.
use Rattle.leb128.proofs.+groups.Given as goal

abbrev pub decreases-groups : goal.decreases-groups
decreases-groups l = l.left
