use Rattle.std.proofs.Common.{length}
use Rattle.session_cases.proofs.lines.Given as goal

-- Each line is one byte or more.
abbrev pub decreases-loop-rest : goal.decreases-loop-rest
decreases-loop-rest g l = length l.rest
