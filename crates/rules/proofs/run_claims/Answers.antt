use Rattle.rules.proofs.ClosedRuns.{courses}
use Rattle.rules.proofs.run_claims.Goals as goal

pub returns : goal.returns
returns c = courses
