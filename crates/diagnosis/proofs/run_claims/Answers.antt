use Rattle.diagnosis.proofs.ClosedRuns.{courses}
use Rattle.diagnosis.proofs.run_claims.Goals as goal

pub returns : goal.returns
returns c = courses
