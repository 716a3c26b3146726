use Rattle.every_run.proofs.Receiving.EveryRun.{delivery}
use Rattle.every_run.proofs.receiving_claims.Goals as goal

pub returns : goal.returns
returns c = record { kept = delivery }
