use Rattle.every_run.proofs.Observer.EveryRun.{demand_3}
use Rattle.every_run.proofs.sending_claims.Goals as goal

pub returns : goal.returns
returns c = record { kept = demand_3 }
