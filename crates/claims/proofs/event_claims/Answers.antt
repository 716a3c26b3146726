use Rattle.every_run.proofs.Observer.EveryRun.{settled_over}
use Rattle.claims.proofs.event_claims.Goals as goal

pub returns : goal.returns
returns c = record { settled = settled_over }
