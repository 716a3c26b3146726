use Rattle.every_run.proofs.Wires.EveryRun.{diagnosed_every}
use Rattle.every_run.proofs.diagnosis_claims.Goals as goal

pub returns : goal.returns
returns c = diagnosed_every
