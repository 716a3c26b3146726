use Rattle.diagnosis.proofs.ClosedRuns.{courses}
use Rattle.every_run.proofs.Wires.EveryRun.{diagnosed_every}
use Rattle.claims.proofs.diagnosis_claims.Goals as goal

pub returns : goal.returns
returns c = record { wires = diagnosed_every; runs = courses }
