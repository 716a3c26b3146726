use Rattle.closed_runs.proofs.ClosedRuns.{received, runs, courses}
use Rattle.closed_runs.proofs.run_claims.Goals as goal

pub returns : goal.returns
returns c = record { received = received; runs = runs; courses = courses }
