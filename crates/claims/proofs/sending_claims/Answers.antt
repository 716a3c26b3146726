use Rattle.std.proofs.Common.{List, [], ◌∷◌, ◌++◌}
use Rattle.std.proofs.Common.{◌≡◌, refl}
use Rattle.rules.specs.Definitions.Run.{step, next, after}
use Rattle.rules.specs.declared.Controller.{Controller}
use Rattle.rules.specs.declared.Event.{Event}
use Rattle.every_run.proofs.Observer.EveryRun.{demand_3}
use Rattle.closed_runs.proofs.ClosedRuns.{runs}
use Rattle.claims.proofs.sending_claims.Goals as goal

chain : (c : Controller) (es : List Event) (e : Event) → after c (es ++ (e ∷ [])) ≡ (step (after c es) e).next
unfolding after next
chain c [] e = refl
chain c (x ∷ es) e = chain (next c x) es e

pub returns : goal.returns
returns c = record { chained = chain; kept = demand_3; runs = runs }
