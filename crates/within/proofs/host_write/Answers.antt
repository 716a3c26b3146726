use Rattle.within.proofs.Refusals.{not_refused}
use Rattle.within.proofs.host_write.Goals as goal

pub returns-then-kept_alone-clause-kept : goal.returns-then-kept_alone-clause-kept
returns-then-kept_alone-clause-kept c = not_refused _ _ _ _ _
