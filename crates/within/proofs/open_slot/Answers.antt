use Rattle.within.proofs.Refusals.{not_refused}
use Rattle.within.proofs.open_slot.Goals as goal

pub returns-in-Drives-clause-kept : goal.returns-in-Drives-clause-kept
returns-in-Drives-clause-kept c = not_refused _ _ _ _ _
