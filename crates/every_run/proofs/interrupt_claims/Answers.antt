use Rattle.every_run.proofs.Interrupts.Raised.{interrupts}
use Rattle.every_run.proofs.interrupt_claims.Goals as goal

pub returns : goal.returns
returns c = interrupts
