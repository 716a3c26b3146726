use Rattle.line.proofs.Checked.{checked}
use Rattle.line.proofs.check_claims.Goals as goal

pub returns : goal.returns
returns c = checked
