use Rattle.rules.proofs.Resets.{reset_read, reset_leaves}
use Rattle.rules.proofs.reset_claims.Goals as goal

pub returns : goal.returns
returns c = record { reads = reset_read; leaves = reset_leaves }
