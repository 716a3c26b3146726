use Rattle.every_run.proofs.OwnFrames.EveryRun.{own_frames}
use Rattle.every_run.proofs.own_claims.Goals as goal

pub returns : goal.returns
returns c = own_frames
