use Rattle.every_run.proofs.Ranges.Reach.{refused_same, refused_value}
use Rattle.every_run.proofs.Ranges.Counting.{never_six, never_refused_six}
use Rattle.every_run.proofs.refusal_claims.Goals as goal

pub returns : goal.returns
returns c = record { same = refused_same; zero_elsewhere = refused_value; always_in_range = never_six; never_six = never_refused_six }
