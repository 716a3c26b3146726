use Rattle.bench_record.proofs.BadLines.{bad_lines}
use Rattle.bench_record.proofs.bad_lines.Goals as goal

pub returns : goal.returns
returns c = bad_lines
