use Rattle.bench_record.proofs.FirstLines.{first_events, before_a_fault}
use Rattle.bench_record.proofs.first_lines.Goals as goal

pub returns : goal.returns
returns c = record { first = first_events; fault = before_a_fault }
