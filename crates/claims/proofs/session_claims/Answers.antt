use Rattle.std.proofs.Common.{ℕ, ◌≤◌}
use Rattle.std.proofs.Common.{subst}
use Rattle.std.proofs.Common.{length}
use Rattle.leb128.proofs.RoundTrip as leb128
use Rattle.leb128.proofs.Figure.{looked}
use Rattle.session.specs.Reading.{most_events}
use Rattle.session.proofs.Sessions as sessions
use Rattle.bench_record.proofs.FirstLines.{first_events, before_a_fault}
use Rattle.bench_record.proofs.BadLines.{bad_lines}
use Rattle.claims.specs.Claims.{Sessions}
use Rattle.claims.proofs.session_claims.Goals as goal

values : Sessions
values =
    record {
      answered = sessions.total;
      stand = sessions.prefix;
      first_lines = first_events;
      lines_stand = before_a_fault;
      bad_lines = bad_lines;
      settled = sessions.stands;
      sound = sessions.sound;
      complete = sessions.complete;
      short = λ s b es e. subst (λ (n : ℕ). length s ≤ n) sessions.largest_size (sessions.size most_events s b es e);
      leb128_sound = leb128.sound;
      leb128_complete = leb128.complete;
      leb128_looked = looked;
    }

pub returns : goal.returns
returns c = values
