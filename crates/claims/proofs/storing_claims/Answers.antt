use Rattle.line.specs.Check.{check}
use Rattle.line.specs.Frame.{covered}
use Rattle.every_run.proofs.Sending.Frames.{check_bytes}
use Rattle.claims.proofs.Places.{message_at, check_at, elsewhere, within_places, too_long, no_winner, map_long}
use Rattle.claims.proofs.storing_claims.Goals as goal

pub returns : goal.returns
returns c = record {
  whole = message_at;
  check_whole = check_at;
  check_bits = λ f. check_bytes (check (covered f));
  nowhere_else = elsewhere;
  within_m_l = within_places;
  too_long = too_long;
  unmatched = no_winner;
  map_long = map_long;
}
