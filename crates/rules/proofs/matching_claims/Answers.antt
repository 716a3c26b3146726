use Rattle.rules.proofs.Matching.Lowest.{found}
use Rattle.rules.proofs.Matching.Masks.{sound, complete}
use Rattle.rules.proofs.matching_claims.Goals as goal

pub returns : goal.returns
returns c = record { sound = sound; complete = complete; wins = found }
