use Rattle.rules.proofs.Matching.Masks.{sound, complete}
use Rattle.claims.proofs.Places.{winner_lowest, winner_none, winner_held, legal_exactly}
use Rattle.claims.proofs.matching_claims.Goals as goal

pub returns : goal.returns
returns c = record { sound = sound; complete = complete; lowest = winner_lowest; nobody = winner_none; held = winner_held; links = legal_exactly }
