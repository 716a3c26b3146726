use Rattle.line.proofs.Laws.{slots_length, pattern_row, nibble_code}
use Rattle.line.proofs.Levels.{level_at_lem}
use Rattle.line.proofs.layout_claims.Goals as goal

pub returns : goal.returns
returns c = record { long = slots_length; level = level_at_lem; table = pattern_row; nibbles = nibble_code }
