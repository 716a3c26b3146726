use Rattle.line.specs.Frame.{size}
use Rattle.line.proofs.Laws.{slots_length, pattern_row, nibble_code}
use Rattle.line.proofs.Levels.{level_at_lem}
use Rattle.line.proofs.Checked.{checked}
use Rattle.codec.proofs.Exact.{codec}
use Rattle.claims.specs.Claims.{Frames}
use Rattle.claims.proofs.frame_claims.Goals as goal

frames : Frames
unfolding size
frames =
    record {
      exact = λ longest. (codec longest).exact;
      decoded = λ longest. (codec longest).decoded;
      encoded = λ longest. (codec longest).encoded;
      one = λ longest. (codec longest).one;
      long = slots_length;
      level = level_at_lem;
      table = pattern_row;
      nibbles = nibble_code;
      checked = checked;
    }

pub returns : goal.returns
returns c = frames
