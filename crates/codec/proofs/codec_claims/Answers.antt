use Rattle.codec.proofs.Exact.{codec}
use Rattle.codec.proofs.codec_claims.Goals as goal

pub returns : goal.returns
returns c = codec
