use Rattle.rules.specs.Definitions.Channels.{reads}
use Rattle.rules.proofs.Bits.{masked}
use Rattle.channels.proofs.reads.Goals as goal

pub returns : goal.returns
unfolding reads
returns c =
    masked c.args.low 1
