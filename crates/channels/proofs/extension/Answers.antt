use Rattle.rules.specs.Definitions.Channels.{extension}
use Rattle.rules.proofs.Bits.{masked}
use Rattle.channels.proofs.extension.Goals as goal

pub returns : goal.returns
unfolding extension
returns c =
    masked c.args.low 3
