use Rattle.rules.specs.Definitions.Channels.{cher}
use Rattle.rules.proofs.Bits.{masked}
use Rattle.channels.proofs.cher.Goals as goal

pub returns : goal.returns
unfolding cher
returns c =
    masked c.args.status 2
