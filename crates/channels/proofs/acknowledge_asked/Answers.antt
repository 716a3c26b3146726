use Rattle.rules.specs.Definitions.Channels.{acknowledge_asked}
use Rattle.rules.proofs.Bits.{masked}
use Rattle.channels.proofs.acknowledge_asked.Goals as goal

pub returns : goal.returns
unfolding acknowledge_asked
returns c =
    masked c.args.low 2
