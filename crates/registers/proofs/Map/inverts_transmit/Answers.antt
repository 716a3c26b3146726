use Rattle.rules.specs.Definitions.Registers.{inverts_transmit}
use Rattle.rules.proofs.Bits.{masked}
use Rattle.registers.proofs.Map.inverts_transmit.Goals as goal

pub returns : goal.returns
unfolding inverts_transmit
returns c =
    masked c.args.control 1
