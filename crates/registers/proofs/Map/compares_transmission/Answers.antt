use Rattle.rules.proofs.Bits.{masked}
use Rattle.diagnosis.specs.Control.{compares_transmission}
use Rattle.registers.proofs.Map.compares_transmission.Goals as goal

pub returns : goal.returns
unfolding compares_transmission
returns c =
    masked c.args.control 1
