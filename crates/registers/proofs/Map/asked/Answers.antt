use Rattle.rules.specs.Definitions.Registers.{asks_reset, asks_sleep, asks_idle, asks_activation, asks_rearbitration, asks_pulse}
use Rattle.rules.proofs.Bits.{masked}
use Rattle.registers.specs.Command.{asked}
use Rattle.registers.proofs.Map.asked.Goals as goal

pub returns : goal.returns
unfolding asked asks_reset asks_sleep asks_idle asks_activation asks_rearbitration asks_pulse
returns c =
    simp (masked c.args.command 7, masked c.args.command 6, masked c.args.command 5, masked c.args.command 4, masked c.args.command 3, masked c.args.command 0)
