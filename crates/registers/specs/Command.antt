-- The command register read at once: each bit by its own definition.
use Rattle.std.specs.Prelude.{ℕ}
use Rattle.rules.specs.Definitions.Registers.{asks_reset, asks_sleep, asks_idle, asks_activation, asks_rearbitration, asks_pulse}
use Rattle.registers.specs.declared.Command.{Command}

unfoldable pub asked : ℕ → Command
asked v =
    record {
      reset = asks_reset v;
      sleep = asks_sleep v;
      idle = asks_idle v;
      activation = asks_activation v;
      rearbitration = asks_rearbitration v;
      pulse = asks_pulse v;
    }
