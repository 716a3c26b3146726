-- A write that only keeps its byte: a channel's or the mailbox's, with no service and no idle that waits.
use Rattle.std.specs.Prelude.{ℕ, Bool, not, leb}
use Rattle.rules.specs.Definitions.Registers.{both}
use Rattle.rules.specs.Definitions.State.{serving}
use Rattle.rules.specs.declared.Core.{Core}

unfoldable pub plain : Core → ℕ → Bool
plain k address = both (leb 16 address) (both (not (serving k.service)) (not k.activity.waiting))
