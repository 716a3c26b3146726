-- A host access behind number 6.
--   open_refusals == its first refusals        write_open, read_open == the answer of a write, of a read, by all refusals but 6
use Rattle.std.specs.Prelude.{ℕ, ◌%◌, Bool, List, [], ◌∷◌, ◌++◌, ltb}
use Rattle.rules.specs.Definitions.State.{is_asleep}
use Rattle.rules.specs.Definitions.Host.{host_written, byte_read, write_refusals, read_refusals}
use Rattle.rules.specs.Definitions.Run.{accept, unless_refused}
use Rattle.rules.specs.declared.Refusal.{Refusal}
use Rattle.rules.specs.declared.Refusal.TheVariants.{Asleep, Address}
use Rattle.rules.specs.declared.Core.{Core}
use Rattle.rules.specs.declared.Controller.{Controller}
use Rattle.rules.specs.declared.Answer.{Answer}

-- 7, 1
unfoldable pub open_refusals : Core → ℕ → List (Bool × Refusal)
open_refusals k address = (is_asleep k.activity.mode, Asleep) ∷ (ltb 255 address, Address) ∷ []

-- 7, 1, 2, 3, 8
unfoldable pub write_open : Controller → ℕ → ℕ → Answer
write_open c address value = unless_refused c (open_refusals c.core address ++ write_refusals address value) (accept 0 (host_written c address (value % 256)))

-- 7, 1, 4
unfoldable pub read_open : Controller → ℕ → Answer
read_open c address = unless_refused c (open_refusals c.core address ++ read_refusals address) (accept (byte_read c address) c)
