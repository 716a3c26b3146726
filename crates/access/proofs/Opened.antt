-- In its ranges a state is not refused with 6.
use Prim.Native.Nat.{ℕ}
use mathlib.Core.Bool.{Bool, true}
use mathlib.Core.List.{List, ◌++◌}
use mathlib.Core.Path.{◌≡◌, sym}
use Rattle.std.specs.Prelude.{Result, Err}
use Rattle.rules.specs.Definitions.State.{in_range}
use Rattle.rules.specs.Definitions.Host.{access_refusals}
use Rattle.rules.specs.Definitions.Run.{refuse, unless_refused, first_due}
use Rattle.rules.specs.declared.Refusal.{Refusal}
use Rattle.rules.specs.declared.Controller.{Controller}
use Rattle.rules.specs.declared.Answer.{Answer}
use Rattle.rules.proofs.Refusals.{refused_first}
use Rattle.access.specs.Open.{open_refusals}

pub opened : (c : Controller) (address : ℕ) (r : Result Unit Refusal) → in_range c ≡ true → r ≡ first_due (open_refusals c.core address) → r ≡ first_due (access_refusals c address)
unfolding access_refusals open_refusals first_due
opened c address r h e = rw h e

pub refused_open : (c : Controller) (address : ℕ) (ss : List (Bool × Refusal)) (a : Answer) (why : Refusal) → in_range c ≡ true → Err why ≡ first_due (open_refusals c.core address) → unless_refused c (access_refusals c address ++ ss) a ≡ refuse c why
refused_open c address ss a why h e = refused_first c (access_refusals c address) ss a why (sym (opened c address (Err why) h e))
