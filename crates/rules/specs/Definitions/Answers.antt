-- What the calls answer (01, Numbers refused).
--   number == 01's number of a refusal        refused_by, value_of == the number or 0, the value or 0        controller == a lent memory map and the rest of the state
--   lent == the answer of a call that is lent the controller, as it left it        done == the same of a call that gives no value
use Rattle.std.specs.Prelude.{ℕ, List, Result, Ok, Err}
use Rattle.rules.specs.declared.Refusal.{Refusal}
use Rattle.rules.specs.declared.Refusal.TheVariants.{Address, Value, Unwritable, Unreadable, Levels, Range, Asleep, FixedBits}
use Rattle.rules.specs.declared.Core.{Core}
use Rattle.rules.specs.declared.Controller.{Controller}
use Rattle.rules.specs.declared.Answer.{Answer}

unfoldable pub number : Refusal → ℕ
number Address = 1
number Value = 2
number Unwritable = 3
number Unreadable = 4
number Levels = 5
number Range = 6
number Asleep = 7
number FixedBits = 8

unfoldable pub refused_by : {A : Type 0} → Result A Refusal → ℕ
refused_by (Ok value) = 0
refused_by (Err why) = number why

-- "Each returns its number and zero elsewhere"
unfoldable pub value_of : Result ℕ Refusal → ℕ
value_of (Ok value) = value
value_of (Err why) = 0

abbrev pub controller : List ℕ → Core → Controller
controller m k = record { memory = m; core = k }

unfoldable pub lent : Result ℕ Refusal → Controller → Answer
lent r c = record { refused = refused_by r; value = value_of r; next = c }

unfoldable pub done : Result Unit Refusal → Controller → Answer
done r c = record { refused = refused_by r; value = 0; next = c }
