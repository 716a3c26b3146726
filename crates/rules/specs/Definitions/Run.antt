-- The step rule and the run (demand 3: "each event gets the controller that the last one left").
--   fresh == a fresh controller        step == an event's answer        next, after == the controller after an event, after a list of events
--   unless_refused == the first refusal that is due, or the answer of an accepted call        first_due == the first refusal that is due, if any
use Rattle.std.specs.Prelude.{ℕ, ◌%◌, Bool, not, List, [], ◌∷◌, ◌++◌, Result, Ok, Err, ltb, get_or, replicate}
use Rattle.line.specs.Bits.{pick}
use Rattle.rules.specs.Definitions.Registers.{line_control, transmitted}
use Rattle.rules.specs.Definitions.State.{in_range, is_active, reset_core}
use Rattle.rules.specs.Definitions.Slots.{drives, active_slot, resting_slot}
use Rattle.rules.specs.Definitions.Host.{reset_all, host_written, byte_read, access_refusals, write_refusals, read_refusals}
use Rattle.rules.specs.Definitions.Answers.{number}
use Rattle.rules.specs.declared.Refusal.{Refusal}
use Rattle.rules.specs.declared.Refusal.TheVariants.{Levels, Range}
use Rattle.rules.specs.declared.Controller.{Controller}
use Rattle.rules.specs.declared.Answer.{Answer}
use Rattle.rules.specs.declared.Event.{Event}
use Rattle.rules.specs.declared.Event.TheVariants.{Reset, Write, Read, Slot}

-- "A fresh controller has zero channels and mailbox (house)": a reset one, of zeros
unfoldable pub fresh : Controller
fresh = reset_all (record { memory = replicate 256 0; core = reset_core })

-- "Each returns its number and zero elsewhere, and leaves state .. unchanged"
unfoldable pub refuse : Controller → Refusal → Answer
refuse c why = record { refused = number why; value = 0; next = c }

unfoldable pub accept : ℕ → Controller → Answer
accept value c = record { refused = 0; value = value; next = c }

-- the first refusal whose test holds; else the answer of the accepted call
unfoldable pub unless_refused : Controller → List (Bool × Refusal) → Answer → Answer
unless_refused c [] a = a
unless_refused c (r ∷ rs) a = pick r.0 (refuse c r.1) (unless_refused c rs a)

-- the first refusal whose test holds, if one does
unfoldable pub first_due : List (Bool × Refusal) → Result Unit Refusal
first_due [] = Ok tt
first_due (r ∷ rs) = pick r.0 (Err r.1) (first_due rs)

-- "Pin reset: 6."
unfoldable pub pin_reset : Controller → Answer
pin_reset c = unless_refused c ((not (in_range c), Range) ∷ []) (accept 0 (reset_all c))

-- `% 256` changes no value that is accepted
unfoldable pub host_write : Controller → ℕ → ℕ → Answer
host_write c address value =
    unless_refused c (access_refusals c address ++ write_refusals address value) (accept 0 (host_written c address (value % 256)))

unfoldable pub host_read : Controller → ℕ → Answer
host_read c address = unless_refused c (access_refusals c address ++ read_refusals address) (accept (byte_read c address) c)

-- "A slot's answer is the level for the next slot", as TXD after the transmit inversion
unfoldable pub answered : Controller → Answer
answered c = accept (transmitted (get_or c.memory line_control 0) (drives c.core)) c

-- idle and asleep: recessive
unfoldable pub rested_slot : Controller → Answer
rested_slot c = accept (transmitted (get_or c.memory line_control 0) 1) c

-- "Slots: 6, 5; asleep gives recessive."
unfoldable pub slot : Controller → ℕ → Answer
slot c levels =
    unless_refused c ((not (in_range c), Range) ∷ (ltb 7 levels, Levels) ∷ [])
    (pick (is_active c.core.activity.mode) (answered (active_slot c levels)) (rested_slot (resting_slot c levels)))

unfoldable pub step : Controller → Event → Answer
step c Reset = pin_reset c
step c (Write address value) = host_write c address value
step c (Read address) = host_read c address
step c (Slot levels) = slot c levels

unfoldable pub next : Controller → Event → Controller
next c e = (step c e).next

unfoldable pub after : Controller → List Event → Controller
after c [] = c
after c (e ∷ es) = after (next c e) es
