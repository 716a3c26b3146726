-- What is claimed of every run of events: refusals, sending, what every event leaves, receiving. OwnFrames.antt, Interrupts.antt and Wires.antt state their claims whole.
use Rattle.std.specs.Prelude.{true, List, ◌≡◌}
use Rattle.rules.specs.Definitions.State.{in_range}
use Rattle.rules.specs.Definitions.Run.{fresh, step, after}
use Rattle.every_run.specs.Observer.{at_reset}
use Rattle.every_run.specs.Sending.{SendingOver}
use Rattle.every_run.specs.Settled.{SettledOver}
use Rattle.every_run.specs.Receiving.{no_log, ReceivingOver}
use Rattle.rules.specs.declared.Controller.{Controller}
use Rattle.rules.specs.declared.Event.{Event}

-- a refused event changes nothing and answers zero; no state that a run reaches is refused with 6
pub record Refusals : Type 0 where
  pub same : (c : Controller) (e : Event) → ((step c e).refused ≡ 0 → ⊥) → (step c e).next ≡ c
  pub zero_elsewhere : (c : Controller) (e : Event) → ((step c e).refused ≡ 0 → ⊥) → (step c e).value ≡ 0
  pub always_in_range : (es : List Event) → in_range (after fresh es) ≡ true
  pub never_six : (es : List Event) (e : Event) → (step (after fresh es) e).refused ≡ 6 → ⊥

-- demand 3, for every list of events from a fresh controller
pub record Sending : Type 0 where
  pub kept : (es : List Event) → SendingOver fresh at_reset es

-- what every event leaves, for every list of events from a fresh controller
pub record EveryEvent : Type 0 where
  pub settled : (es : List Event) → SettledOver fresh at_reset es

-- what is delivered and acknowledged, for every list of events from a fresh controller
pub record Receiving : Type 0 where
  pub kept : (es : List Event) → ReceivingOver fresh no_log es
