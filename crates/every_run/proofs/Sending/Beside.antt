-- The tally stepped with the controller's own mode, line and frame under way. The observer's own are the same (Agreed.antt), and so is its tally.
--   seen_t == the tally once the event's sample is judged        next_t == the tally after the event        Holds == demand 3's claim on an event, of this tally
use Prim.Native.Nat.{ℕ, ◌+◌, ◌*◌, ◌≤◌, ◌%◌}
use mathlib.Core.Bool.{true, false}
use mathlib.Core.Path.{◌≡◌}
use Rattle.line.specs.Bits.{pick}
use Rattle.line.specs.Frame.{Fits, size}
use Rattle.rules.specs.Definitions.Longest.{longest_of}
use Rattle.rules.specs.Definitions.Reception.{free}
use Rattle.rules.specs.Definitions.Hearing.{hear_frame}
use Rattle.rules.specs.Definitions.State.{is_active}
use Rattle.rules.specs.Definitions.Slots as slot_rule
use Rattle.rules.specs.Definitions.Slots.{heard, drives, sample_of}
use Rattle.rules.specs.Definitions.Host.{resets, sleeps}
use Rattle.rules.specs.Definitions.Run.{next}
use Rattle.every_run.specs.Tally.{Answering, Tally, none, counted_t, ended_t, choose_t, start_t, asked_t, is_away}
use Rattle.every_run.specs.Observer.{answer_in, fulfilled_t, accepted}
use Rattle.every_run.specs.Sending.{Drives, InSlot, te, bound_of}
use Rattle.rules.specs.declared.Controller.{Controller}
use Rattle.rules.specs.declared.Event.{Event}
use Rattle.rules.specs.declared.Event.TheVariants.{Reset, Write, Read, Slot}

-- what a slot of the controller's frame under way is for a request that it answers
abbrev pub answer_c : Controller → ℕ → Answering
answer_c c v = answer_in (hear_frame c.core.reception (longest_of c.core) v) c.core.reception

unfoldable pub seen_in : Controller → Tally → Event → Tally
seen_in c t Reset = t
seen_in c t (Write address value) = t
seen_in c t (Read address) = t
seen_in c t (Slot levels) = pick (is_active c.core.activity.mode) (counted_t t (drives c.core) (sample_of c levels) (answer_c c (sample_of c levels))) t

unfoldable pub after_slot : Tally → Controller → Tally
after_slot t c =
    start_t (choose_t t c.memory (longest_of c.core) (is_active c.core.activity.mode) c.core.reception) c.memory (free c.core.line) c.core.reception

-- the tally once the sample's effects are taken
unfoldable pub ended_c : Controller → Tally → ℕ → Tally
ended_c c t v =
    pick (fulfilled_t t c.core.reply.going c.core.reception (heard c.core (slot_rule.verdict c.core v) v)) none
    (ended_t (counted_t t (drives c.core) v (answer_c c v)))

unfoldable pub follow_t : Controller → Tally → Event → Tally
follow_t c t Reset = none
follow_t c t (Write address value) = pick (resets address (value % 256)) none (pick (sleeps address (value % 256)) none (ended_t (asked_t t address (value % 256))))
follow_t c t (Read address) = t
follow_t c t (Slot levels) = pick (is_active c.core.activity.mode) (after_slot (ended_c c t (sample_of c levels)) (next c (Slot levels))) t

unfoldable pub seen_t : Controller → Tally → Event → Tally
seen_t c t e = pick (accepted c e) (seen_in c t e) t

unfoldable pub next_t : Controller → Tally → Event → Tally
next_t c t e = pick (accepted c e) (follow_t c t e) t

-- demand 3's claim on an event, of this tally; t is the tally before the event, seen_t c t e once its sample is judged
pub record Holds (c : Controller) (t : Tally) (e : Event) : Type 0 where
  -- the service's frame is one frame, no longer than the controller sends
  pub fits : is_away t.stand ≡ false → Fits (longest_of c.core) t.frame
  pub driven : accepted c e ≡ true → InSlot e (Drives t.stand t.frame (drives c.core))
  -- "At most R + 1 attempts end in error."
  pub errors : (seen_t c t e).errors ≤ (seen_t c t e).setting + 1
  -- "The slots spent in attempts are at most (C + R + 1) × (60 + 10n)."
  pub slots : (seen_t c t e).slots ≤ ((seen_t c t e).lost + (seen_t c t e).setting + 1) * size (bound_of (longest_of c.core) (seen_t c t e).frame)
  -- "the slot of error R + 1 leaves TE 1, and no other event turns it from 0 to 1"
  pub raised : (seen_t c t e).errors ≡ (seen_t c t e).setting + 1 → te (next c e) ≡ true
  pub only : te c ≡ false → te (next c e) ≡ true → (seen_t c t e).errors ≡ (seen_t c t e).setting + 1
