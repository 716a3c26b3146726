-- A controller that a session reaches is in its ranges.
use Prim.Native.Nat.{ℕ}
use mathlib.Core.Bool.{true}
use mathlib.Core.Path.{◌≡◌, sym, subst}
use Rattle.session.specs.declared.Event.{Event}
use Rattle.session.specs.declared.Event.TheVariants.{Reset, Write, Read, Slot, Mark}
use Rattle.rules.specs.Definitions.State.{in_range}
use Rattle.rules.specs.Definitions.Run.{fresh, next, accept}
use Rattle.rules.specs.declared.Event.TheVariants as controls
use Rattle.rules.specs.declared.Controller.{Controller}
use Rattle.every_run.proofs.Ranges.Limits.{Fine}
use Rattle.every_run.proofs.Ranges.Reach.{fine_fresh, fine_next}
use Rattle.every_run.proofs.Ranges.Counting.{Counting, counting_fresh, counting_next, kept_in_range}
use Rattle.bench_record.specs.Record.{answer_to}

pub record Reached (c : Controller) : Type 0 where
  pub fine : Fine c
  pub counts : Counting c

pub reached_fresh : Reached fresh
reached_fresh = record { fine = fine_fresh; counts = counting_fresh }

pub reached_range : (c : Controller) → Reached c → in_range c ≡ true
reached_range c r = kept_in_range c r.fine r.counts

next_reached : (c : Controller) (e : Event) → Reached c → Reached (answer_to c e).next
unfolding answer_to next accept
next_reached c Reset r = record { fine = fine_next c controls.Reset r.fine; counts = counting_next c controls.Reset r.counts }
next_reached c (Write address value) r =
    record { fine = fine_next c (controls.Write address value) r.fine; counts = counting_next c (controls.Write address value) r.counts }
next_reached c (Read address) r = record { fine = fine_next c (controls.Read address) r.fine; counts = counting_next c (controls.Read address) r.counts }
next_reached c (Slot levels) r = record { fine = fine_next c (controls.Slot levels) r.fine; counts = counting_next c (controls.Slot levels) r.counts }
next_reached c (Mark n) r = r

pub reached_next : (c d : Controller) (e : Event) → Reached c → d ≡ (answer_to c e).next → Reached d
reached_next c d e r h = subst Reached (sym h) (next_reached c e r)
