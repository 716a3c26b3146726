-- A plain write: it asks nothing of the service, acts on no register, and only keeps its byte.
use Prim.Native.Nat.{ℕ, ◌%◌, ◌≤◌, ◌<◌}
use mathlib.Core.Bool.{Bool, true, false, not}
use mathlib.Core.List.{List}
use mathlib.Core.Path.{◌≡◌, refl, sym, ap, ◌∙◌}
use native.Mathlib.Omega.{arith}
use lib.Dec.{eqb, leb}
use lib.ListN.{get_or, set}
use borrow.Author.Tests.{ne_eqb, leb-true}
use Rattle.rules.specs.Definitions.Setters.{with_report, with_service, with_diagnosis}
use Rattle.rules.specs.Definitions.Registers.{both, write_only}
use Rattle.rules.specs.Definitions.Attempt.{in_service, is_serving, between_attempts, is_between}
use Rattle.rules.specs.Definitions.Service.{aborts, stopped, settled, memory_ended, report_ended}
use Rattle.rules.specs.Definitions.State.{serving, idle_due}
use Rattle.rules.specs.Definitions.Host.{resets, sleeps, kept_byte, core_written, service_asked, stopped_core, diagnosis_written, byte_written, host_written}
use Rattle.rules.specs.Definitions.Answers.{controller}
use Rattle.rules.specs.declared.Stage.{Stage}
use Rattle.rules.specs.declared.Stage.TheVariants.{Resting, Waiting, Opening, Sending, Receiving}
use Rattle.rules.specs.declared.Ending.{Ending}
use Rattle.rules.specs.declared.Ending.TheVariants.{Going}
use Rattle.rules.specs.declared.Core.{Core}
use Rattle.rules.proofs.Logic.{both_true, not_true}
use Rattle.host.specs.Plain.{plain}

record Plain (k : Core) (address : ℕ) : Type 0 where
  low : 16 ≤ address
  waits : k.activity.waiting ≡ false
  rests : in_service k.service.effort.progress ≡ false
  between : between_attempts k.service.effort.progress ≡ false

no_idle : (k : Core) → k.activity.waiting ≡ false → idle_due k ≡ k
unfolding idle_due
no_idle k e = rw e

pub no_register : (a n : ℕ) → 16 ≤ a → n < 16 → eqb a n ≡ false
no_register a n h l = ne_eqb a n (λ q. absurd (omega (arith, h, l, q)))

not_write_only : (a : ℕ) → 16 ≤ a → write_only a ≡ false
unfolding write_only
not_write_only a h = rw (no_register a 3 h (omega arith), no_register a 11 h (omega arith))

-- ---- a write

asked_nothing : (m : List ℕ) (k : Core) (address v : ℕ) → Plain k address → service_asked k.service address v ≡ k.service
unfolding service_asked aborts
asked_nothing m k address v p = rw (no_register address 3 p.low (omega arith), p.rests)

goes_on : (m : List ℕ) (k : Core) (address : ℕ) → Plain k address → stopped k.service ≡ Going
unfolding stopped
goes_on m k address p = rw p.between

unwritten : (m : List ℕ) (k : Core) (address v : ℕ) → Plain k address → core_written k address v ≡ k
unfolding core_written
unwritten m k address v p = rw (no_register address 3 p.low (omega arith), no_register address 11 p.low (omega arith))

unended : (k : Core) (x : Ending) → x ≡ Going → with_service (with_report k (report_ended x k.report k.service)) (settled x k.service) ≡ k
unfolding report_ended settled
unended k x e = ap (λ (y : Ending). with_service (with_report k (report_ended y k.report k.service)) (settled y k.service)) e

core_alone : (m : List ℕ) (k : Core) (address v : ℕ) → Plain k address → stopped_core (core_written k address v) k.service ≡ k
unfolding stopped_core
core_alone m k address v p =
    ap (λ (t : Core). idle_due (with_service (with_report t (report_ended (stopped k.service) t.report k.service)) (settled (stopped k.service) k.service))) (unwritten m k address v p)
    ∙ ap idle_due (unended k (stopped k.service) (goes_on m k address p))
    ∙ no_idle k p.waits

map_alone : (m : List ℕ) (k : Core) (address v : ℕ) → Plain k address → memory_ended (stopped k.service) (kept_byte m address v) k.service.channel ≡ set m (address % 256) v
unfolding memory_ended kept_byte
map_alone m k address v p = rw (goes_on m k address p, not_write_only address p.low)

undiagnosed : (m : List ℕ) (k : Core) (address v : ℕ) → Plain k address → diagnosis_written m k.diagnosis address v ≡ k.diagnosis
unfolding diagnosis_written
undiagnosed m k address v p = rw (no_register address 3 p.low (omega arith), no_register address 2 p.low (omega arith))

byte_alone : (m : List ℕ) (k : Core) (address v : ℕ) → Plain k address → host_written (controller m k) address v ≡ controller (set m (address % 256) v) k
unfolding host_written resets sleeps byte_written
byte_alone m k address v p =
    rw (no_register address 3 p.low (omega arith), asked_nothing m k address v p)
    (λ i. controller (map_alone m k address v p i) (with_diagnosis (core_alone m k address v p i) (undiagnosed m k address v p i)))

not_between : (p : Stage) → is_serving p ≡ false → is_between p ≡ false
unfolding is_serving is_between
not_between Resting e = refl
not_between Waiting e = e
not_between Opening e = e
not_between Sending e = refl
not_between Receiving e = refl

plainly : (k : Core) (address : ℕ) → plain k address ≡ true → Plain k address
unfolding plain serving in_service between_attempts
plainly k address e =
    let a = both_true (leb 16 address) _ e in
    let b = both_true (not (serving k.service)) (not k.activity.waiting) a.1 in
    let r = not_true (serving k.service) b.0 in
    record { low = leb-true 16 address a.0; waits = not_true k.activity.waiting b.1; rests = r; between = not_between k.service.effort.progress.stage r }

pub kept_alone : (m : List ℕ) (k : Core) (address v : ℕ) → plain k address ≡ true → controller (set m (address % 256) v) k ≡ host_written (controller m k) address v
kept_alone m k address v e = sym (byte_alone m k address v (plainly k address e))
