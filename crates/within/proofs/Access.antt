-- A write that only keeps its byte: no refusal is due.
use Prim.Native.Nat.{ℕ, ◌%◌, ◌≤◌, ◌<◌}
use mathlib.Core.Bool.{Bool, true, false}
use mathlib.Core.List.{List}
use mathlib.Core.Path.{◌≡◌, refl, ap}
use native.Mathlib.Omega.{arith}
use lib.Dec.{eqb, leb}
use lib.ListN.{set}
use borrow.Author.Tests.{eq-eqb, eqb-false, le-ltb, le-leb, lt-leb}
use Rattle.rules.specs.Definitions.Registers.{read_only, reserved, fixed_bits}
use Rattle.rules.specs.Definitions.Attempt.{is_serving, is_between}
use Rattle.rules.specs.Definitions.State.{is_asleep, serving}
use Rattle.rules.specs.Definitions.Host.{access_refusals, write_refusals}
use Rattle.rules.specs.Definitions.Run.{accept, unless_refused, host_write, step}
use Rattle.rules.specs.Definitions.Answers.{controller}
use Rattle.rules.specs.declared.Event.TheVariants.{Write}
use Rattle.rules.proofs.Logic.{both_false}
use Rattle.host.specs.Plain.{plain}
use Rattle.host.proofs.Kept.{no_register, kept_alone}
use Rattle.row.specs.Row.{mode_of, stage_of, core_of}
use Rattle.within.specs.Lent.{KeptAlone}

above : (a n : ℕ) → 16 ≤ a → n < 16 → leb a n ≡ false
above a n h l = lt-leb a n (omega (arith, h, l))

not_read_only : (a : ℕ) → 16 ≤ a → read_only a ≡ false
unfolding read_only
not_read_only a h = rw (above a 7 h (omega arith), no_register a 9 h (omega arith), both_false (leb 4 a))

not_reserved : (a : ℕ) → 16 ≤ a → reserved a ≡ false
unfolding reserved
not_reserved a h = rw (no_register a 8 h (omega arith), above a 15 h (omega arith), both_false (leb 12 a))

bits_free : (a v : ℕ) → 16 ≤ a → fixed_bits a v ≡ true
unfolding fixed_bits
bits_free a v h = rw (no_register a 1 h (omega arith), no_register a 3 h (omega arith))

-- ---- a write

plainly : (m s : List ℕ) (address value : ℕ) → KeptAlone m s address value → plain (core_of s) address ≡ true
unfolding plain serving
plainly m s address value p = rw (le-leb 16 address p.plain.low, p.rests, p.waits)

pub written_alone : (m s : List ℕ) (address value : ℕ) → KeptAlone m s address value → accept 0 (controller (set m (address % 256) (value % 256)) (core_of s)) ≡ step (controller m (core_of s)) (Write address value)
unfolding step host_write access_refusals write_refusals unless_refused
written_alone m s address value p =
    rw (p.plain.range, p.plain.awake, le-ltb 255 address (omega (arith, p.plain.high)), le-ltb 255 value (omega (arith, p.byte)), not_read_only address p.plain.low, not_reserved address p.plain.low, bits_free address (value % 256) p.plain.low)
    (ap (accept 0) (kept_alone m (core_of s) address (value % 256) (plainly m s address value p)))

-- ---- what the tests say

pub wakes : (b : ℕ) → b < 2 → is_asleep (mode_of b) ≡ false
unfolding is_asleep
wakes b h = go (eqb b 0) refl where
  go : (x : Bool) → eqb b 0 ≡ x → is_asleep (mode_of b) ≡ false
  go true e = rw e
  go false e = let u = eqb-false b 0 e in rw (e, eq-eqb b 1 (omega (arith, h, u)))

pub resting : (b : ℕ) → eqb b 0 ≡ true → (is_serving (stage_of b) ≡ false) × (is_between (stage_of b) ≡ false)
unfolding is_serving is_between
resting b e = (rw e, rw e)
