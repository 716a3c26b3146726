-- Laws of tests.
use Prim.Native.Nat.{ℕ, ◌+◌, ◌<◌}
use mathlib.Core.Bool.{Bool, true, false, ◌||◌}
use mathlib.Core.Path.{◌≡◌, refl, sym, ap, ◌∙◌}
use native.Mathlib.Omega.{arith}
use lib.Dec.{leb}
use borrow.Author.Tests.{leb-false}
use Rattle.line.specs.Bits.{pick}
use Rattle.diagnosis.specs.Control.{divider, divider_runs}
use Rattle.diagnosis.specs.Rules.{completes}
use Rattle.diagnosis.specs.declared.Period.{Period}
use Rattle.registers.proofs.Dividers.{divider_small}

pub or_pick : (a b : Bool) → a || b ≡ pick a true b
or_pick true b = refl
or_pick false b = refl

-- a period that goes on has room for one more slot
pub next_slot : (control : ℕ) (p : Period) → control < 256 → completes control p ≡ false → divider_runs control ≡ true → p.slots + 1 < 4294967296
unfolding completes
next_slot control p h e d =
    let t : leb (divider control) (p.slots + 1) ≡ false = sym (ap (λ (b : Bool). pick b (leb (divider control) (p.slots + 1)) false) d) ∙ e in
    let k = leb-false (divider control) (p.slots + 1) t in
    let s = divider_small control h in
    omega arith
