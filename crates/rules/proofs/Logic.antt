-- Laws of tests.
use mathlib.Core.Bool.{Bool, true, false, false≢true, not}
use mathlib.Core.Path.{◌≡◌, refl, sym, ◌∙◌}
use Rattle.line.specs.Bits.{pick}
use Rattle.rules.specs.Definitions.Registers.{both, unless}

pub both_true : (a b : Bool) → both a b ≡ true → (a ≡ true) × (b ≡ true)
both_true true b e = (refl, e)
both_true false b e = absurd (false≢true e)

pub both_false : (a : Bool) → both a false ≡ false
both_false true = refl
both_false false = refl

pub clash : {A : Type 0} {b : Bool} → b ≡ false → b ≡ true → A
clash e h = absurd (false≢true (sym e ∙ h))

pub not_true : (b : Bool) → not b ≡ true → b ≡ false
not_true true e = absurd (false≢true e)
not_true false e = refl

pub unless_false : (b : Bool) (reset : Bool) → b ≡ false → unless b reset ≡ false
unfolding unless
unless_false b true e = refl
unless_false b false e = e

-- what both ways of a test leave
pub left : {A B : Type 0} (f : A → B) (t : Bool) (x y : A) (z : B) → f x ≡ z → f y ≡ z → f (pick t x y) ≡ z
left f true x y z p q = p
left f false x y z p q = q
