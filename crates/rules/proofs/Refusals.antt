-- The first refusals of a list, tried apart from those behind them.
use mathlib.Core.Bool.{Bool, true, false, false≢true}
use mathlib.Core.List.{List, [], ◌∷◌, ◌++◌}
use mathlib.Core.Path.{◌≡◌, refl, sym, ap, ◌∙◌}
use Rattle.std.specs.Prelude.{Result, Ok, Err}
use Rattle.line.specs.Bits.{pick}
use Rattle.rules.specs.Definitions.Run.{refuse, unless_refused, first_due}
use Rattle.rules.specs.declared.Refusal.{Refusal}
use Rattle.rules.specs.declared.Refusal.TheVariants.{Range}
use Rattle.rules.specs.declared.Controller.{Controller}
use Rattle.rules.specs.declared.Answer.{Answer}

abbrev is_ok : Result Unit Refusal → Bool
is_ok (Ok x) = true
is_ok (Err why) = false

abbrev reason : Result Unit Refusal → Refusal
reason (Ok x) = Range
reason (Err why) = why

-- none of the first is due
open_to : (c : Controller) (rs ss : List (Bool × Refusal)) (a : Answer) → first_due rs ≡ Ok tt → unless_refused c (rs ++ ss) a ≡ unless_refused c ss a
unfolding unless_refused first_due
open_to c [] ss a e = refl
open_to c (r ∷ rs) ss a e = go r.0 e (λ d. open_to c rs ss a d) where
  go : (b : Bool) → pick b (Err r.1) (first_due rs) ≡ Ok tt → (first_due rs ≡ Ok tt → unless_refused c (rs ++ ss) a ≡ unless_refused c ss a) → pick b (refuse c r.1) (unless_refused c (rs ++ ss) a) ≡ unless_refused c ss a
  go true d k = absurd (false≢true (ap is_ok d))
  go false d k = k d

-- one of them is
pub refused_first : (c : Controller) (rs ss : List (Bool × Refusal)) (a : Answer) (why : Refusal) → first_due rs ≡ Err why → unless_refused c (rs ++ ss) a ≡ refuse c why
unfolding unless_refused first_due
refused_first c [] ss a why e = absurd (false≢true (sym (ap is_ok e)))
refused_first c (r ∷ rs) ss a why e = go r.0 e (λ d. refused_first c rs ss a why d) where
  go : (b : Bool) → pick b (Err r.1) (first_due rs) ≡ Err why → (first_due rs ≡ Err why → unless_refused c (rs ++ ss) a ≡ refuse c why) → pick b (refuse c r.1) (unless_refused c (rs ++ ss) a) ≡ refuse c why
  go true d k = ap (λ (x : Result Unit Refusal). refuse c (reason x)) d
  go false d k = k d

alone : (c : Controller) (rs : List (Bool × Refusal)) (a : Answer) → unless_refused c (rs ++ []) a ≡ unless_refused c rs a
unfolding unless_refused
alone c [] a = refl
alone c (r ∷ rs) a = ap (pick r.0 (refuse c r.1)) (alone c rs a)

-- one of the others is
pub refused_second : (c : Controller) (rs ss : List (Bool × Refusal)) (a : Answer) (why : Refusal) → first_due rs ≡ Ok tt → first_due ss ≡ Err why → unless_refused c (rs ++ ss) a ≡ refuse c why
refused_second c rs ss a why e d = open_to c rs ss a e ∙ sym (alone c ss a) ∙ refused_first c ss [] a why d

-- none is due
pub accepted : (c : Controller) (rs ss : List (Bool × Refusal)) (a : Answer) → first_due rs ≡ Ok tt → first_due ss ≡ Ok tt → unless_refused c (rs ++ ss) a ≡ a
unfolding unless_refused
accepted c rs ss a e d = open_to c rs ss a e ∙ sym (alone c ss a) ∙ open_to c ss [] a d
