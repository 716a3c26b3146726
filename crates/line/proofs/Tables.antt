-- A table that is a function's values in order gives the function's value at each place. Assumes nothing.
use mathlib.Core.Path.{◌≡◌, sym, ap, ◌∙◌}
use mathlib.Core.List.{List, [], ◌∷◌}
use Prim.Native.Nat.{ℕ, zero, suc, ◌+◌, ◌<◌}
use native.Mathlib.Nat.{add-zero, zero-add, add-suc, suc-add, le_of_suc-le-suc, not-suc-le-zero}
use lib.ListN.{get_or}

-- f i, f (i + 1), .. , n values
unfoldable pub values : {A : Type 0} → (ℕ → A) → ℕ → ℕ → List A
values f i zero = []
values f i (suc n) = f i ∷ values f (suc i) n

from : {A : Type 0} (f : ℕ → A) (d : A) (i n k : ℕ) → k < n → get_or (values f i n) k d ≡ f (i + k)
unfolding values
from f d i zero k h = absurd (not-suc-le-zero h)
from f d i (suc n) zero h = ap f (sym (add-zero i))
from f d i (suc n) (suc k) h = from f d (suc i) n k (le_of_suc-le-suc h) ∙ ap f (suc-add i k ∙ sym (add-suc i k))

pub at : {A : Type 0} (f : ℕ → A) (d : A) (n k : ℕ) → k < n → get_or (values f 0 n) k d ≡ f k
at f d n k h = from f d 0 n k h ∙ ap f (zero-add k)
