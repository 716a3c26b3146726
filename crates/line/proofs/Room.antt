-- Values laid into lent room, one behind another: slots, or the bytes of a text.
use Prim.Native.Nat.{ℕ, suc, ◌+◌, ◌≤◌, ◌<◌}
use mathlib.Core.List.{List, [], ◌∷◌, ◌++◌}
use mathlib.Core.Path.{◌≡◌, ap, ◌∙◌}
use native.Mathlib.Nat.{add-zero}
use native.Mathlib.Numerals.{add-one}
use native.Mathlib.Omega.{arith}
use lib.ListN.{get_or, set, length, drop, drop_of_length-le}
use lib.Seq.{sets, drop-cons}

pub sets_append : (l : List ℕ) (i : ℕ) (vs ws : List ℕ) → sets l i (vs ++ ws) ≡ sets (sets l i vs) (i + length vs) ws
sets_append l i [] ws = rw add-zero
sets_append l i (v ∷ vs) ws =
    let e : suc i + length vs ≡ i + length (v ∷ vs) = omega arith in
    sets_append (set l i v) (suc i) vs ws ∙ ap (λ (k : ℕ). sets (sets (set l i v) (suc i) vs) k ws) e

-- ---- one by one

pub put_here : (room values : List ℕ) (i k : ℕ) → k < length values → sets room i (drop k values) ≡ sets (set room i (get_or values k 0)) (i + 1) (drop (k + 1) values)
put_here room values i k h = rw (drop-cons values k 0 h, add-one, add-one)

pub put_next : (room values : List ℕ) (at k : ℕ) → k < length values →
    sets room (at + k) (drop k values) ≡ sets (set room (at + k) (get_or values k 0)) (at + (k + 1)) (drop (k + 1) values)
put_next room values at k h = let e : at + (k + 1) ≡ at + k + 1 = omega arith in rw e (put_here room values (at + k) k h)

pub put_end : (room values : List ℕ) (i k : ℕ) → length values ≤ k → sets room i (drop k values) ≡ room
put_end room values i k h = rw (drop_of_length-le values h)
