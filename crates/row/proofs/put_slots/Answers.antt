use mathlib.Core.Path.{◌≡◌, refl, ◌∙◌, ap}
use mathlib.Core.List.{[]}
use lib.ListN.{length}
use Rattle.row.specs.Row.{byte_at, core_by, core_of}
use Prim.Native.Nat.{ℕ}
use Rattle.rules.specs.Definitions.Setters.{with_service}
use Rattle.row.specs.Row.{with_spent}
use Rattle.row.proofs.Laws.{written, words, word_back}
use Rattle.row.proofs.put_slots.Goals as goal

pub returns : goal.returns
unfolding core_of core_by
returns c =
    let a = c.args in
    let n : length a.s.now ≡ 176 = c.told-s in
    ap core_of c.put_word.ensures
    ∙ written a.s.now (words 46 a.n []) n refl
    ∙ ap (λ (x : ℕ). with_service (core_by (byte_at a.s.now)) (with_spent (core_by (byte_at a.s.now)).service x)) (word_back a.n)
