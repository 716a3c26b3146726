use mathlib.Core.Path.{◌≡◌, refl, ◌∙◌}
use mathlib.Core.List.{[], ◌∷◌}
use lib.ListN.{length}
use Rattle.row.specs.Row.{byte_at, core_by, core_of}
use Rattle.rules.specs.Definitions.Setters.{with_activity}
use Rattle.row.proofs.Laws.{written, mode_byte, mode_back, flag_laid}
use Rattle.row.proofs.put_activity.Goals as goal

pub returns : goal.returns
unfolding core_of core_by
returns c =
    let a = c.args in
    let n : length a.s.now ≡ 176 = c.told-s in
    written a.s.now ((54, mode_byte a.a.mode) ∷ (55, c.from.result) ∷ []) n refl
    ∙ (λ i. with_activity (core_by (byte_at a.s.now)) (record { mode = mode_back a.a.mode i; waiting = flag_laid _ _ c.from.ensures i }))
