use mathlib.Core.Path.{◌≡◌, refl, ◌∙◌}
use mathlib.Core.List.{[], ◌∷◌}
use lib.ListN.{length}
use Rattle.row.specs.Row.{byte_at, core_by, core_of}
use Rattle.rules.specs.Definitions.Setters.{with_line}
use Rattle.row.proofs.Laws.{written, flag_laid}
use Rattle.row.proofs.put_line.Goals as goal

pub returns : goal.returns
unfolding core_of core_by
returns c =
    let a = c.args in
    let n : length a.s.now ≡ 176 = c.told-s in
    written a.s.now ((62, c.from.result) ∷ (5, a.l.count) ∷ []) n refl
    ∙ (λ i. with_line (core_by (byte_at a.s.now)) (record { good = flag_laid _ _ c.from.ensures i; count = a.l.count }))
