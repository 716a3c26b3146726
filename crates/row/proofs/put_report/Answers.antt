use mathlib.Core.Path.{◌≡◌, refl, ◌∙◌, ap}
use mathlib.Core.List.{[], ◌∷◌}
use lib.ListN.{length}
use Rattle.row.specs.Row.{core_by, core_of}
use Rattle.rules.specs.Definitions.Setters.{with_report, with_flags}
use Rattle.rules.specs.declared.Core.{Core}
use Rattle.row.proofs.Laws.{written}
use Rattle.row.proofs.put_report.Goals as goal

pub returns : goal.returns
unfolding core_of core_by
returns c =
    let a = c.args in
    let n : length a.s.now ≡ 176 = c.told-s in
    let x = a.x in
    c.put_flags.ensures
    ∙ ap (λ (k : Core). with_report k (with_flags k.report x.flags))
    (written a.s.now ((0, x.sending.count) ∷ (1, x.sending.channel) ∷ (2, x.message.count) ∷ (3, x.message.channel) ∷ (4, x.error) ∷ []) n refl)
