use mathlib.Core.Path.{◌≡◌, refl, ◌∙◌, ap}
use mathlib.Core.List.{[], ◌∷◌}
use lib.ListN.{length}
use Rattle.row.specs.Row.{byte_at, core_by, core_of}
use Rattle.rules.specs.Definitions.Setters.{with_service, with_effort}
use Rattle.rules.specs.declared.Core.{Core}
use Rattle.row.proofs.Laws.{written, flag_laid}
use Rattle.row.proofs.put_service.Goals as goal

pub returns : goal.returns
unfolding core_of core_by
returns c =
    let a = c.args in
    let n : length a.s.now ≡ 176 = c.told-s in
    let v = a.v in
    c.put_effort.ensures
    ∙ ap (λ (k : Core). with_service k (with_effort k.service v.effort))
    (written a.s.now ((11, v.channel) ∷ (66, c.from.result) ∷ (67, c.from-2.result) ∷ []) n refl)
    ∙ (λ i.
    with_service (core_by (byte_at a.s.now))
    (record { channel = v.channel; abort = flag_laid _ _ c.from.ensures i; rear = flag_laid _ _ c.from-2.ensures i; effort = v.effort }))
