use mathlib.Core.Path.{◌≡◌, refl, ◌∙◌, ap}
use mathlib.Core.List.{[], ◌∷◌}
use lib.ListN.{length}
use Rattle.row.specs.Row.{byte_at, core_by, core_of}
use Rattle.rules.specs.Definitions.Setters.{with_service, with_effort, with_progress}
use Rattle.row.proofs.Laws.{written, halves, half_back, stage_byte, stage_back}
use Rattle.row.proofs.put_progress.Goals as goal

pub returns : goal.returns
unfolding core_of core_by
returns c =
    let a = c.args in
    let n : length a.s.now ≡ 176 = c.told-s in
    let p = a.p in
    ap core_of c.put_half.ensures
    ∙ written a.s.now ((68, stage_byte p.stage) ∷ halves 38 p.at []) n refl
    ∙ (λ i.
    with_service (core_by (byte_at a.s.now))
    (with_effort (core_by (byte_at a.s.now)).service
    (with_progress (core_by (byte_at a.s.now)).service.effort (record { stage = stage_back p.stage i; at = half_back p.at i }))))
