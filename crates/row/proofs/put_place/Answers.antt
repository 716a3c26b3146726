use mathlib.Core.Path.{◌≡◌, refl, ◌∙◌}
use mathlib.Core.List.{[], ◌∷◌}
use lib.ListN.{length}
use Rattle.row.specs.Row.{byte_at, core_by, core_of}
use Rattle.rules.specs.Definitions.Setters.{with_reception}
use Rattle.rules.specs.Definitions.Reception.{with_place}
use Rattle.row.proofs.Laws.{written, phase_byte, phase_back}
use Rattle.row.proofs.put_place.Goals as goal

pub returns : goal.returns
unfolding core_of core_by
returns c =
    let a = c.args in
    let n : length a.s.now ≡ 176 = c.told-s in
    written a.s.now ((63, phase_byte a.p.phase) ∷ (6, a.p.at) ∷ []) n refl
    ∙ (λ i. with_reception (core_by (byte_at a.s.now)) (with_place (core_by (byte_at a.s.now)).reception (record { phase = phase_back a.p.phase i; at = a.p.at })))
