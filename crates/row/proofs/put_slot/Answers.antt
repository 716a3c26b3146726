use mathlib.Core.Path.{refl}
use mathlib.Core.List.{[], ◌∷◌}
use Rattle.row.specs.Row.{core_by, core_of}
use Rattle.rules.specs.Definitions.Reception.{at_place}
use Rattle.row.proofs.Laws.{written}
use Rattle.row.proofs.put_slot.Goals as goal

pub returns : goal.returns
unfolding core_of core_by at_place
returns c =
    let a = c.args in
    written a.s.now ((6, a.at) ∷ []) c.told-s refl
