use mathlib.Core.Path.{refl}
use mathlib.Core.List.{[], ◌∷◌}
use Rattle.row.specs.Row.{core_by, core_of}
use Rattle.row.proofs.Laws.{written}
use Rattle.row.proofs.put_nibbles.Goals as goal

pub returns : goal.returns
unfolding core_of core_by
returns c =
    let a = c.args in
    written a.s.now ((7, a.n) ∷ []) c.told-s refl
