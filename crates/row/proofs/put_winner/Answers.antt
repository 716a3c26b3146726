use mathlib.Core.Path.{◌≡◌, refl, ◌∙◌}
use mathlib.Core.List.{[], ◌∷◌}
use lib.ListN.{length}
use Rattle.row.specs.Row.{byte_at, core_by, core_of}
use Rattle.rules.specs.Definitions.Setters.{with_reception}
use Rattle.rules.specs.Definitions.Reception.{with_winner}
use Rattle.row.proofs.Laws.{written, flag_laid}
use Rattle.row.proofs.put_winner.Goals as goal

pub returns : goal.returns
unfolding core_of core_by
returns c =
    let a = c.args in
    let n : length a.s.now ≡ 176 = c.told-s in
    let w = a.w in
    written a.s.now ((64, c.from.result) ∷ (9, w.channel) ∷ (65, c.from-2.result) ∷ (17, w.pointer) ∷ (10, w.length) ∷ []) n refl
    ∙ (λ i.
    with_reception (core_by (byte_at a.s.now))
    (with_winner (core_by (byte_at a.s.now)).reception
    (record {
      matched = flag_laid _ _ c.from.ensures i;
      channel = w.channel;
      no_acknowledge = flag_laid _ _ c.from-2.ensures i;
      pointer = w.pointer;
      length = w.length;
    })))
