use mathlib.Core.Path.{◌≡◌, refl, ◌∙◌, ap}
use mathlib.Core.List.{[], ◌∷◌}
use lib.ListN.{length}
use Rattle.row.specs.Row.{byte_at, core_by, core_of}
use Rattle.rules.specs.Definitions.Setters.{with_diagnosis}
use Rattle.row.specs.Row.{with_watched}
use Rattle.row.proofs.Laws.{written, words, word_back, flag_laid}
use Rattle.row.proofs.put_watched.Goals as goal

pub returns : goal.returns
unfolding core_of core_by
returns c =
    let a = c.args in
    let n : length a.s.now ≡ 176 = c.told-s in
    ap core_of c.put_word.ensures
    ∙ written a.s.now ((72, c.from.result) ∷ (16, a.levels) ∷ words 22 a.dominant []) n refl
    ∙ (λ i. with_diagnosis (core_by (byte_at a.s.now)) (with_watched (core_by (byte_at a.s.now)).diagnosis (flag_laid _ _ c.from.ensures i) a.levels (word_back a.dominant i)))
