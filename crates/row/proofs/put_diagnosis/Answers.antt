use mathlib.Core.Path.{◌≡◌, refl, ◌∙◌, ap}
use mathlib.Core.List.{[], ◌∷◌}
use lib.ListN.{length}
use Rattle.row.specs.Row.{byte_at, core_by, core_of}
use Prim.Native.Nat.{ℕ}
use mathlib.Core.List.{List}
use Rattle.rules.specs.Definitions.Setters.{with_diagnosis}
use Rattle.diagnosis.specs.Rules.{with_period}
use Rattle.rules.specs.declared.Core.{Core}
use Rattle.row.proofs.Laws.{written, words, word_back, flag_laid, condition_byte, condition_back}
use Rattle.row.proofs.put_diagnosis.Goals as goal

pub returns : goal.returns
unfolding core_of core_by
returns c =
    let a = c.args in
    let n : length a.s.now ≡ 176 = c.told-s in
    let x = a.x in
    let ws : List (ℕ × ℕ) =
    (70, condition_byte x.condition) ∷ (71, c.from.result) ∷ (72, c.from-2.result) ∷ (16, x.levels) ∷ words 22 x.dominant [] in
    c.put_period.ensures
    ∙ ap (λ (k : Core). with_diagnosis k (with_period k.diagnosis x.period)) (ap core_of c.put_word.ensures ∙ written a.s.now ws n refl)
    ∙ (λ i.
    with_diagnosis (core_by (byte_at a.s.now))
    (record {
      condition = condition_back x.condition i;
      alternate = flag_laid _ _ c.from.ensures i;
      sc = flag_laid _ _ c.from-2.ensures i;
      levels = x.levels;
      dominant = word_back x.dominant i;
      period = x.period;
    }))
