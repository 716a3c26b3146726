use mathlib.Core.Path.{◌≡◌, refl, ◌∙◌}
use mathlib.Core.List.{[], ◌∷◌}
use lib.ListN.{length}
use Rattle.row.specs.Row.{byte_at, core_by, core_of}
use Rattle.rules.specs.Definitions.Setters.{with_report, with_flags}
use Rattle.row.proofs.Laws.{written, flag_laid}
use Rattle.row.proofs.put_flags.Goals as goal

pub returns : goal.returns
unfolding core_of core_by
returns c =
    let a = c.args in
    let n : length a.s.now ≡ 176 = c.told-s in
    written a.s.now ((56, c.from.result) ∷ (57, c.from-2.result) ∷ (58, c.from-3.result) ∷ (59, c.from-4.result) ∷ (60, c.from-5.result) ∷ (61, c.from-6.result) ∷ []) n refl
    ∙ (λ i. with_report (core_by (byte_at a.s.now)) (with_flags (core_by (byte_at a.s.now)).report (record { rst = flag_laid _ _ c.from.ensures i; te = flag_laid _ _ c.from-2.ensures i; tok = flag_laid _ _ c.from-3.ensures i; re = flag_laid _ _ c.from-4.ensures i; rok = flag_laid _ _ c.from-5.ensures i; rnok = flag_laid _ _ c.from-6.ensures i })))
