use mathlib.Core.Path.{◌≡◌, refl, ◌∙◌, ap}
use mathlib.Core.List.{[], ◌∷◌}
use lib.ListN.{length}
use Rattle.row.specs.Row.{byte_at, core_by, core_of}
use Prim.Native.Nat.{ℕ}
use mathlib.Core.List.{List}
use lib.ListN.{set}
use Rattle.rules.specs.Definitions.Setters.{with_diagnosis}
use Rattle.diagnosis.specs.Rules.{with_period}
use Rattle.row.specs.Bytes.{with_word}
use Rattle.row.proofs.Laws.{written, words, word_back, flag_laid}
use Rattle.row.proofs.put_period.Goals as goal

pub returns : goal.returns
unfolding core_of core_by
returns c =
    let a = c.args in
    let n : length a.s.now ≡ 176 = c.told-s in
    let p = a.p in
    ap (λ (s : List ℕ). core_of (set s 73 c.from.result))
    (c.put_word-4.ensures
    ∙ ap (λ (s : List ℕ). with_word s 34 p.connected)
    (c.put_word-3.ensures
    ∙ ap (λ (s : List ℕ). with_word s 30 p.rxd2) (c.put_word-2.ensures ∙ ap (λ (s : List ℕ). with_word s 26 p.rxd1) c.put_word.ensures)))
    ∙ written a.s.now (words 42 p.slots (words 26 p.rxd1 (words 30 p.rxd2 (words 34 p.connected ((73, c.from.result) ∷ []))))) n refl
    ∙ (λ i.
    with_diagnosis (core_by (byte_at a.s.now))
    (with_period (core_by (byte_at a.s.now)).diagnosis
    (record {
      slots = word_back p.slots i;
      rxd1 = word_back p.rxd1 i;
      rxd2 = word_back p.rxd2 i;
      connected = word_back p.connected i;
      failure = flag_laid _ _ c.from.ensures i;
    })))
