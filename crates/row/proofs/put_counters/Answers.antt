use mathlib.Core.Path.{◌≡◌, refl, ◌∙◌, ap}
use mathlib.Core.List.{[]}
use lib.ListN.{length}
use Rattle.row.specs.Row.{byte_at, core_by, core_of}
use Prim.Native.Nat.{ℕ}
use mathlib.Core.List.{List}
use Rattle.rules.specs.Definitions.Setters.{with_service, with_effort, with_counters}
use Rattle.row.specs.Bytes.{with_word}
use Rattle.row.proofs.Laws.{written, words, word_back}
use Rattle.row.proofs.put_counters.Goals as goal

pub returns : goal.returns
unfolding core_of core_by
returns c =
    let a = c.args in
    let n : length a.s.now ≡ 176 = c.told-s in
    let x = a.c in
    ap core_of
    (c.put_word-3.ensures
    ∙ ap (λ (s : List ℕ). with_word s 18 x.errors.0) (c.put_word-2.ensures ∙ ap (λ (s : List ℕ). with_word s 50 x.lost.0) c.put_word.ensures))
    ∙ written a.s.now (words 46 x.slots.0 (words 50 x.lost.0 (words 18 x.errors.0 []))) n refl
    ∙ (λ i.
    with_service (core_by (byte_at a.s.now))
    (with_effort (core_by (byte_at a.s.now)).service
    (with_counters (core_by (byte_at a.s.now)).service.effort
    (record { slots = record { 0 = word_back x.slots.0 i }; lost = record { 0 = word_back x.lost.0 i }; errors = record { 0 = word_back x.errors.0 i } }))))
