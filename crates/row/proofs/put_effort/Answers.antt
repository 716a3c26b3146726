use mathlib.Core.Path.{◌≡◌, refl, ◌∙◌, ap}
use mathlib.Core.List.{[], ◌∷◌}
use lib.ListN.{length}
use Rattle.row.specs.Row.{core_by, core_of}
use Prim.Native.Nat.{ℕ}
use mathlib.Core.List.{List}
use Rattle.rules.specs.Definitions.Setters.{with_service, with_effort, with_frame, with_progress, with_counters}
use Rattle.rules.specs.declared.Core.{Core}
use Rattle.row.proofs.Laws.{writes, written, writes_long, own_framed}
use Rattle.row.proofs.put_effort.Goals as goal

pub returns : goal.returns
unfolding core_of core_by
returns c =
    let a = c.args in
    let n : length a.s.now ≡ 176 = c.told-s in
    let e = a.e in
    let ws : List (ℕ × ℕ) = (12, e.frame.n) ∷ (13, e.setting) ∷ [] in
    c.put_counters.ensures
    ∙ ap (λ (k : Core). with_service k (with_effort k.service (with_counters k.service.effort e.counters)))
    (c.put_progress.ensures
    ∙ ap (λ (k : Core). with_service k (with_effort k.service (with_progress k.service.effort e.progress)))
    (ap core_of c.put_frame.ensures.laid
    ∙ own_framed (writes a.s.now ws) e.frame.bytes (writes_long a.s.now ws ∙ n) c.put_frame.ensures.long
    ∙ ap
    (λ (k : Core).
    with_service k
    (with_effort k.service (with_frame k.service.effort (record { n = k.service.effort.frame.n; bytes = e.frame.bytes }))))
    (written a.s.now ws n refl)))
