use mathlib.Core.Path.{◌≡◌, refl, ◌∙◌, ap}
use mathlib.Core.List.{[], ◌∷◌}
use lib.ListN.{length}
use Rattle.row.specs.Row.{core_by, core_of}
use Prim.Native.Nat.{ℕ}
use mathlib.Core.List.{List}
use Rattle.rules.specs.Definitions.Setters.{with_reception}
use Rattle.rules.specs.Definitions.Reception.{with_place, with_bytes, with_winner}
use Rattle.rules.specs.declared.Core.{Core}
use Rattle.row.proofs.Laws.{writes, written, writes_long, heard_framed}
use Rattle.row.proofs.put_reception.Goals as goal

pub returns : goal.returns
unfolding core_of core_by
returns c =
    let a = c.args in
    let n : length a.s.now ≡ 176 = c.told-s in
    let r = a.r in
    let ws : List (ℕ × ℕ) = (7, r.nibbles) ∷ (8, r.bits) ∷ [] in
    c.put_winner.ensures
    ∙ ap (λ (k : Core). with_reception k (with_winner k.reception r.winner))
    (c.put_place.ensures
    ∙ ap (λ (k : Core). with_reception k (with_place k.reception r.place))
    (ap core_of c.put_frame.ensures.laid
    ∙ heard_framed (writes a.s.now ws) r.bytes (writes_long a.s.now ws ∙ n) c.put_frame.ensures.long
    ∙ ap (λ (k : Core). with_reception k (with_bytes k.reception r.bytes)) (written a.s.now ws n refl)))
