use mathlib.Core.Path.{◌≡◌, refl, ◌∙◌, ap}
use mathlib.Core.List.{[], ◌∷◌}
use lib.ListN.{length}
use Rattle.row.specs.Row.{byte_at, core_by, core_of}
use Prim.Native.Nat.{ℕ}
use mathlib.Core.List.{List}
use lib.ListN.{set}
use lib.Seq.{sets}
use Rattle.rules.specs.Definitions.Setters.{with_reply}
use Rattle.rules.specs.declared.Core.{Core}
use Rattle.row.proofs.Laws.{writes, written, writes_long, halves, half_back, flag_laid, reply_framed}
use Rattle.row.proofs.put_reply.Goals as goal

pub returns : goal.returns
unfolding core_of core_by
returns c =
    let a = c.args in
    let n : length a.s.now ≡ 176 = c.told-s in
    let y = a.y in
    let ws : List (ℕ × ℕ) = (69, c.from.result) ∷ (14, y.channel) ∷ halves 40 y.at ((15, y.frame.n) ∷ []) in
    ap core_of (c.put_frame.ensures.laid ∙ ap (λ (s : List ℕ). sets (set s 15 y.frame.n) 142 y.frame.bytes) c.put_half.ensures)
    ∙ reply_framed (writes a.s.now ws) y.frame.bytes (writes_long a.s.now ws ∙ n) c.put_frame.ensures.long
    ∙ ap
    (λ (k : Core).
    with_reply k
    (record { going = k.reply.going; channel = k.reply.channel; at = k.reply.at; frame = record { n = k.reply.frame.n; bytes = y.frame.bytes } }))
    (written a.s.now ws n refl)
    ∙ (λ i. with_reply (core_by (byte_at a.s.now)) (record { going = flag_laid _ _ c.from.ensures i; channel = y.channel; at = half_back y.at i; frame = y.frame }))
