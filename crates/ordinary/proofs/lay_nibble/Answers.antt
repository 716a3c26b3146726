use Prim.Native.Nat.{◌+◌, ◌*◌, ◌/◌, ◌%◌}
use mathlib.Core.Path.{◌≡◌, sym, ap, ◌∙◌}
use borrow.Author.Tests.{ne_eqb}
use mathlib.Core.Bool.{Bool}
use native.Mathlib.Omega.{arith}
use lib.ListN.{get_or, set}
use Rattle.line.specs.Bits.{pick}
use Rattle.rules.specs.Definitions.Setters.{with_reception}
use Rattle.rules.specs.Definitions.Reception.{with_bytes, with_nibble, bits_laid}
use Rattle.row.specs.Row.{byte_at, core_by, core_of}
use Rattle.row.proofs.Laws.{byte_of}
use Rattle.ordinary.proofs.lay_nibble.Goals as goal

pub returns : goal.returns
unfolding bits_laid with_nibble core_of core_by
returns c =
    let a = c.args in
    let k = (core_of c.args.s.now) in
    let e : c.wide-b.result ≡ get_or k.reception.bytes (c.wide.result / 2 % 34) 0 =
    c.wide-b.ensures.value ∙ sym (byte_of 34 (byte_at a.s.now) 74 (c.wide.result / 2 % 34) (omega arith)) in
    c.put_heard-2.ensures
    ∙ (λ i. with_reception k (with_bytes k.reception (set k.reception.bytes (c.wide.result / 2 % 34) (e i / 16 * 16 + c.wide-nibble.ensures.value i % 16))))
    ∙ (λ i. with_reception k (with_bytes k.reception (set k.reception.bytes (c.wide.ensures.value i / 2 % 34) (get_or k.reception.bytes (c.wide.ensures.value i / 2 % 34) 0 / 16 * 16 + byte_at a.s.now 8 % 16))))
    ∙ ap (λ (b : Bool). with_reception k (with_bytes k.reception (pick b (set k.reception.bytes (byte_at a.s.now 7 / 2 % 34) (byte_at a.s.now 8 % 16 * 16)) (set k.reception.bytes (byte_at a.s.now 7 / 2 % 34) (get_or k.reception.bytes (byte_at a.s.now 7 / 2 % 34) 0 / 16 * 16 + byte_at a.s.now 8 % 16))))) (sym (ne_eqb _ _ c.if-k-eq0.false))
