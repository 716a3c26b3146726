use borrow.Author.Tests.{eq-eqb, ne_eqb}
use Rattle.driver.specs.Driver.{nibble_at}
use Rattle.row.specs.Row.{core_of, core_by}
use native.Mathlib.Omega.{arith}
use Prim.Native.Nat.{◌/◌}
use Rattle.row.specs.Row.{byte_at}
use Rattle.row.proofs.Laws.{byte_of}
use Rattle.ordinary.proofs.nibble_at.Goals as goal

pub returns-then-i-eq0-clause-value : goal.returns-then-i-eq0-clause-value
unfolding nibble_at core_of core_by
returns-then-i-eq0-clause-value c =
    let a = c.args in
    let e = byte_of 34 (byte_at a.s.now) 108 (a.i / 2) (omega arith) in
    simp (eq-eqb _ _ c.if-i-eq0.true, e, c.wide-b.ensures.value)

pub returns-clause-value : goal.returns-clause-value
unfolding nibble_at core_of core_by
returns-clause-value c =
    let a = c.args in
    let e = byte_of 34 (byte_at a.s.now) 108 (a.i / 2) (omega arith) in
    simp (ne_eqb _ _ c.if-i-eq0.false, e, c.wide-b.ensures.value)
