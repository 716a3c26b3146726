use Prim.Native.Nat.{◌+◌, ◌*◌, ◌<◌}
use mathlib.Core.Path.{◌∙◌}
use native.Mathlib.Omega.{arith}
use lib.Dec.{ltb, leb}
use borrow.Author.Tests.{ltb-true, leb-true}
use Rattle.row.specs.Row.{byte_at, core_by, core_of}
use Rattle.ordinary.proofs.OwnFrame.{and_true, coded_level, coded_next}
use Rattle.ordinary.proofs.levels_at.Goals as goal

pub returns-then-k-wide-clause-now : goal.returns-then-k-wide-clause-now
unfolding core_of core_by
returns-then-k-wide-clause-now c =
    let x = c.args in
    let a = leb-true 10 x.k (and_true (leb 10 x.k) (ltb x.k (47 + 10 * c.wide.result)) c.if-k-wide.true).0 in
    let b : x.k < 47 + 10 * byte_at x.s.now 12 = rw c.wide.ensures.value at (ltb-true x.k (47 + 10 * c.wide.result) (and_true (leb 10 x.k) (ltb x.k (47 + 10 * c.wide.result)) c.if-k-wide.true).1) in
    c.coded_levels.ensures.now ∙ coded_level (byte_at x.s.now) c.requires.s_bound x.k a (omega (arith, b))

pub returns-then-k-wide-clause-next : goal.returns-then-k-wide-clause-next
unfolding core_of core_by
returns-then-k-wide-clause-next c =
    let x = c.args in
    let a = leb-true 10 x.k (and_true (leb 10 x.k) (ltb x.k (47 + 10 * c.wide.result)) c.if-k-wide.true).0 in
    let b : x.k < 47 + 10 * byte_at x.s.now 12 = rw c.wide.ensures.value at (ltb-true x.k (47 + 10 * c.wide.result) (and_true (leb 10 x.k) (ltb x.k (47 + 10 * c.wide.result)) c.if-k-wide.true).1) in
    c.coded_levels.ensures.next ∙ coded_next (byte_at x.s.now) c.requires.s_bound x.k a b
