use borrow.Author.Tests.{lt-ltb, le-ltb}
use Rattle.row.specs.Row.{byte_at, core_by, core_of}
use Rattle.ordinary.proofs.OwnFrame.{own_level}
use Rattle.ordinary.proofs.level_at.Goals as goal

pub returns-then-k-lt10 : goal.returns-then-k-lt10
unfolding core_of core_by
returns-then-k-lt10 c =
    let a = c.args in
    let e = c.wide-long.ensures.value in
    rw (← (own_level (byte_at a.s.now) c.requires a.k))
    (simp (lt-ltb _ _ c.if-k-lt10.true, ← c.start_level.ensures))

pub returns-then-k-long : goal.returns-then-k-long
unfolding core_of core_by
returns-then-k-long c =
    let a = c.args in
    let e = c.wide-long.ensures.value in
    rw (← (own_level (byte_at a.s.now) c.requires a.k))
    (simp (lt-ltb _ _ (rw e at c.if-k-long.true), le-ltb _ _ c.if-k-lt10.false, ← c.slot_coded.ensures))

pub returns-then-k-long-2 : goal.returns-then-k-long-2
unfolding core_of core_by
returns-then-k-long-2 c =
    let a = c.args in
    let e = c.wide-long.ensures.value in
    rw (← (own_level (byte_at a.s.now) c.requires a.k))
    (simp (lt-ltb _ _ (rw e at c.if-k-long-2.true), le-ltb _ _ (rw e at c.if-k-long.false), le-ltb _ _ c.if-k-lt10.false))

pub returns : goal.returns
unfolding core_of core_by
returns c =
    let a = c.args in
    let e = c.wide-long.ensures.value in
    rw (← (own_level (byte_at a.s.now) c.requires a.k))
    (simp (le-ltb _ _ (rw e at c.if-k-long-2.false), le-ltb _ _ (rw e at c.if-k-long.false), le-ltb _ _ c.if-k-lt10.false))
