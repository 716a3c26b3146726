use borrow.Author.Tests.{lt-ltb, le-ltb}
use Rattle.driver.specs.Driver.{placed}
use Rattle.driver.proofs.Levels.{level_placed}
use Rattle.driver.proofs.level_of.Goals as goal

pub returns-then-k-lt10 : goal.returns-then-k-lt10
unfolding placed
returns-then-k-lt10 c =
    let a = c.args in
    let l = c.told-bytes in
    rw (← (level_placed a.bytes.now a.n a.k l))
    (simp (lt-ltb _ _ c.if-k-lt10.true, ← c.start_level.ensures))

pub returns-then-k-long : goal.returns-then-k-long
unfolding placed
returns-then-k-long c =
    let a = c.args in
    let e = c.count-long.ensures.value in
    let l = c.told-bytes in
    rw (← (level_placed a.bytes.now a.n a.k l))
    (simp (lt-ltb _ _ (rw e at c.if-k-long.true), le-ltb _ _ c.if-k-lt10.false, ← c.slot_coded.ensures))

pub returns-then-k-long-2 : goal.returns-then-k-long-2
unfolding placed
returns-then-k-long-2 c =
    let a = c.args in
    let e = c.count-long.ensures.value in
    let l = c.told-bytes in
    rw (← (level_placed a.bytes.now a.n a.k l))
    (simp (lt-ltb _ _ (rw e at c.if-k-long-2.true), le-ltb _ _ (rw e at c.if-k-long.false), le-ltb _ _ c.if-k-lt10.false))

pub returns : goal.returns
unfolding placed
returns c =
    let a = c.args in
    let e = c.count-long.ensures.value in
    let l = c.told-bytes in
    rw (← (level_placed a.bytes.now a.n a.k l))
    (simp (le-ltb _ _ (rw e at c.if-k-long-2.false), le-ltb _ _ (rw e at c.if-k-long.false), le-ltb _ _ c.if-k-lt10.false))
