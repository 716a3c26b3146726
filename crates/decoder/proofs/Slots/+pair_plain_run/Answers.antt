use borrow.Author.Tests.{eq-eqb, ne_eqb, le-leb, lt-leb}
use native.Mathlib.Omega.{arith}
use mathlib.Core.Path.{◌∙◌}
use Rattle.decoder.proofs.Views.{plain_short, pair_short, plain_on, pair_on}
use Rattle.decoder.proofs.Slots.+pair_plain_run.Goals as goal

pub pair-returns-then-self-at-lt2 : goal.pair-returns-then-self-at-lt2
pair-returns-then-self-at-lt2 t c =
    let x = c.args in pair_short x.self.now.levels.now x.j c.if-self-at-lt2.true

pub pair-returns-then-a-eq0 : goal.pair-returns-then-a-eq0
pair-returns-then-a-eq0 t c =
    let x = c.args in (omega arith, pair_on x.self.now.levels.now x.j (omega arith) ∙ simp (eq-eqb _ _ c.if-a-self.true, eq-eqb _ _ c.if-a-eq0.true))

pub pair-returns-else-a-eq0 : goal.pair-returns-else-a-eq0
pair-returns-else-a-eq0 t c =
    let x = c.args in pair_on x.self.now.levels.now x.j (omega arith) ∙ simp (eq-eqb _ _ c.if-a-self.true, ne_eqb _ _ c.if-a-eq0.false)

pub pair-returns-then-j-ge-MOST_NIBBLES : goal.pair-returns-then-j-ge-MOST_NIBBLES
pair-returns-then-j-ge-MOST_NIBBLES t c =
    let x = c.args in pair_on x.self.now.levels.now x.j (omega arith) ∙ simp (ne_eqb _ _ c.if-a-self.false, le-leb _ _ c.if-j-ge-MOST_NIBBLES.true)

pub pair-returns : goal.pair-returns
pair-returns t c =
    let x = c.args in rw (pair_on x.self.now.levels.now x.j (omega arith), ne_eqb _ _ c.if-a-self.false, lt-leb _ _ c.if-j-ge-MOST_NIBBLES.false) c.plain_run.ensures

pub plain_run-returns-then-self-j-lt3 : goal.plain_run-returns-then-self-j-lt3
plain_run-returns-then-self-j-lt3 t c =
    let x = c.args in plain_short x.self.now.levels.now x.j c.if-self-j-lt3.true

pub plain_run-returns : goal.plain_run-returns
plain_run-returns t c =
    let x = c.args in rw (plain_on x.self.now.levels.now x.j (omega arith)) c.pair.ensures
