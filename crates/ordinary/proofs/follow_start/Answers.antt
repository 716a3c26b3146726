use mathlib.Core.Path.{sym, ap, ◌∙◌}
use borrow.Author.Tests.{le-ltb}
use lib.Dec.{eqb}
use Rattle.line.specs.Bits.{pick}
use Rattle.rules.specs.Definitions.Setters.{with_reception}
use Rattle.rules.specs.Definitions.Reception.{moved, entered, winner_taken}
use Rattle.rules.specs.declared.Core.{Core}
use Rattle.row.specs.Row.{core_by, core_of}
use Rattle.ordinary.proofs.Named.{start_enters}
use Rattle.ordinary.proofs.follow_start.Goals as goal

pub returns : goal.returns
unfolding moved entered core_of core_by
returns c =
    let k = (core_of c.args.s.now) in
    c.name_winner.ensures
    ∙ ap (λ (x : Core). with_reception x (pick (eqb x.reception.nibbles 4) (winner_taken x.reception c.args.m.now) x.reception)) c.enter.ensures
    ∙ ap (with_reception k) (sym (start_enters c.args.m.now k.reception (le-ltb _ _ c.if-at-lt9.false)))
