use mathlib.Core.Path.{sym, ap, ◌∙◌}
use lib.Dec.{eqb}
use Rattle.line.specs.Bits.{pick}
use Rattle.rules.specs.Definitions.Setters.{with_reception}
use Rattle.rules.specs.Definitions.Reception.{with_nibbles, entered, nibble_taken, winner_taken}
use Rattle.rules.specs.declared.Phase.TheVariants.{Body}
use Rattle.rules.specs.declared.Core.{Core}
use Rattle.row.specs.Row.{core_by, core_of}
use Rattle.ordinary.proofs.Named.{nibble_named}
use Rattle.ordinary.proofs.take_nibble.Goals as goal

pub returns : goal.returns
unfolding nibble_taken entered core_of core_by
returns c =
    let a = c.args in
    let k = (core_of c.args.s.now) in
    let m = a.m.now in
    c.name_winner.ensures
    ∙ ap (λ (x : Core). with_reception x (pick (eqb x.reception.nibbles 4) (winner_taken x.reception m) x.reception))
    (c.enter.ensures
    ∙ ap (λ (x : Core). with_reception x (entered x.reception Body))
    (c.put_nibbles.ensures
    ∙ (λ i. with_reception (c.lay_nibble.ensures i) (with_nibbles (c.lay_nibble.ensures i).reception (c.more_nibbles.ensures i)))))
    ∙ ap (with_reception k) (sym (nibble_named m k.reception))
