use Prim.Native.Nat.{ℕ}
use mathlib.Core.Bool.{false}
use mathlib.Core.Path.{sym, ap, subst, ◌∙◌}
use lib.Dec.{eqb}
use Rattle.line.specs.Bits.{pick}
use Rattle.line.specs.Frame.{size}
use Rattle.diagnosis.specs.Control.{compares_transmission}
use Rattle.rules.specs.Definitions.Setters.{with_service}
use Rattle.rules.specs.Definitions.Registers.{both}
use Rattle.rules.specs.Definitions.Hearing.{receiver_level}
use Rattle.rules.specs.Definitions.Attempt.{level_at}
use Rattle.rules.specs.Definitions.Slots.{service_judged}
use Rattle.rules.specs.declared.Verdict.TheVariants.{Goes}
use Rattle.rules.specs.declared.Core.{Core}
use Rattle.row.specs.Row.{core_of}
use Rattle.ordinary.specs.Ways.{Moves}
use Rattle.ordinary.proofs.Moving.{as_sends, as_receives, received, sent, own_turn}
use Rattle.ordinary.proofs.carried.Goals as goal

pub returns-then-sends-clause-moves : goal.returns-then-sends-clause-moves
unfolding size
returns-then-sends-clause-moves c =
    let a = c.args in
    let k = (core_of c.args.s.now) in
    let r = as_sends a.sends a.next a.m.now k a.v c.if-sends.true c.requires in
    let e = c.follow.ensures in
    subst (λ (n : ℕ). Moves a.m.now k a.control a.v (core_of c.sent.new.s) n c.sent.result.turns) (sym c.sent.ensures.level)
    (sent a.m.now k a.control a.v r (sym (own_turn a.m.now k a.control a.v r))
    (c.sent.ensures.turns ∙ ap (λ (x : Core). both (pick (compares_transmission a.control) (eqb (level_at x.service.effort.frame x.service.effort.progress.at) 0) false) (eqb a.next 1)) e)
    (core_of c.sent.new.s)
    (c.sent.ensures.state ∙ ap (λ (x : Core). with_service x (service_judged Goes x.service)) e))

pub returns-clause-moves : goal.returns-clause-moves
unfolding size
returns-clause-moves c =
    let a = c.args in
    let k = (core_of c.args.s.now) in
    let r = as_receives a.sends a.next a.m.now k a.v c.if-sends.false c.requires in
    let e = c.follow.ensures in subst (λ (x : Core). Moves a.m.now k a.control a.v x c.receiver_level.result false) (sym e)
    (received a.m.now k a.control a.v r (c.receiver_level.ensures ∙ ap (λ (x : Core). receiver_level x.reception) e))
