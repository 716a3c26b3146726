use Rattle.std.proofs.Common.{ap, ◌∙◌}
use Rattle.session.specs.Reading.{bad}
use Rattle.session.proofs.Laws.{found, refused}
use Rattle.session.proofs.varint_at.Goals as goal

pub returns-in-Ok : goal.returns-in-Ok
returns-in-Ok c = found c.args.s.now c.args.at c.if-s-at.false c.in-Ok.number.value c.in-Ok.number.used c.in-Ok.number.rest.now c.in-Ok.ensures.number

pub returns-in-Err : goal.returns-in-Err
returns-in-Err c =
    ap (λ f. bad f c.args.at c.in-Err.bad.looked) c.from-in-Err.ensures
    ∙ refused c.args.s.now c.args.at c.if-s-at.false c.in-Err.bad.why c.in-Err.bad.looked c.in-Err.ensures.number
