use mathlib.Core.Bool.{not}
use lib.Dec.{eqb, ltb}
use borrow.Author.Tests.{ltb-true}
use Rattle.rules.specs.Definitions.Attempt.{in_service, between_attempts}
use Rattle.rules.proofs.Logic.{not_true}
use Rattle.row.specs.Row.{byte_at, core_by, core_of}
use Rattle.ordinary.proofs.OwnFrame.{and_true}
use Rattle.within.proofs.Access.{resting}
use Rattle.within.proofs.kept_alone.Goals as goal

pub returns : goal.returns
unfolding in_service between_attempts core_of core_by
returns c =
    λ e. let x = c.args in
    let a = and_true (ltb x.value 256) _ e in
    let b = and_true (not (eqb (byte_at x.s.now 55) 1)) _ a.1 in
    let d = and_true (eqb (byte_at x.s.now 68) 0) c.plain.result b.1 in
    record {
      plain = c.plain.ensures d.1;
      byte = ltb-true x.value 256 a.0;
      waits = not_true (eqb (byte_at x.s.now 55) 1) b.0;
      rests = (resting (byte_at x.s.now 68) d.0).0;
      between = (resting (byte_at x.s.now 68) d.0).1;
    }
