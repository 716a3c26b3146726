use mathlib.Core.Bool.{not}
use mathlib.Core.Path.{sym, ap, ◌∙◌}
use lib.Dec.{eqb}
use borrow.Author.Tests.{eqb-true}
use Rattle.rules.specs.Definitions.Registers.{both}
use Rattle.rules.specs.Definitions.Reception.{takes_start}
use Rattle.rules.specs.Definitions.Attempt.{in_service}
use Rattle.rules.specs.Definitions.State.{serving}
use Rattle.rules.specs.declared.Line.{Line}
use Rattle.row.specs.Row.{byte_at, core_by, core_of}
use Rattle.ordinary.specs.Ways.{Carries, Judged}
use Rattle.ordinary.proofs.Tests.{rests}
use Rattle.ordinary.proofs.OwnFrame.{and_both}
use Rattle.ordinary.proofs.quiet_way.Goals as goal

pub returns : goal.returns
unfolding Judged Carries serving in_service core_of core_by
returns c =
    record {
      listens = c.requires.listens;
      quiet = c.requires.quiet;
      silent = ap (λ (x : Line). both (eqb c.args.v 0) (takes_start x)) (sym c.line_of.ensures) ∙ (λ i. both (eqb c.args.v 0) (sym c.takes_start.ensures i)) ∙ sym (and_both (eqb c.args.v 0) c.takes_start.result) ∙ c.if-begins.false;
      nobody = λ e. absurd (c.if-s-eq0.false (eqb-true _ 0 (sym (rests (byte_at c.args.s.now 68)) ∙ ap not e)));
    }
