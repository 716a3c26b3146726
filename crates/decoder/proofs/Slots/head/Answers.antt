use mathlib.Core.Path.{ap, sym, ◌∙◌}
use Rattle.codec.specs.Decode.{refused}
use Rattle.std.proofs.lemmas.Result.{err_from_is_err_and}
use Rattle.line.specs.Frame.{start}
use Rattle.decoder.specs.View.{view}
use Rattle.decoder.proofs.Views.{bad_code, begun}
use Rattle.decoder.proofs.Slots.head.Goals as goal

pub returns-in_err-j : goal.returns-in_err-j
unfolding start view
returns-in_err-j c =
    let s = c.args.self.now.levels.now in
    let b = begun s _ _ (rw (c.start.ensures, c.in_ok-expected.was) at c.expected.ensures) in
    let e = bad_code s c.args.self.now.binary b _ (rw c.in_err-j.was at c.plain_run.ensures) in
    let p = err_from_is_err_and c.from_residual-in_err-j.result c.from_residual-in_err-j.ensures.1 in
    rw p.1 (e ∙ ap refused (sym p.2))
