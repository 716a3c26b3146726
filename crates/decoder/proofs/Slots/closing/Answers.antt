use mathlib.Core.Path.{ap, sym, ◌∙◌}
use Rattle.codec.specs.Decode.{refused}
use Rattle.std.proofs.lemmas.Result.{err_from_is_err_and}
use native.Mathlib.Omega.{arith}
use Rattle.line.specs.Frame.{end_of_frame}
use Rattle.decoder.specs.View.{seen_bits}
use Rattle.decoder.proofs.Views.{not_ended, is_whole, gives}
use Rattle.decoder.proofs.Slots.closing.Goals as goal

pub returns-in_err-end : goal.returns-in_err-end
unfolding end_of_frame
returns-in_err-end c =
    let x = c.args in
    let s = x.self.now.levels.now in
    let seen = rw c.in_ok-acknowledge.was at c.acknowledged.ensures in
    let e = not_ended (seen_bits s x.j) s x.j _ seen _ (rw c.in_err-end.was at c.expected.ensures) in
    let p = err_from_is_err_and c.from_residual-in_err-end.result c.from_residual-in_err-end.ensures.1 in
    rw p.1 (e ∙ ap refused (sym p.2))

pub returns : goal.returns
unfolding end_of_frame
returns c =
    let x = c.args in
    let s = x.self.now.levels.now in
    let seen = rw c.in_ok-acknowledge.was at c.acknowledged.ensures in
    let ends = rw c.in_ok-end.was at c.expected.ensures in
    gives s x.j _ _ _ (omega arith) (omega arith) (omega arith) c.head_of.ensures
    (is_whole (seen_bits s x.j) s x.j _ seen _ ends (omega arith))
