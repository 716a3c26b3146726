use Prim.Native.Nat.{ℕ, ◌+◌, ◌*◌, ◌<◌}
use mathlib.Core.Path.{sym, ap, ◌∙◌}
use native.Mathlib.Omega.{arith}
use lib.Dec.{ltb, leb}
use borrow.Author.Tests.{ltb-true, leb-true}
use Rattle.line.specs.Frame.{size}
use Rattle.rules.specs.Definitions.Attempt.{judge_slot, level_at}
use Rattle.row.specs.Row.{byte_at, core_by, core_of}
use Rattle.ordinary.specs.Ways.{Judged}
use Rattle.ordinary.proofs.OwnFrame.{and_true}
use Rattle.ordinary.proofs.Tests.{slot_goes}
use Rattle.ordinary.proofs.send_way.Goals as goal

pub returns-then-v-due : goal.returns-then-v-due
unfolding Judged size core_of core_by
returns-then-v-due c =
    λ m. let a = and_true (leb (byte_at c.args.s.now 12) 30) (ltb c.next_of-k.result (59 + 10 * c.wide.result)) c.if-n-k.true in
    let k = (core_of c.args.s.now) in
    let few = leb-true (byte_at c.args.s.now 12) 30 a.0 in
    let near = ltb-true c.next_of-k.result (59 + 10 * c.wide.result) a.1 in
    let at : k.service.effort.progress.at < 59 + 10 * k.service.effort.frame.n = rw (← c.next_of-k.ensures, ← c.wide.ensures.value) near in
    record {
      waits = c.requires.waits;
      drives = c.requires.drives;
      goes =
          ap (λ (n : ℕ). judge_slot k.service.effort.frame n c.args.v) (sym c.next_of-k.ensures)
          ∙ slot_goes k.service.effort.frame c.next_of-k.result c.args.v c.levels_at-x.result.now c.levels_at-x.ensures.now (c.if-v-due.true ∙ c.due.ensures) (rw (← c.wide.ensures.value) near);
      few = few;
      before = omega (arith, at);
      next = c.levels_at-x.ensures.next ∙ ap (λ (n : ℕ). level_at k.service.effort.frame (n + 1)) c.next_of-k.ensures;
    }
