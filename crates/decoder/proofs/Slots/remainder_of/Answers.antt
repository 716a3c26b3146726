use Prim.Native.Nat.{◌<◌, ◌^◌}
use mathlib.Core.Path.{refl, ◌∙◌}
use native.Mathlib.Nat.{mod-eq_of_lt}
use native.Mathlib.Omega.{arith}
use Rattle.line.specs.Check.{remainder, all_ones}
use Rattle.line.proofs.Laws.{remainder_below}
use Rattle.codec.proofs.RoundTrip.{below_levels}
use Rattle.decoder.specs.View.{view}
use Rattle.decoder.proofs.Views.{remainder_next}
use Rattle.decoder.proofs.Slots.remainder_of.Goals as goal

pub loop-k-init : goal.loop-k-init
unfolding remainder all_ones view
loop-k-init c = refl

pub loop-k-preserved : goal.loop-k-preserved
loop-k-preserved c =
    let k = c.loop-k.k in
    let s = c.args.self.now.levels.now in
    let below : c.loop-k.r < 2 ^ 15 = rw c.loop-k.invariant (unfold all_ones in remainder_below all_ones _ (omega arith)) in
    c.nibble_divided-r.ensures ∙ rw (mod-eq_of_lt below, c.value_at.ensures, remainder_next (below_levels s c.args.self.now.binary) all_ones k, c.loop-k.invariant)
