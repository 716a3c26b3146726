use Prim.Native.Nat.{◌<◌}
use mathlib.Core.Path.{◌∙◌}
use native.Mathlib.Omega.{arith}
use lib.ListN.{length, length-set}
use Rattle.decoder.proofs.Views.{fill_next}
use Rattle.decoder.proofs.Slots.fill.Goals as goal

pub loop-k-preserved : goal.loop-k-preserved
loop-k-preserved c =
    let within : c.loop-k.k < length c.loop-k.room = omega (arith, c.loop-k-test.true, c.loop-k.auto.room) in
    rw (length-set, c.value_at.ensures) (fill_next _ _ _ within ∙ c.loop-k.invariant)
