use Rattle.rules.specs.Definitions.Registers.{cleared}
use Rattle.rules.proofs.Bits.{masked}
use Rattle.status.proofs.clear.Goals as goal

pub returns : goal.returns
unfolding cleared
returns c =
    simp (← (masked c.args.value 7), ← (masked c.args.value 4), ← (masked c.args.value 3), ← (masked c.args.value 2), ← (masked c.args.value 1), ← (masked c.args.value 0), ← c.unless-f-6.ensures, ← c.unless-f-5.ensures, ← c.unless-f-4.ensures, ← c.unless-f-3.ensures, ← c.unless-f-2.ensures, ← c.unless-f.ensures)
