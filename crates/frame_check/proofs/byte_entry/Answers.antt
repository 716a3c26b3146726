use Prim.Native.Nat.{ℕ}
use Rattle.line.specs.Bits.{bits}
use Rattle.line.specs.Check.{remainder, check_bit, polynomial}
use Rattle.line.proofs.Tables.{values, at}
use Rattle.frame_check.proofs.byte_entry.Goals as goal

pub returns : goal.returns
unfolding remainder check_bit polynomial bits values
returns c =
    at (λ (k : ℕ). remainder 0 (bits 8 k)) 0 256 c.args.byte c.ranges.byte.fits
