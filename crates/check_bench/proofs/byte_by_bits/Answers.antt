use mathlib.Core.Path.{◌∙◌}
use Rattle.line.proofs.Laws.{bits_split, remainder_append}
use Rattle.check_bench.proofs.byte_by_bits.Goals as goal

pub returns : goal.returns
returns c =
    c.nibble_by_bits.ensures ∙ rw (c.nibble_by_bits-high.ensures, bits_split 4 4, remainder_append)
