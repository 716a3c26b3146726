-- The check of frames captured on real buses, worked out.
use mathlib.Core.Path.{refl}
use Rattle.line.specs.Bits.{bits}
use Rattle.line.specs.Check.{polynomial, check_bit, remainder, all_ones, check}
use Rattle.line.specs.Frame.{byte_bits, covered}
use Rattle.line.specs.Claims.{Checked}

pub checked : Checked
unfolding bits polynomial check_bit remainder all_ones check byte_bits covered
checked = record { captured_4d4 = refl; captured_5e4 = refl; captured_8c4 = refl; nine_digits = refl }
