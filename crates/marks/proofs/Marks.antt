-- A bit set in a channel's status byte is the mark of that bit.
use Rattle.std.proofs.Common.{◌≡◌, ℕ, ◌+◌, ◌*◌, ◌/◌, ◌%◌, List, bit_or, arith, ◌∙◌}
use Rattle.std.specs.Prelude.{get_or, set}
use Rattle.rules.specs.Definitions.Channels.{base, with_cher, with_chtx, with_chrx}
use Rattle.rules.specs.Definitions.Mailbox.{marked_cher, marked_chtx, marked_chrx}
use Rattle.rules.proofs.Bits.{or_mask}

module _ (m : List ℕ) (c : ℕ) (r : List ℕ) where
  abbrev status : ℕ
  status = get_or m (base c + 3) 0

  pub cher_set : r ≡ set m (base c + 3) (bit_or status 4) → r ≡ marked_cher m c
  unfolding marked_cher with_cher
  cher_set e = let b : bit_or status 4 ≡ status / 8 * 8 + 4 + status % 4 = or_mask status 2 ∙ omega arith in e ∙ rw b

  pub chtx_set : r ≡ set m (base c + 3) (bit_or status 2) → r ≡ marked_chtx m c
  unfolding marked_chtx with_chtx
  chtx_set e = let b : bit_or status 2 ≡ status / 4 * 4 + 2 + status % 2 = or_mask status 1 ∙ omega arith in e ∙ rw b

  pub chrx_set : r ≡ set m (base c + 3) (bit_or status 1) → r ≡ marked_chrx m c
  unfolding marked_chrx with_chrx
  chrx_set e = let b : bit_or status 1 ≡ status / 2 * 2 + 1 = or_mask status 0 ∙ omega arith in e ∙ rw b
