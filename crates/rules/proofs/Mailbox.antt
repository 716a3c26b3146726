-- The bytes of the mailbox as a row: its length.
use Prim.Native.Nat.{ℕ, zero, suc, ◌+◌}
use mathlib.Core.List.{List}
use mathlib.Core.Path.{◌≡◌, refl, ap}
use lib.ListN.{length}
use Rattle.rules.specs.Definitions.Mailbox.{mailbox_bytes}

pub mailbox_length : (m : List ℕ) (p k n : ℕ) → length (mailbox_bytes m p k n) ≡ n
unfolding mailbox_bytes
mailbox_length m p k zero = refl
mailbox_length m p k (suc n) = ap suc (mailbox_length m p (k + 1) n)
