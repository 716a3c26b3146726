-- The receiver and the decoder agree (demand 2): over a list of slots and a memory map that lies still.
--   receives == the receiver ends a good frame in the last of the slots, and no sooner        Accepted == the slots decode to a frame that is valid for who takes it
use Rattle.std.specs.Prelude.{ℕ, Bool, false, List, [], ◌∷◌, ◌≡◌, eqb, length}
use Rattle.line.specs.Frame.{Frame}
use Rattle.codec.specs.Decode.{frame, reading}
use Rattle.rules.specs.Definitions.Channels.{winner_for}
use Rattle.rules.specs.Definitions.Hearing.{hear_frame}
use Rattle.every_run.specs.Valid.{high, low, Valid}
use Rattle.rules.specs.Definitions.Slots.{reception_judged}
use Rattle.rules.specs.declared.Reception.{Reception}
use Rattle.rules.specs.declared.Hearing.{Hearing}
use Rattle.rules.specs.declared.Hearing.TheVariants.{Silent, Follows, Fault, Good}

-- the slots behind one that was heard so; `rest` is what they come to
unfoldable pub goes_on : Hearing → List ℕ → Bool → Bool
goes_on Silent s rest = false
goes_on Follows s rest = rest
goes_on (Fault code) s rest = false
goes_on Good s rest = eqb (length s) 0

-- from the frame under way on; m is the memory map that names who takes it
unfoldable pub receives : ℕ → List ℕ → Reception → List ℕ → Bool
receives longest m r [] = false
receives longest m r (v ∷ s) = goes_on (hear_frame r longest v) s (receives longest m (reception_judged m Follows r v) s)

pub record Accepted (longest : ℕ) (m s : List ℕ) : Type 0 where
  pub which : Frame
  pub decodes : reading longest s ≡ frame which
  pub valid : Valid (winner_for m (high which) (low which)) which
