-- What makes a frame of another module a valid one for the model (01, Receiving). `w` is who takes it, held from its last command slot on.
--   high, low == the two bytes of identifier and command        owes == whether the model drives the acknowledge        Valid == the frame is valid
use Rattle.std.specs.Prelude.{ℕ, ◌+◌, ◌*◌, ◌/◌, ◌%◌, Bool, true, not, ◌≡◌, length}
use Rattle.line.specs.Frame.{Frame}
use Rattle.rules.specs.Definitions.Registers.{both}
use Rattle.rules.specs.Definitions.Channels.{acknowledge_asked}
use Rattle.rules.specs.Definitions.Hearing.{fits, reply_request}
use Rattle.rules.specs.declared.Winner.{Winner}

-- identifier bits 11 to 4
unfoldable pub high : Frame → ℕ
high f = f.identifier / 16

-- identifier bits 3 to 0, EXT, RAK, R/W, RTR
unfoldable pub low : Frame → ℕ
low f = f.identifier % 16 * 16 + f.command

-- "Matched and fitting, RAK 1, DRAK 0 .. the model drives the acknowledge."
unfoldable pub owes : Winner → Frame → Bool
owes w f = both w.matched (both (fits w (length f.bytes)) (both (acknowledge_asked (low f)) (not w.no_acknowledge)))

pub record Valid (w : Winner) (f : Frame) : Type 0 where
  -- a reply request has no data
  pub request : reply_request (low f) ≡ true → length f.bytes ≡ 0
  -- "RAK 0 with acknowledge seen is FV"
  pub asked : f.acknowledge ≡ true → acknowledge_asked (low f) ≡ true
  -- so is none "where the model drove" one
  pub driven : owes w f ≡ true → f.acknowledge ≡ true
