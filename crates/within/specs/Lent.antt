-- A call over a lent map and a lent row: what a refused one leaves of them, and what lets a host access be made in place.
--   Unchanged == a refused call leaves map and row byte for byte        Plain, KeptAlone == what lets a host access be made in place
use Rattle.std.specs.Prelude.{ℕ, zero, suc, ◌≤◌, ◌<◌, true, false, List, ◌≡◌}
use Rattle.rules.specs.Definitions.Attempt.{in_service, between_attempts}
use Rattle.rules.specs.Definitions.State.{in_range, is_asleep}
use Rattle.rules.specs.Definitions.Answers.{controller}
use Rattle.row.specs.Row.{core_of}

-- "leaves state .. unchanged" (01, Numbers refused), here of the lent bytes; by the refusal's number
unfoldable pub Unchanged : ℕ → List ℕ → List ℕ → List ℕ → List ℕ → Type 0
Unchanged zero m s m' s' = Unit
Unchanged (suc n) m s m' s' = (m' ≡ m) × (s' ≡ s)

-- a channel's byte or the mailbox's
pub record Plain (m s : List ℕ) (address : ℕ) : Type 0 where
  pub range : in_range (controller m (core_of s)) ≡ true
  pub awake : is_asleep (core_of s).activity.mode ≡ false
  pub low : 16 ≤ address
  pub high : address < 256

pub record KeptAlone (m s : List ℕ) (address value : ℕ) : Type 0 where
  pub plain : Plain m s address
  pub byte : value < 256
  pub waits : (core_of s).activity.waiting ≡ false
  pub rests : in_service (core_of s).service.effort.progress ≡ false
  pub between : between_attempts (core_of s).service.effort.progress ≡ false
