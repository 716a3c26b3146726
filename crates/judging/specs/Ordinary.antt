-- A slot by its ways: memory map and state once the sample is judged; and the ordinary slot, which touches no mailbox, no channel and no register.
--   memory_after, core_after == what the sample does, before idle, choice and start        passes, stays == the slot in which neither map nor registers change
--   Marks == where the line has no end, the reply leaves no mark
use Rattle.std.specs.Prelude.{ℕ, Bool, true, false, List, ◌≡◌}
use Rattle.rules.specs.Definitions.Service.{hear_own, stopped}
use Rattle.rules.specs.Definitions.Slots.{role_in, verdict, reply_verdict, heard, memory_judged, core_judged}
use Rattle.rules.specs.declared.Verdict.{Verdict}
use Rattle.rules.specs.declared.Verdict.TheVariants.{Unjudged, Goes, Lost, Failed, Done, Answered}
use Rattle.rules.specs.declared.Hearing.{Hearing}
use Rattle.rules.specs.declared.Hearing.TheVariants.{Silent, Follows, Fault, Good}
use Rattle.rules.specs.declared.Ending.{Ending}
use Rattle.rules.specs.declared.Ending.TheVariants.{Going, Sent, Exhausted, Aborted, Rearbitrated, Fulfilled}
use Rattle.rules.specs.declared.Service.{Service}
use Rattle.rules.specs.declared.Core.{Core}

unfoldable pub memory_after : List ℕ → Core → ℕ → List ℕ
memory_after m k v = memory_judged m k (verdict k v) (reply_verdict (role_in k) k v) (heard k (verdict k v) v)

unfoldable pub core_after : List ℕ → Core → ℕ → Core
core_after m k v = core_judged (memory_after m k v) k (verdict k v) (reply_verdict (role_in k) k v) (heard k (verdict k v) v) v

unfoldable pub passes : Hearing → Bool
passes Silent = true
passes Follows = true
passes (Fault code) = false
passes Good = false

unfoldable pub goes : Ending → Bool
goes Going = true
goes Sent = false
goes Exhausted = false
goes Aborted = false
goes Rearbitrated = false
goes Fulfilled = false

-- the attempt goes on, or there is none and the service does not end
unfoldable pub stays : Verdict → Service → Bool
stays Unjudged s = goes (stopped s)
stays Goes s = true
stays Lost s = false
stays (Failed code) s = false
stays Done s = false
stays Answered s = true

-- an error in a reply and its good end are so for the line too
unfoldable pub Marks : Verdict → Hearing → Type 0
Marks q h = passes h ≡ true → passes (hear_own q) ≡ true
