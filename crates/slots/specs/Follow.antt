-- A slot by its parts.
--   slot_open == the answer of a slot, by all refusals but 6
--   begins == what lets an idle, a choice or a start follow        own_dominant, turning == a transition of the model's own frame, where ETIP is set
--   moved_slot, .. == a slot that is active or idle, but for the diagnosis        awake_slot == with it        receives, sends == the two common samples
use Rattle.std.specs.Prelude.{ℕ, Bool, true, false, not, [], ◌∷◌, eqb, ltb}
use Rattle.line.specs.Bits.{pick}
use Rattle.diagnosis.specs.Control.{compares_transmission}
use Rattle.rules.specs.Definitions.Longest.{capacity}
use Rattle.rules.specs.Definitions.Registers.{both}
use Rattle.rules.specs.Definitions.Reception.{under_way, start_ended}
use Rattle.rules.specs.Definitions.Hearing.{hear_frame}
use Rattle.rules.specs.Definitions.Attempt.{drives_frame, judge_slot}
use Rattle.rules.specs.Definitions.Service.{own_frame}
use Rattle.rules.specs.Definitions.State.{is_active}
use Rattle.rules.specs.Definitions.Slots.{role_in, drives, sampled_slot, ended, diagnosed_slot, active_slot, resting_slot}
use Rattle.rules.specs.Definitions.Run.{unless_refused, answered, rested_slot}
use Rattle.rules.specs.declared.Stage.{Stage}
use Rattle.rules.specs.declared.Stage.TheVariants.{Resting, Waiting, Opening, Sending, Receiving}
use Rattle.rules.specs.declared.Hearing.{Hearing}
use Rattle.rules.specs.declared.Hearing.TheVariants.{Silent, Follows, Fault, Good}
use Rattle.rules.specs.declared.Verdict.{Verdict}
use Rattle.rules.specs.declared.Verdict.TheVariants.{Unjudged, Goes, Lost, Failed, Done, Answered}
use Rattle.rules.specs.declared.Core.{Core}
use Rattle.rules.specs.declared.Controller.{Controller}
use Rattle.rules.specs.declared.Answer.{Answer}
use Rattle.rules.specs.declared.Refusal.TheVariants.{Levels}

-- An idle that waits, no frame under way, or a start sequence that has just ended.
unfoldable pub begins : Core → Bool
begins k = pick k.activity.waiting true (pick (under_way k.reception.place) (start_ended k.reception) true)

-- ETIP is set, and the model drives a dominant level of a frame of its own
unfoldable pub own_dominant : ℕ → Core → Bool
own_dominant control k = pick (compares_transmission control) (both (own_frame (role_in k)) (eqb (drives k) 0)) false

-- and in state k that the slot leaves the level is recessive
unfoldable pub turning : ℕ → Core → Core → Bool
turning control before k = both (own_dominant control before) (eqb (drives k) 1)

-- active: the sample is judged; idle: nothing moves, and the level is recessive. k is the state that the slot leaves
unfoldable pub moved_slot : Controller → ℕ → Controller
moved_slot c v = pick (is_active c.core.activity.mode) (sampled_slot c v) c

unfoldable pub moved_level : Core → Core → ℕ
moved_level before k = pick (is_active before.activity.mode) (drives k) 1

unfoldable pub moved_turns : ℕ → Core → Core → Bool
moved_turns control before k = pick (is_active before.activity.mode) (turning control before k) false

unfoldable pub moved_good : Controller → ℕ → Bool
moved_good c v = pick (is_active c.core.activity.mode) (ended c v) false

unfoldable pub awake_slot : Controller → ℕ → Answer
awake_slot c levels =
    pick (is_active c.core.activity.mode) (answered (active_slot c levels)) (rested_slot (diagnosed_slot c levels c false false))

-- ---- the two common samples

unfoldable pub is_resting : Stage → Bool
is_resting Resting = true
is_resting Waiting = false
is_resting Opening = false
is_resting Sending = false
is_resting Receiving = false

unfoldable pub is_followed : Hearing → Bool
is_followed Silent = false
is_followed Follows = true
is_followed (Fault code) = false
is_followed Good = false

unfoldable pub is_going : Verdict → Bool
is_going Unjudged = false
is_going Goes = true
is_going Lost = false
is_going (Failed code) = false
is_going Done = false
is_going Answered = false

-- another module's frame goes on, with no service and no reply
unfoldable pub receives : Core → ℕ → Bool
receives k v = both (is_resting k.service.effort.progress.stage) (both (not k.reply.going) (is_followed (hear_frame k.reception capacity v)))

-- the model's own frame goes on
unfoldable pub sends : Core → ℕ → Bool
sends k v = both (drives_frame k.service.effort.progress) (is_going (judge_slot k.service.effort.frame k.service.effort.progress.at v))

-- ---- the slot behind number 6

-- 5
unfoldable pub slot_open : Controller → ℕ → Answer
slot_open c levels =
    unless_refused c ((ltb 7 levels, Levels) ∷ [])
    (pick (is_active c.core.activity.mode) (answered (active_slot c levels)) (rested_slot (resting_slot c levels)))
