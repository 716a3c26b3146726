-- The ordinary slot: what the tests of a sample say of the state, and what the slot then does.
--   body_goes, .., frame_goes == a sample carries the frame of another module on: no fault, no end of data, no end of frame, no reply, no service that joins
--   Listens == no attempt, no reply, nothing waits to end        Receives, Counts, Sends == the ways of a sample        Judged == what a way says
--   Moves, Awake == the slot but for the diagnosis: state k becomes t        Stepped == the same of rows, or nothing has changed        Took == the slot, or nothing has changed
use Rattle.std.specs.Prelude.{ℕ, ◌+◌, ◌*◌, ◌%◌, ◌≤◌, ◌<◌, Bool, true, false, not, List, Option, Some, None, ◌≡◌, eqb, ltb, get_or}
use Rattle.line.specs.Bits.{pick}
use Rattle.line.specs.Frame.{start, size}
use Rattle.rules.specs.Definitions.Longest.{capacity, most_nibbles}
use Rattle.rules.specs.Definitions.Registers.{both}
use Rattle.rules.specs.Definitions.Channels.{acknowledge_asked, lowest_ready}
use Rattle.rules.specs.Definitions.Reception.{under_way, takes_start, command_ended, winner_taken}
use Rattle.rules.specs.Definitions.Hearing.{acknowledges}
use Rattle.rules.specs.Definitions.Attempt.{drives_frame, is_answered, judge_slot, level_at}
use Rattle.rules.specs.Definitions.Service.{stopped}
use Rattle.rules.specs.Definitions.State.{is_active, is_asleep, serving}
use Rattle.rules.specs.Definitions.Slots.{sampled_slot, drives, ended, active_slot, resting_slot}
use Rattle.rules.specs.Definitions.Run.{accept, answered, rested_slot}
use Rattle.rules.specs.Definitions.Answers.{controller}
use Rattle.rules.specs.declared.Phase.{Phase}
use Rattle.rules.specs.declared.Phase.TheVariants.{Quiet, Start, Body, Acknowledge, End}
use Rattle.rules.specs.declared.Reception.{Reception}
use Rattle.rules.specs.declared.Coded.{Coded}
use Rattle.rules.specs.declared.Verdict.TheVariants as verdict
use Rattle.rules.specs.declared.Ending.TheVariants as ending
use Rattle.rules.specs.declared.Core.{Core}
use Rattle.rules.specs.declared.Controller.{Controller}
use Rattle.rules.specs.declared.Answer.{Answer}
use Rattle.slots.specs.Follow.{turning, moved_slot, moved_level, moved_turns, moved_good}
use Rattle.row.specs.Row.{core_of}
use Rattle.ordinary.specs.declared.Way.{Way}
use Rattle.ordinary.specs.declared.Way.TheVariants.{Other, Counts, Follows}
use Rattle.ordinary.specs.declared.Taken.{Taken}
use Rattle.ordinary.specs.declared.Taken.TheVariants as taken

-- the frame with its winner, where the last command slot has just been taken
unfoldable pub named : List ℕ → Reception → Reception
named m t = pick (command_ended t) (winner_taken t m) t

unfoldable pub is_nothing : Option ℕ → Bool
is_nothing None = true
is_nothing (Some c) = false

-- the level due in a slot, from the level of the fixed frame
unfoldable pub due_from : Coded → ℕ → ℕ → ℕ
due_from x at d = pick (eqb at (51 + 10 * x.n)) (pick (acknowledge_asked (get_or x.bytes 1 0)) 0 d) d

-- ---- a frame of another module goes on

-- R/W 1, behind which a reply may begin, is no ordinary slot
unfoldable pub body_goes : Reception → ℕ → Bool
body_goes r v =
    pick (ltb r.place.at 4) (not (both (eqb r.nibbles 3) (both (eqb r.place.at 2) (eqb (v % 2) 1))))
    (both (not (eqb v (r.bits % 2))) (ltb r.nibbles (most_nibbles capacity)))

unfoldable pub acknowledge_goes : Reception → ℕ → Bool
acknowledge_goes r v =
    pick (eqb r.place.at 0) true
    (pick (eqb (r.bits % 2) 0) false (pick (eqb v 0) (acknowledge_asked (get_or r.bytes 1 0)) (not (acknowledges r))))

unfoldable pub end_goes : Reception → ℕ → Bool
end_goes r v = both (not (eqb v 0)) (ltb r.place.at 7)

-- a service that waits joins behind the start's last slot
unfoldable pub start_goes : Reception → Bool → ℕ → Bool
start_goes r resting v = pick (eqb v (get_or start r.place.at 1)) (pick (ltb r.place.at 9) true resting) false

unfoldable pub goes_in : Phase → Reception → Bool → ℕ → Bool
goes_in Quiet r resting v = false
goes_in Start r resting v = start_goes r resting v
goes_in Body r resting v = body_goes r v
goes_in Acknowledge r resting v = acknowledge_goes r v
goes_in End r resting v = end_goes r v

unfoldable pub frame_goes : Core → ℕ → Bool
frame_goes k v = goes_in k.reception.place.phase k.reception (not (serving k.service)) v

-- ---- the ways of a sample

pub record Listens (k : Core) : Type 0 where
  pub waits : k.activity.waiting ≡ false
  pub drives : drives_frame k.service.effort.progress ≡ false
  pub answered : is_answered k.service.effort.progress ≡ false
  pub replies : k.reply.going ≡ false
  pub goes : stopped k.service ≡ ending.Going

-- with a frame under way it goes on; without one, it begins
unfoldable pub Carries : Bool → Core → ℕ → Type 0
Carries true k v = frame_goes k v ≡ true
Carries false k v = both (eqb v 0) (takes_start k.line) ≡ true

pub record Receives (k : Core) (v : ℕ) : Type 0 where
  pub listens : Listens k
  pub carries : Carries (under_way k.reception.place) k v

pub record Counting (m : List ℕ) (k : Core) (v : ℕ) : Type 0 where
  pub listens : Listens k
  pub quiet : under_way k.reception.place ≡ false
  pub silent : both (eqb v 0) (takes_start k.line) ≡ false
  pub nobody : serving k.service ≡ false → lowest_ready m capacity ≡ None

pub record Sends (k : Core) (v following : ℕ) : Type 0 where
  pub waits : k.activity.waiting ≡ false
  pub drives : drives_frame k.service.effort.progress ≡ true
  pub goes : judge_slot k.service.effort.frame k.service.effort.progress.at v ≡ verdict.Goes
  pub few : k.service.effort.frame.n ≤ capacity
  pub before : k.service.effort.progress.at + 1 < size k.service.effort.frame.n
  pub next : following ≡ level_at k.service.effort.frame (k.service.effort.progress.at + 1)

unfoldable pub Judged : Way → List ℕ → Core → ℕ → Type 0
Judged Other m k v = Unit
Judged Counts m k v = Counting m k v
Judged (Follows true next) m k v = Sends k v next
Judged (Follows false next) m k v = Receives k v

-- ---- the slot but for the diagnosis; control is 0x02

pub record Moves (m : List ℕ) (k : Core) (control v : ℕ) (t : Core) (driven : ℕ) (turned : Bool) : Type 0 where
  pub state : controller m t ≡ sampled_slot (controller m k) v
  pub level : driven ≡ drives t
  pub turns : turned ≡ turning control k t
  pub good : false ≡ ended (controller m k) v
  pub kept : t.diagnosis ≡ k.diagnosis

-- idle or active; the slot is ordinary and the row becomes t, or nothing has changed
pub record Awake (m : List ℕ) (k : Core) (control v : ℕ) (t : Core) (driven : ℕ) (turned : Bool) : Type 0 where
  pub state : controller m t ≡ moved_slot (controller m k) v
  pub level : driven ≡ moved_level k t
  pub turns : turned ≡ moved_turns control k t
  pub awake : is_asleep k.activity.mode ≡ false
  pub good : false ≡ moved_good (controller m k) v
  pub kept : t.diagnosis ≡ k.diagnosis

unfoldable pub Stepped : Bool → List ℕ → List ℕ → ℕ → ℕ → List ℕ → ℕ → Bool → Type 0
Stepped true m s control v t level turns = Awake m (core_of s) control v (core_of t) level turns
Stepped false m s control v t level turns = t ≡ s

-- ---- the slot

-- what a slot answers once neither 6 nor 5 is due (`slot` of Run)
unfoldable pub open_slot : Controller → ℕ → Answer
open_slot c levels = pick (is_active c.core.activity.mode) (answered (active_slot c levels)) (rested_slot (resting_slot c levels))

unfoldable pub Took : Taken → List ℕ → List ℕ → ℕ → List ℕ → Type 0
Took (taken.Drives level) m s levels t = open_slot (controller m (core_of s)) levels ≡ accept level (controller m (core_of t))
Took taken.Other m s levels t = t ≡ s
