-- Demand 3, entire: one claim about the list of events.
--   Agrees == the controller stands as the observer says        Drives, DrivesAnswered, DrivesReply == the levels of an attempt, an answered one, a reply        Claim == what holds of an event
--   SendingOver == what holds of a list of events, from a controller and an observer on
use Rattle.std.specs.Prelude.{ℕ, ◌+◌, ◌*◌, ◌≤◌, min, Bool, true, false, not, ◌≡◌, List, [], ◌∷◌, ◌++◌, length, get_or, drop}
use Rattle.line.specs.Bits.{pick}
use Rattle.line.specs.Frame.{Frame, Fits, slots, size}
use Rattle.rules.specs.Definitions.Longest.{longest_of}
use Rattle.rules.specs.Definitions.Reception.{free, takes_start, under_way}
use Rattle.rules.specs.Definitions.Hearing.{acknowledges, receiver_level}
use Rattle.rules.specs.Definitions.Attempt.{largest}
use Rattle.rules.specs.Definitions.State.{is_active, serving}
use Rattle.rules.specs.Definitions.Slots.{role_in, drives, sample_of}
use Rattle.rules.specs.Definitions.Run.{next}
use Rattle.every_run.specs.Tally.{Stand, away, between, opening, inside, answered, Tally, request_t, is_away}
use Rattle.every_run.specs.Observer.{free_o, starts_o, Replying, silent, replies, is_replying, Observer, accepted, sample_o, seen_o, next_o}
use Rattle.rules.specs.declared.Place.{Place}
use Rattle.rules.specs.declared.Phase.TheVariants.{Acknowledge}
use Rattle.rules.specs.declared.Reception.{Reception}
use Rattle.rules.specs.declared.Service.{Service}
use Rattle.rules.specs.declared.Role.{Role}
use Rattle.rules.specs.declared.Role.TheVariants.{Nobody, Receiver, Sender, Asker, Replier}
use Rattle.rules.specs.declared.Controller.{Controller}
use Rattle.rules.specs.declared.Event.{Event}
use Rattle.rules.specs.declared.Event.TheVariants.{Reset, Write, Read, Slot}

-- ---- the controller stands as the observer says

-- the level of the next slot of an active controller: in an attempt and in a reply the frame's next, else dominant only where an acknowledge is owed (Receiving.antt,
-- Acknowledges)
unfoldable pub level_apart : Replying → Observer → ℕ
level_apart silent o = receiver_level o.frame
level_apart (replies c f levels) o = get_or (slots f) (28 + length levels) 1

unfoldable pub level_in : Stand → Observer → ℕ
level_in away o = level_apart o.reply o
level_in between o = level_apart o.reply o
level_in (opening start) o = get_or (slots o.tally.frame) start 1
level_in (inside start levels) o = get_or (slots o.tally.frame) (start + length levels) 1
level_in (answered start n) o = receiver_level o.frame

-- idle and asleep: recessive
unfoldable pub level_o : Observer → ℕ
level_o o = pick (is_active o.activity.mode) (level_in o.tally.stand o) 1

-- what the model is in the frame under way
unfoldable pub role_apart : Replying → Place → Role
role_apart silent here = pick (under_way here) Receiver Nobody
role_apart (replies c f levels) here = Replier

unfoldable pub role_as : Stand → Replying → Place → Role
role_as away y here = role_apart y here
role_as between y here = role_apart y here
role_as (opening start) y here = Sender
role_as (inside start levels) y here = Sender
role_as (answered start n) y here = Asker

-- "only stored counts stop at their largest"
pub record Counted (s : Service) (t : Tally) : Type 0 where
  pub channel : s.channel ≡ t.channel
  pub setting : s.effort.setting ≡ t.setting
  pub lost : s.effort.counters.lost.0 ≡ min t.lost largest
  pub errors : s.effort.counters.errors.0 ≡ min t.errors largest
  pub slots : s.effort.counters.slots.0 ≡ min t.slots largest

pub record Agrees (c : Controller) (o : Observer) : Type 0 where
  pub activity : c.core.activity ≡ o.activity
  pub free_line : free c.core.line ≡ free_o o.line
  pub start_taken : takes_start c.core.line ≡ starts_o o.line
  pub frame : c.core.reception ≡ o.frame
  pub role : role_in c.core ≡ role_as o.tally.stand o.reply o.frame.place
  pub service : serving c.core.service ≡ not (is_away o.tally.stand)
  pub counts : is_away o.tally.stand ≡ false → Counted c.core.service o.tally
  pub level : drives c.core ≡ level_o o
  pub diagnosis : c.core.diagnosis ≡ o.diagnosis

-- ---- the claim

-- xs is an opening part of ys
pub record Opens (xs ys : List ℕ) : Type 0 where
  pub rest : List ℕ
  pub whole : xs ++ rest ≡ ys

-- "Every attempt in it drives an opening part of one fixed frame of n data bytes, without the start sequence where another module gave it": from its slot 0, or from
-- its slot 10 where it joined; the level d of the slot under way included
pub data Origin : ℕ → Type 0 where
  own : Origin 0
  joined : Origin 10

abbrev pub Drives : Stand → Frame → ℕ → Type 0
Drives away f d = Unit {0}
Drives between f d = Unit {0}
Drives (opening start) f d = Origin start × Opens (d ∷ []) (drop start (slots f))
Drives (inside start levels) f d = Origin start × Opens (levels ++ (d ∷ [])) (drop start (slots f))
Drives (answered start n) f d = Unit {0}

-- an answered request drives "the request up to RTR and then at most the acknowledge" (02, Req 01): dominant only where the observer's frame under way is owed one
pub record AtAcknowledge (r : Reception) : Type 0 where
  pub phase : r.place.phase ≡ Acknowledge
  pub owed : acknowledges r ≡ true

abbrev pub DrivesAnswered : Stand → Reception → ℕ → Type 0
DrivesAnswered away r d = Unit {0}
DrivesAnswered between r d = Unit {0}
DrivesAnswered (opening start) r d = Unit {0}
DrivesAnswered (inside start levels) r d = Unit {0}
DrivesAnswered (answered start n) r d = d ≡ 0 → AtAcknowledge r

-- an immediate reply (02, Req 01: "starts at the RTR bit .. and lasts at most 32 + 10n slots"): levels are those of the one frame f from its RTR bit on
pub record DrivesPart (longest : ℕ) (f : Frame) (levels : List ℕ) : Type 0 where
  pub fits : Fits longest f
  pub opens : Opens levels (drop 28 (slots f))
  pub most : length levels ≤ 32 + 10 * length f.bytes

-- the level d of the slot under way included
abbrev pub DrivesReply : Replying → ℕ → ℕ → Type 0
DrivesReply silent longest d = Unit {0}
DrivesReply (replies c f levels) longest d = DrivesPart longest f (levels ++ (d ∷ []))

-- a slot is where an attempt goes on
abbrev pub InSlot : Event → Type 0 → Type 0
InSlot Reset A = Unit {0}
InSlot (Write address value) A = Unit {0}
InSlot (Read address) A = Unit {0}
InSlot (Slot levels) A = A

abbrev pub te : Controller → Bool
te c = c.core.report.flags.te

unfoldable pub bound_of : ℕ → Frame → ℕ
bound_of longest f = pick (request_t f) longest (length f.bytes)

-- "it stands outside any service, .., counts in neither C nor errors"; "An error in it sets .. not TE" (02, Req 01). The counts are facts of the tally; `te` binds the model
pub record Outside (c : Controller) (o : Observer) (e : Event) : Type 0 where
  pub lost : (seen_o c o e).lost ≡ o.tally.lost
  pub errors : (seen_o c o e).errors ≡ o.tally.errors
  pub slots : (seen_o c o e).slots ≡ o.tally.slots
  pub te : te c ≡ false → te (next c e) ≡ false

-- "the sampled level in demand 3 is that of the input selected as the slot begins, before its edges count" (02, Req 05): by the observer's own diagnosis
abbrev pub SampledAs : Controller → Observer → Event → Type 0
SampledAs c o Reset = Unit {0}
SampledAs c o (Write address value) = Unit {0}
SampledAs c o (Read address) = Unit {0}
SampledAs c o (Slot levels) = sample_of c levels ≡ sample_o c o levels

-- o is the observer before the event, seen_o c o e its tally once the sample is judged. `errors` and `slots` are facts of the tally; the others bind the model
pub record Claim (c : Controller) (o : Observer) (e : Event) : Type 0 where
  pub agrees : Agrees c o
  pub sampled : SampledAs c o e
  -- the service's frame is one frame, no longer than the controller sends
  pub fits : is_away o.tally.stand ≡ false → Fits (longest_of c.core) o.tally.frame
  pub driven : accepted c e ≡ true → InSlot e (Drives o.tally.stand o.tally.frame (drives c.core))
  pub answer : accepted c e ≡ true → InSlot e (DrivesAnswered o.tally.stand o.frame (drives c.core))
  -- "At most R + 1 attempts end in error."
  pub errors : (seen_o c o e).errors ≤ (seen_o c o e).setting + 1
  -- "The slots spent in attempts are at most (C + R + 1) × (60 + 10n)."; for a request "n reads 30 in its slot bound" (02, Req 01): the longest length
  pub slots : (seen_o c o e).slots ≤ ((seen_o c o e).lost + (seen_o c o e).setting + 1) * size (bound_of (longest_of c.core) (seen_o c o e).frame)
  -- "the slot of error R + 1 leaves TE 1, and no other event turns it from 0 to 1"
  pub raised : (seen_o c o e).errors ≡ (seen_o c o e).setting + 1 → te (next c e) ≡ true
  pub only : te c ≡ false → te (next c e) ≡ true → (seen_o c o e).errors ≡ (seen_o c o e).setting + 1
  -- a reply under way
  pub reply : accepted c e ≡ true → InSlot e (DrivesReply o.reply (longest_of c.core) (drives c.core))
  pub outside : is_replying o.reply ≡ true → Outside c o e

abbrev pub SendingOver : Controller → Observer → List Event → Type 0
SendingOver c o [] = Agrees c o
SendingOver c o (e ∷ es) = Claim c o e × SendingOver (next c e) (next_o c o e) es
