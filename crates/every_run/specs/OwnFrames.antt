-- The model's own frame, over every run (01, Receiving: "The model's own frame, sent whole or ended by an error, is not stored, touches no receiving channel and is never
-- acknowledged by the model"). An immediate reply, "unless lost, is the model's own frame" (02, Req 01).
--   sends, replies == the model drives a level of its own frame, or of its immediate reply, in the slot to come        verdict_in, reply_verdict_in == what the slot's sample is for it
--   status_at, reply_at == the one byte of the map that a service marks, and a reply        Own, OwnReply == what holds of a slot, Between of any other event
--   OwnOver == what holds of a list of events, from a controller on        OwnFrames == the claim over every run
use Rattle.std.specs.Prelude.{ℕ, ◌+◌, ◌*◌, ◌/◌, ◌%◌, ◌≤◌, Bool, true, false, List, [], ◌∷◌, ◌≡◌, get_or}
use Rattle.rules.specs.Definitions.Channels.{base}
use Rattle.rules.specs.Definitions.Reception.{under_way}
use Rattle.rules.specs.Definitions.Attempt.{drives_frame}
use Rattle.rules.specs.Definitions.State.{is_active}
use Rattle.rules.specs.Definitions.Slots.{role_in, reply_verdict, heard, verdict, ending, drives, sample_of}
use Rattle.rules.specs.Definitions.Run.{fresh, next, after}
use Rattle.every_run.specs.Observer.{accepted}
use Rattle.rules.specs.declared.Stage.TheVariants.{Sending}
use Rattle.rules.specs.declared.Verdict.{Verdict}
use Rattle.rules.specs.declared.Verdict.TheVariants.{Goes, Lost, Failed, Done}
use Rattle.rules.specs.declared.Ending.TheVariants.{Going}
use Rattle.rules.specs.declared.Role.TheVariants.{Replier}
use Rattle.rules.specs.declared.Controller.{Controller}
use Rattle.rules.specs.declared.Event.{Event}
use Rattle.rules.specs.declared.Event.TheVariants.{Reset, Write, Read, Slot}

-- sender from its first driven slot on
abbrev pub sends : Controller → Bool
sends c = drives_frame c.core.service.effort.progress

-- replier from RTR's first half on: "It starts at the RTR bit"
abbrev pub replies : Controller → Bool
replies c = c.core.reply.going

abbrev pub verdict_in : Controller → ℕ → Verdict
verdict_in c levels = verdict c.core (sample_of c levels)

abbrev pub reply_verdict_in : Controller → ℕ → Verdict
reply_verdict_in c levels = reply_verdict (role_in c.core) c.core (sample_of c levels)

-- +3 of the channel in service, which holds M_L, CHER, CHTx and CHRx
abbrev pub status_at : Controller → ℕ
status_at c = base c.core.service.channel + 3

-- +3 of the channel that replies
abbrev pub reply_at : Controller → ℕ
reply_at c = base c.core.reply.channel + 3

abbrev pub byte_at : Controller → ℕ → ℕ
byte_at c a = get_or c.memory a 0

-- "sent whole or ended by an error"
pub data Ended : Verdict → Type 0 where
  whole : Ended Done
  error : (code : ℕ) → Ended (Failed code)

pub record Own (c : Controller) (levels : ℕ) : Type 0 where
  -- "is not stored, touches no receiving channel": no mailbox byte changes; of the whole map nothing but the status byte of the channel in service, and of that only CHER and
  -- CHTx, and only where the slot ends the service
  pub mailbox : sends c ≡ true → (a : ℕ) → 0x80 ≤ a → byte_at (next c (Slot levels)) a ≡ byte_at c a
  pub elsewhere : sends c ≡ true → (a : ℕ) → (a ≡ status_at c → ⊥) → byte_at (next c (Slot levels)) a ≡ byte_at c a
  pub status : sends c ≡ true
      → (byte_at (next c (Slot levels)) (status_at c) / 8 ≡ byte_at c (status_at c) / 8) × (byte_at (next c (Slot levels)) (status_at c) % 2 ≡ byte_at c (status_at c) % 2)
  pub going : sends c ≡ true → ending c.core (verdict_in c levels) (heard c.core (verdict_in c levels) (sample_of c levels)) ≡ Going → (next c (Slot levels)).memory ≡ c.memory
  -- "never acknowledged by the model": both acknowledge slots of its frame are driven recessive
  pub first : sends c ≡ true → c.core.service.effort.progress.at ≡ 50 + 10 * c.core.service.effort.frame.n → drives c.core ≡ 1
  pub second : sends c ≡ true → c.core.service.effort.progress.at ≡ 51 + 10 * c.core.service.effort.frame.n → drives c.core ≡ 1
  -- and in the slot that ends it nothing of it is left that a later slot could store or acknowledge
  pub over : accepted c (Slot levels) ≡ true → is_active c.core.activity.mode ≡ true → sends c ≡ true → Ended (verdict_in c levels)
      → under_way (next c (Slot levels)).core.reception.place ≡ false
  -- till then, or till it is lost to another module's frame, it stays the model's own: each of its slots is one of these
  pub goes_on : accepted c (Slot levels) ≡ true → is_active c.core.activity.mode ≡ true → sends c ≡ true → verdict_in c levels ≡ Goes
      → (next c (Slot levels)).core.service.effort.progress.stage ≡ Sending
  -- before a channel has matched, as in the start sequence that an attempt joins, another module's frame changes no mailbox byte and no other channel either
  pub unmatched : sends c ≡ false → replies c ≡ false → c.core.reception.winner.matched ≡ false
      → (a : ℕ) → (a ≡ status_at c → ⊥) → byte_at (next c (Slot levels)) a ≡ byte_at c a

-- the same of an immediate reply
pub record OwnReply (c : Controller) (levels : ℕ) : Type 0 where
  -- "never in a frame that the model itself is sending": with a reply under way the model is the replier, neither sender nor asker
  pub role : replies c ≡ true → role_in c.core ≡ Replier
  -- "is not stored, touches no receiving channel": no mailbox byte changes; of the whole map nothing but the status byte of the channel that replies, of that not M_L, and
  -- only where the slot ends the reply
  pub mailbox : replies c ≡ true → (a : ℕ) → 0x80 ≤ a → byte_at (next c (Slot levels)) a ≡ byte_at c a
  pub elsewhere : replies c ≡ true → (a : ℕ) → (a ≡ reply_at c → ⊥) → byte_at (next c (Slot levels)) a ≡ byte_at c a
  pub status : replies c ≡ true → byte_at (next c (Slot levels)) (reply_at c) / 8 ≡ byte_at c (reply_at c) / 8
  pub going : replies c ≡ true → reply_verdict_in c levels ≡ Goes → (next c (Slot levels)).memory ≡ c.memory
  pub lost : replies c ≡ true → reply_verdict_in c levels ≡ Lost → (next c (Slot levels)).memory ≡ c.memory
  -- "never acknowledged by the model": both acknowledge slots of the reply are driven recessive
  pub first : replies c ≡ true → c.core.reply.at ≡ 50 + 10 * c.core.reply.frame.n → drives c.core ≡ 1
  pub second : replies c ≡ true → c.core.reply.at ≡ 51 + 10 * c.core.reply.frame.n → drives c.core ≡ 1
  -- and in the slot that ends it nothing of it is left that a later slot could store or acknowledge
  pub over : accepted c (Slot levels) ≡ true → is_active c.core.activity.mode ≡ true → replies c ≡ true → Ended (reply_verdict_in c levels)
      → under_way (next c (Slot levels)).core.reception.place ≡ false
  -- till then, or till it is lost to another module's frame, it stays the model's own: each of its slots is one of these
  pub goes_on : accepted c (Slot levels) ≡ true → is_active c.core.activity.mode ≡ true → replies c ≡ true → reply_verdict_in c levels ≡ Goes
      → replies (next c (Slot levels)) ≡ true

-- any other event leaves an attempt or a reply under way as it is, or leaves no frame under way
pub data Left (c : Controller) : Type 0 where
  on : c.core.service.effort.progress.stage ≡ Sending → Left c
  gone : under_way c.core.reception.place ≡ false → Left c

pub data LeftReply (c d : Controller) : Type 0 where
  kept : d.core.reply ≡ c.core.reply → LeftReply c d
  dropped : under_way d.core.reception.place ≡ false → LeftReply c d

pub record Between (c : Controller) (e : Event) : Type 0 where
  pub attempt : c.core.service.effort.progress.stage ≡ Sending → Left (next c e)
  pub reply : replies c ≡ true → LeftReply c (next c e)

abbrev pub OwnIn : Controller → Event → Type 0
OwnIn c Reset = Between c Reset
OwnIn c (Write address value) = Between c (Write address value)
OwnIn c (Read address) = Between c (Read address)
OwnIn c (Slot levels) = Own c levels × OwnReply c levels

-- one claim about the list
abbrev pub OwnOver : Controller → List Event → Type 0
OwnOver c [] = Unit {0}
OwnOver c (e ∷ es) = OwnIn c e × OwnOver (next c e) es

-- the claim, entire
pub record OwnFrames : Type 0 where
  pub every : (es : List Event) → OwnOver fresh es
  pub reached : (es : List Event) (levels : ℕ) → Own (after fresh es) levels
  pub reached_reply : (es : List Event) (levels : ℕ) → OwnReply (after fresh es) levels
