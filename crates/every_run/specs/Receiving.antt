-- What reaches the mailbox, and what the model acknowledges (01, Receiving; 02, Req 01, Req 04): one claim about the list of events.
--   received, error_after == what a frame does to the memory map, and to 0x07        Log, log_next == the samples since the frame's start, and the memory map that names who takes it
--   Heeds == what holds of a slot, whoever sends        Delivers == what holds of a slot of another module's frame
--   Acknowledges == what holds where the model drives an acknowledge
--   ReceivingOver == what holds of a list of events, from a controller and a log on
use Rattle.std.specs.Prelude.{ℕ, ◌+◌, ◌*◌, ◌/◌, ◌%◌, ◌≤◌, true, false, List, [], ◌∷◌, ◌++◌, ◌≡◌, eqb, leb, length, get_or, take}
use Rattle.line.specs.Bits.{pick}
use Rattle.line.specs.Frame.{Frame, Fits, slots}
use Rattle.rules.specs.Definitions.Longest.{longest_of}
use Rattle.rules.specs.Definitions.Registers.{CV, BOV}
use Rattle.rules.specs.Definitions.Channels.{winner_for}
use Rattle.rules.specs.Definitions.Mailbox.{status_byte, laid_from, check_bytes, retagged, marked_cher, marked_chrx}
use Rattle.rules.specs.Definitions.Reception.{takes_start, under_way}
use Rattle.every_run.specs.Valid.{high, low, owes, Valid}
use Rattle.rules.specs.Definitions.Service.{receives, own_frame}
use Rattle.rules.specs.Definitions.State.{is_active}
use Rattle.rules.specs.Definitions.Slots.{role_in, heard, verdict, drives, sample_of}
use Rattle.rules.specs.Definitions.Run.{next}
use Rattle.every_run.specs.Observer.{accepted}
use Rattle.every_run.specs.OwnFrames.{status_at}
use Rattle.rules.specs.declared.Winner.{Winner}
use Rattle.rules.specs.declared.Hearing.{Hearing}
use Rattle.rules.specs.declared.Hearing.TheVariants.{Silent, Follows, Fault, Good}
use Rattle.rules.specs.declared.Role.{Role}
use Rattle.rules.specs.declared.Role.TheVariants.{Nobody, Receiver, Sender, Asker, Replier}
use Rattle.rules.specs.declared.Controller.{Controller}
use Rattle.rules.specs.declared.Event.{Event}
use Rattle.rules.specs.declared.Event.TheVariants.{Reset, Write, Read, Slot}

-- ---- what a valid frame does to the memory map

-- "status, data and these two bytes", the check: "when M_L is at least n + 3", else "nothing extra"; "The count in the status byte still says n" (02, Req 04)
unfoldable pub stored_bytes : Winner → Frame → List ℕ
stored_bytes w f = status_byte (low f) (length f.bytes) ∷ (f.bytes ++ pick (leb (length f.bytes + 3) w.length) (check_bytes f) [])

-- "writes the status byte .. at 0x80 + pointer and the n data bytes after it", the identifier to the tag, CHRx
unfoldable pub stored_frame : List ℕ → Winner → Frame → List ℕ
stored_frame m w f = marked_chrx (retagged (laid_from m w.pointer 0 (stored_bytes w f)) w.channel (high f) (low f)) w.channel

-- nothing where no channel takes it; "It fits when n + 1 is at most M_L", else CHER
unfoldable pub received : List ℕ → Winner → Frame → List ℕ
received m w f = pick w.matched (pick (leb (length f.bytes + 1) w.length) (stored_frame m w f) (marked_cher m w.channel)) m

-- 0x07: BOV where it is "otherwise valid but doesn't fit"; u where no channel takes it; else it stays
unfoldable pub error_after : ℕ → ℕ → Winner → Frame → ℕ
error_after x u w f = pick w.matched (pick (leb (length f.bytes + 1) w.length) x BOV) u

-- ---- the log

-- the samples since the start of the frame under way, and the memory map as its last command slot left it; both empty before
pub record Log : Type 0 where
  pub samples : List ℕ
  pub held : List ℕ

unfoldable pub no_log : Log
no_log = record { samples = []; held = [] }

-- start, identifier and command are 30 slots; m is the memory map after the sample
unfoldable pub sampled_log : Log → ℕ → List ℕ → Log
sampled_log l v m =
    record { samples = l.samples ++ (v ∷ []); held = pick (eqb (length (l.samples ++ (v ∷ []))) 30) m l.held }

-- an accepted event from controller c: a slot of an active controller has a sample
unfoldable pub log_in : Controller → Log → Event → Log
log_in c l Reset = l
log_in c l (Write address value) = l
log_in c l (Read address) = l
log_in c l (Slot levels) = pick (is_active c.core.activity.mode) (sampled_log l (sample_of c levels) (next c (Slot levels)).memory) l

-- a refused event adds nothing; no log outlives the controller's frame under way, which is the observer's (`agrees` in Sending.antt)
unfoldable pub log_next : Controller → Log → Event → Log
log_next c l e = pick (under_way (next c e).core.reception.place) (pick (accepted c e) (log_in c l e) l) no_log

-- who takes frame f: "taken in the last command slot and held"
abbrev pub taker : Log → Frame → Winner
taker l f = winner_for l.held (high f) (low f)

abbrev pub role : Controller → Role
role c = role_in c.core

-- a good frame that no channel takes leaves 0x07; an answer "where none takes it" is CV (02, Req 01)
unfoldable pub untaken_code : Role → ℕ → ℕ
untaken_code Nobody x = x
untaken_code Receiver x = x
untaken_code Sender x = x
untaken_code Asker x = CV
untaken_code Replier x = x

-- ---- a slot

-- what the sample of a slot is for the line and the frame under way
abbrev pub hears : Controller → ℕ → Hearing
hears c levels = heard c.core (verdict c.core (sample_of c levels)) (sample_of c levels)

-- a slot of an active controller, whoever sends
pub record Heeds (c : Controller) (levels : ℕ) : Type 0 where
  -- with no frame under way a dominant sample begins one where the line takes a start
  pub begins : role c ≡ Nobody → takes_start c.core.line ≡ true → sample_of c levels ≡ 0 → hears c levels ≡ Follows
  -- a frame that follows stays under way, unless the controller becomes idle
  pub kept : hears c levels ≡ Follows → is_active (next c (Slot levels)).core.activity.mode ≡ true → under_way (next c (Slot levels)).core.reception.place ≡ true
  -- a byte of the mailbox changes in no slot but another module's
  pub mailbox : receives (role c) ≡ false → (a : ℕ) → 128 ≤ a → get_or (next c (Slot levels)).memory a 0 ≡ get_or c.memory a 0

-- the samples are a valid frame, whole, and the memory map shows it
pub record Taken (c : Controller) (l : Log) (levels : ℕ) : Type 0 where
  pub frame : Frame
  pub fits : Fits (longest_of c.core) frame
  pub whole : l.samples ++ (sample_of c levels ∷ []) ≡ slots frame
  pub valid : Valid (taker l frame) frame
  pub memory : role c ≡ Receiver → (next c (Slot levels)).memory ≡ received c.memory (taker l frame) frame
  -- the end of an answered request also marks CHER and CHTx of its own channel, and nothing else
  pub elsewhere : (a : ℕ) → (a ≡ status_at c → ⊥) → get_or (next c (Slot levels)).memory a 0 ≡ get_or (received c.memory (taker l frame) frame) a 0
  pub status : (get_or (next c (Slot levels)).memory (status_at c) 0 / 8 ≡ get_or (received c.memory (taker l frame) frame) (status_at c) 0 / 8)
      × (get_or (next c (Slot levels)).memory (status_at c) 0 % 2 ≡ get_or (received c.memory (taker l frame) frame) (status_at c) 0 % 2)
  pub error : (next c (Slot levels)).core.report.error ≡ error_after c.core.report.error (untaken_code (role c) c.core.report.error) (taker l frame) frame

-- a slot of a frame that another module sends
pub record Delivers (c : Controller) (l : Log) (levels : ℕ) : Type 0 where
  -- what is delivered is a whole valid frame
  pub good : hears c levels ≡ Good → Taken c l levels
  -- a frame whose last slot is reached without a fault is delivered
  pub complete : (f : Frame) → Fits (longest_of c.core) f → l.samples ++ (sample_of c levels ∷ []) ≡ slots f → hears c levels ≡ Good
  -- a fault is heard only where the samples open no valid frame
  pub faultless : (code : ℕ) → hears c levels ≡ Fault code
      → (f : Frame) → Fits (longest_of c.core) f → Valid (taker l f) f → (rest : List ℕ) → l.samples ++ (sample_of c levels ∷ rest) ≡ slots f → ⊥
  -- every other slot follows
  pub silent : hears c levels ≡ Silent → ⊥
  -- before the last slot no byte of the mailbox changes
  pub early : (hears c levels ≡ Good → ⊥) → (a : ℕ) → 128 ≤ a → get_or (next c (Slot levels)).memory a 0 ≡ get_or c.memory a 0

abbrev pub DeliversIn : Controller → Log → Event → Type 0
DeliversIn c l Reset = Unit {0}
DeliversIn c l (Write address value) = Unit {0}
DeliversIn c l (Read address) = Unit {0}
DeliversIn c l (Slot levels) = accepted c (Slot levels) ≡ true → is_active c.core.activity.mode ≡ true → Heeds c levels × (receives (role c) ≡ true → Delivers c l levels)

-- ---- the acknowledge

-- a valid frame that asks for an acknowledge and whose taker gives it; so far all slots before the acknowledge are sampled, and its first
pub record Owing (longest : ℕ) (l : Log) : Type 0 where
  pub frame : Frame
  pub fits : Fits longest frame
  pub valid : Valid (taker l frame) frame
  pub owed : owes (taker l frame) frame ≡ true
  pub first : ℕ
  pub samples : l.samples ≡ take (50 + 10 * length frame.bytes) (slots frame) ++ (first ∷ [])

pub record Acknowledges (c : Controller) (l : Log) : Type 0 where
  -- the level for the next slot is dominant and the model drives no frame of its own: such a frame stands there
  pub only : drives c.core ≡ 0 → own_frame (role c) ≡ false → Owing (longest_of c.core) l
  -- and where one does, with nine slots to come, the level is dominant
  pub due : receives (role c) ≡ true → (f : Frame) → Fits (longest_of c.core) f → owes (taker l f) f ≡ true → (rest : List ℕ) → length rest ≡ 9 → l.samples ++ rest ≡ slots f → drives c.core ≡ 0

-- ---- every event

abbrev pub ReceivingOver : Controller → Log → List Event → Type 0
ReceivingOver c l [] = Acknowledges c l
ReceivingOver c l (e ∷ es) = Acknowledges c l × DeliversIn c l e × ReceivingOver (next c e) (log_next c l e) es
