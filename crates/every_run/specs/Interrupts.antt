-- The interrupt line, and the events that raise the six status bits (01, Memory map, Receiving and Sending; 02, Req 01).
--   Shared == two bytes share a one        Places == where the bits stand in 0x09
--   IsReset, Exhausts, Completes, Spoils, Stores == the events that raise RST, TE, TOK, RE, and ROK or RNOK
--   Raised == these events leave the bit 1, and no other event turns it from 0 to 1
use Rattle.std.specs.Prelude.{ℕ, ◌<◌, Bool, true, false, List, ◌≡◌, get_or}
use Rattle.rules.specs.Definitions.Longest.{longest_of}
use Rattle.rules.specs.Definitions.Registers.{interrupt_status_at, interrupt_enable, bit, interrupt_status}
use Rattle.rules.specs.Definitions.Channels.{acknowledge_asked}
use Rattle.rules.specs.Statements.Bits.{bit_at}
use Rattle.rules.specs.Definitions.Reception.{data_count}
use Rattle.rules.specs.Definitions.Hearing.{fits, hear_frame}
use Rattle.rules.specs.Definitions.Service.{own_frame}
use Rattle.rules.specs.Definitions.State.{is_active}
use Rattle.rules.specs.Definitions.Slots.{role_in, heard, ending, sample_of}
use Rattle.rules.specs.Definitions.Host.{byte_read, interrupt_line}
use Rattle.rules.specs.Definitions.Run.{fresh, next, after}
use Rattle.every_run.specs.Observer.{accepted}
use Rattle.every_run.specs.OwnFrames.{verdict_in, reply_verdict_in}
use Rattle.rules.specs.declared.Flags.{Flags}
use Rattle.rules.specs.declared.Hearing.{Hearing}
use Rattle.rules.specs.declared.Hearing.TheVariants.{Fault, Good}
use Rattle.rules.specs.declared.Verdict.TheVariants.{Failed, Done}
use Rattle.rules.specs.declared.Ending.TheVariants.{Exhausted}
use Rattle.rules.specs.declared.Controller.{Controller}
use Rattle.rules.specs.declared.Event.{Event}
use Rattle.rules.specs.declared.Event.TheVariants.{Reset, Write, Slot}

-- ---- the line

abbrev pub flags_of : Controller → Flags
flags_of c = c.core.report.flags

abbrev pub status_of : Controller → ℕ
status_of c = interrupt_status (flags_of c)

abbrev pub enable_of : Controller → ℕ
enable_of c = get_or c.memory interrupt_enable 0

-- two bytes share a one
pub record Shared (a b : ℕ) : Type 0 where
  pub place : ℕ
  pub first : bit_at a place ≡ 1
  pub second : bit_at b place ≡ 1

-- 0x09: RST in bit 7, TE, TOK, RE, ROK, RNOK in bits 4 to 0
pub record Places (f : Flags) : Type 0 where
  pub rst : bit_at (interrupt_status f) 7 ≡ bit f.rst
  pub te : bit_at (interrupt_status f) 4 ≡ bit f.te
  pub tok : bit_at (interrupt_status f) 3 ≡ bit f.tok
  pub re : bit_at (interrupt_status f) 2 ≡ bit f.re
  pub rok : bit_at (interrupt_status f) 1 ≡ bit f.rok
  pub rnok : bit_at (interrupt_status f) 0 ≡ bit f.rnok

-- ---- what raises a bit

-- an accepted slot of an active controller
pub record Sampled (c : Controller) (levels : ℕ) : Type 0 where
  pub taken : accepted c (Slot levels) ≡ true
  pub active : is_active c.core.activity.mode ≡ true

-- one in which the model is neither sender nor replier, with a frame that a channel has matched
pub record Received (c : Controller) (levels : ℕ) : Type 0 where
  pub sampled : Sampled c levels
  pub other : own_frame (role_in c.core) ≡ false
  pub matched : c.core.reception.winner.matched ≡ true

-- the receiver's judgement of the slot: Good in the eighth end-of-frame slot of a valid frame
abbrev pub hearing_in : Controller → ℕ → Hearing
hearing_in c levels = hear_frame c.core.reception (longest_of c.core) (sample_of c levels)

-- "n + 1 is at most M_L"
abbrev pub fitting_in : Controller → Bool
fitting_in c = fits c.core.reception.winner (data_count c.core.reception.nibbles)

-- RAK of the frame under way
abbrev pub rak : Controller → Bool
rak c = acknowledge_asked (get_or c.core.reception.bytes 1 0)

-- RST: "Reset, by pin or GRES", which is bit 7 of a command
pub data IsReset (c : Controller) : Event → Type 0 where
  by_pin : accepted c Reset ≡ true → IsReset c Reset
  by_command : {address value : ℕ} → accepted c (Write address value) ≡ true → address ≡ 0x03 → bit_at value 7 ≡ 1 → IsReset c (Write address value)

-- TE: the service ends exhausted in the slot
pub data Exhausts (c : Controller) : Event → Type 0 where
  exhausts : {levels : ℕ} → Sampled c levels → ending c.core (verdict_in c levels) (heard c.core (verdict_in c levels) (sample_of c levels)) ≡ Exhausted → Exhausts c (Slot levels)

-- and that is error R + 1: an attempt fails in the slot, with R errors before
pub data LastError (c : Controller) : Event → Type 0 where
  last : {levels : ℕ} (code : ℕ) → Sampled c levels → verdict_in c levels ≡ Failed code
      → c.core.service.effort.counters.errors.0 ≡ c.core.service.effort.setting → LastError c (Slot levels)

-- TOK: the attempt has sent its last slot, or its answered request counts as success; or the immediate reply has sent its last slot
pub data Completes (c : Controller) : Event → Type 0 where
  completes : {levels : ℕ} → Sampled c levels → verdict_in c levels ≡ Done → Completes c (Slot levels)
  replied : {levels : ℕ} → Sampled c levels → reply_verdict_in c levels ≡ Done → Completes c (Slot levels)

-- RE: a fault, or a good end that does not fit; or an error in the immediate reply
pub data Spoils (c : Controller) : Event → Type 0 where
  fault : {levels : ℕ} (code : ℕ) → Received c levels → hearing_in c levels ≡ Fault code → Spoils c (Slot levels)
  overflow : {levels : ℕ} → Received c levels → hearing_in c levels ≡ Good → fitting_in c ≡ false → Spoils c (Slot levels)
  broken : {levels : ℕ} (code : ℕ) → Sampled c levels → reply_verdict_in c levels ≡ Failed code → Spoils c (Slot levels)

-- ROK and RNOK: a good end that fits, with RAK as asked
pub data Stores (asked : Bool) (c : Controller) : Event → Type 0 where
  stores : {levels : ℕ} → Received c levels → hearing_in c levels ≡ Good → fitting_in c ≡ true → rak c ≡ asked → Stores asked c (Slot levels)

pub record Raised (bit : Flags → Bool) (Cause : Controller → Event → Type 0) (c : Controller) : Type 0 where
  pub raised : (e : Event) → Cause c e → bit (flags_of (next c e)) ≡ true
  pub only : (e : Event) → bit (flags_of c) ≡ false → bit (flags_of (next c e)) ≡ true → Cause c e

-- ---- the claim

pub record Interrupts : Type 0 where
  -- "The interrupt line is asserted when status and enable share a one": both ways
  pub asserted : (c : Controller) → interrupt_line c ≡ true → Shared (status_of c) (enable_of c)
  pub shared : (c : Controller) → Shared (status_of c) (enable_of c) → interrupt_line c ≡ true
  -- the byte at 0x0A is one in every reached state
  pub reached : (es : List Event) → enable_of (after fresh es) < 256
  -- the two bytes are those that a host reads, and the status byte's bits are the six flags
  pub status_read : (c : Controller) → byte_read c interrupt_status_at ≡ status_of c
  pub enable_read : (c : Controller) → byte_read c interrupt_enable ≡ enable_of c
  pub places : (f : Flags) → Places f
  -- "Reset, by pin or GRES, leaves both and resets the rest to idle mode": with RST 1 (document 000)
  pub rst : (c : Controller) → Raised (λ f. f.rst) IsReset c
  -- "After error R + 1: TE": in every reached state; Claims.Sending says the same of its tally's count
  pub te : (es : List Event) → Raised (λ f. f.te) Exhausts (after fresh es)
  pub te_sound : (es : List Event) (e : Event) → Exhausts (after fresh es) e → LastError (after fresh es) e
  pub te_complete : (es : List Event) (e : Event) → LastError (after fresh es) e → Exhausts (after fresh es) e
  -- "Success: TOK"; a reply "is lost, fails or succeeds as an attempt does" (02, Req 01)
  pub tok : (c : Controller) → Raised (λ f. f.tok) Completes c
  -- "If it is otherwise valid but doesn't fit: .. RE at the same slot"; "CHER and RE only once a channel has matched"; "An error in it sets CHER and RE, not TE" (02, Req 01)
  pub re : (c : Controller) → Raised (λ f. f.re) Spoils c
  -- "a valid, fitting frame ..: ROK if RAK is 1, else RNOK"
  pub rok : (c : Controller) → Raised (λ f. f.rok) (Stores true) c
  pub rnok : (c : Controller) → Raised (λ f. f.rnok) (Stores false) c
