-- Delivery in the codec's own words (demand 2): what a slot of another module's frame does is what decoding its samples gives. One claim about the list of events.
--   heard_so_far == the samples since the frame's start, that of the slot included        Delivered == they decode to a valid frame, and the memory map shows it
--   Decodes == what holds of a slot of another module's frame        Decoded == what holds of a list of events, from a controller and a log on
use Rattle.std.specs.Prelude.{ℕ, ◌/◌, ◌%◌, ◌≤◌, true, List, [], ◌∷◌, ◌++◌, ◌≡◌, get_or}
use Rattle.line.specs.Frame.{Frame, Fits, slots}
use Rattle.codec.specs.declared.Refusal.{Refusal}
use Rattle.codec.specs.Decode.{frame, refused, reading}
use Rattle.rules.specs.Definitions.Longest.{longest_of}
use Rattle.every_run.specs.Valid.{Valid}
use Rattle.rules.specs.Definitions.State.{is_active}
use Rattle.rules.specs.Definitions.Slots.{sample_of}
use Rattle.rules.specs.Definitions.Run.{next}
use Rattle.every_run.specs.Observer.{accepted}
use Rattle.every_run.specs.OwnFrames.{status_at}
use Rattle.rules.specs.Definitions.Service.{receives}
use Rattle.every_run.specs.Receiving.{Log, log_next, received, taker, role, hears}
use Rattle.rules.specs.declared.Hearing.TheVariants.{Fault, Good}
use Rattle.rules.specs.declared.Role.TheVariants.{Receiver}
use Rattle.rules.specs.declared.Controller.{Controller}
use Rattle.rules.specs.declared.Event.{Event}
use Rattle.rules.specs.declared.Event.TheVariants.{Reset, Write, Read, Slot}

abbrev pub heard_so_far : Controller → Log → ℕ → List ℕ
heard_so_far c l levels = l.samples ++ (sample_of c levels ∷ [])

-- frame f is valid, the samples are its slots and no other frame's, it is delivered in this slot, and the memory map shows it
pub record Delivered (c : Controller) (l : Log) (levels : ℕ) (f : Frame) : Type 0 where
  pub valid : Valid (taker l f) f
  pub whole : heard_so_far c l levels ≡ slots f
  pub one : (g : Frame) → Fits (longest_of c.core) g → heard_so_far c l levels ≡ slots g → g ≡ f
  pub ends : hears c levels ≡ Good
  pub memory : role c ≡ Receiver → (next c (Slot levels)).memory ≡ received c.memory (taker l f) f
  -- the end of an answered request also marks CHER and CHTx of its own channel, and nothing else
  pub elsewhere : (a : ℕ) → (a ≡ status_at c → ⊥) → get_or (next c (Slot levels)).memory a 0 ≡ get_or (received c.memory (taker l f) f) a 0
  pub status : (get_or (next c (Slot levels)).memory (status_at c) 0 / 8 ≡ get_or (received c.memory (taker l f) f) (status_at c) 0 / 8)
      × (get_or (next c (Slot levels)).memory (status_at c) 0 % 2 ≡ get_or (received c.memory (taker l f) f) (status_at c) 0 % 2)

-- a frame that the samples decode to
pub record Decodable (c : Controller) (l : Log) (levels : ℕ) : Type 0 where
  pub which : Frame
  pub decodes : reading (longest_of c.core) (heard_so_far c l levels) ≡ frame which

pub record Decodes (c : Controller) (l : Log) (levels : ℕ) : Type 0 where
  -- where the samples decode to a frame, that frame is delivered
  pub taken : (f : Frame) → reading (longest_of c.core) (heard_so_far c l levels) ≡ frame f → Delivered c l levels f
  -- and what is delivered is what they decode to
  pub good : hears c levels ≡ Good → Decodable c l levels
  -- where they don't, no byte of the mailbox changes
  pub early : (r : Refusal) → reading (longest_of c.core) (heard_so_far c l levels) ≡ refused r → (a : ℕ) → 0x80 ≤ a → get_or (next c (Slot levels)).memory a 0 ≡ get_or c.memory a 0
  -- a fault is heard only where the samples decode to no valid frame, whatever follows them
  pub fault : (code : ℕ) → hears c levels ≡ Fault code
      → (rest : List ℕ) (f : Frame) → reading (longest_of c.core) (l.samples ++ (sample_of c levels ∷ rest)) ≡ frame f → Valid (taker l f) f → ⊥

abbrev pub DecodesIn : Controller → Log → Event → Type 0
DecodesIn c l Reset = Unit {0}
DecodesIn c l (Write address value) = Unit {0}
DecodesIn c l (Read address) = Unit {0}
DecodesIn c l (Slot levels) = accepted c (Slot levels) ≡ true → is_active c.core.activity.mode ≡ true → receives (role c) ≡ true → Decodes c l levels

abbrev pub Decoded : Controller → Log → List Event → Type 0
Decoded c l [] = Unit {0}
Decoded c l (e ∷ es) = DecodesIn c l e × Decoded (next c e) (log_next c l e) es
