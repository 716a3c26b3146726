-- The promises on the definitions, on one page: first in words (quoted from the demands or from 01), then exactly. The proofs stand in proofs/, here and in the crates below.
-- Not on this page: what the code does. Each call says that in its own contract, by the definitions that are used here:
--   controller: each call's answer is `step` of its event, for every controller, in range or not (crates/access, crates/controller); the same over a lent map
--     (crates/host, crates/host_read, crates/slots); `fresh`, `interrupt_line` (crates/controller, crates/status)
--   codec: `encoded`, `encoded_room` (crates/encoder); `decoded`, `decoded_room` of `reading` (crates/decoder)
--   session: `header_at`, `event_at`, `end_at` (crates/session), of which `session` is made; its numbers: `decode` (crates/leb128)
--   listing: `played`, `played_room` of `listing_of` (crates/player); for C: crates/frapmast
-- Nor the numbers and sessions that 01 runs (Cases in crates/leb128 and crates/session), nor the closed runs `Courses` and `MoreCourses` (crates/rules, crates/closed_runs).
--
-- Legend. The notation is antt's; `rt doc` prints the path of the toolchain's guide, and rattle/antt/docs/primer.md beside it has the language.
--   (x : A) → B        for every x of A, B holds        A → B: if A, then B        A → ⊥: A does not hold
--   A × B              A and B; for some x, where it is (x : A) × B        A ↔ B: each if the other
--   x ≡ y              x equals y; true and false are values: `matches .. ≡ true` says that the test holds
--   [], x ∷ s          the empty list; the list of x and then those of s        s ++ t: those of s, then those of t
--   f.name             the field `name` of f        p.0, p.1: the first and second part of a pair; .0 is also the number that Timeslots and Attempts hold
--   pick b x y         x if b is true, else y
--   get_or s k d       element k of s, from 0; d where s has none        ltb k n: k is below n        a - b: 0 where b is larger
--   record R where     a claim whose fields are its parts: R holds if all of them do
--   unfoldable, abbrev marks for proofs, which say where a definition may be replaced by its text; they do not change what it says
use Rattle.std.specs.Prelude.{ℕ, ◌+◌, ◌-◌, ◌*◌, ◌/◌, ◌%◌, ◌≤◌, ◌<◌, true, false, List, [], ◌∷◌, ◌++◌, ◌↔◌, ◌≡◌, Err, eqb, ltb, length, get_or, take}
use Rattle.line.specs.Bits.{pick, bits, Below}
use Rattle.line.specs.LineCode.{line_code, pattern}
use Rattle.line.specs.Check.{check}
use Rattle.line.specs.Frame.{Frame, Fits, covered, slots}
use Rattle.line.specs.Layout.{level_of}
use Rattle.line.specs.Claims.{Checked}
use Rattle.codec.specs.Encode.{encoded_room}
use Rattle.codec.specs.Decode.{Reading, frame, reading, decoded, decoded_room}
use Rattle.codec.specs.declared.Refusal as codec_refusal
use Rattle.rules.specs.Definitions.Longest.{capacity}
use Rattle.rules.specs.Definitions.Registers.{has_bit, read_only, write_only, reserved, fixed_bits}
use Rattle.rules.specs.Definitions.Channels.{base, buffer_of, matches, takes, winner_for}
use Rattle.rules.specs.Statements.Bits.{bit_at}
use Rattle.rules.specs.Definitions.Mailbox.{mailbox_at, status_byte, marked_cher}
use Rattle.rules.specs.Definitions.Reception.{begun}
use Rattle.rules.specs.Definitions.Hearing.{fits}
use Rattle.every_run.specs.Valid.{low}
use Rattle.rules.specs.Definitions.State.{in_range, is_asleep}
use Rattle.rules.specs.Definitions.Run.{fresh, step, after}
use Rattle.every_run.specs.Observer.{at_reset}
use Rattle.every_run.specs.Sending.{SendingOver}
use Rattle.every_run.specs.Settled.{SettledOver}
use Rattle.every_run.specs.Receiving.{no_log, received, ReceivingOver}
use Rattle.every_run.specs.OwnFrames.{OwnFrames}
use Rattle.every_run.specs.Interrupts as interrupt
use Rattle.every_run.specs.Wires as wire
use Rattle.diagnosis.specs.Claims as diagnosis_runs
use Rattle.rules.specs.Statements.Claims as rules
use Rattle.closed_runs.specs.Claims as closed
use Rattle.rules.specs.declared.Winner.{Winner}
use Rattle.rules.specs.declared.Controller.{Controller}
use Rattle.rules.specs.declared.Event.{Event}
use Rattle.rules.specs.declared.Event.TheVariants.{Reset, Write, Read, Slot}
use Rattle.leb128.specs.Leb128.{Bytes, uleb128}
use Rattle.leb128.specs.Leb128 as leb128
use Rattle.leb128.specs.Claims.{Looked}
use Rattle.session.specs.Reading.{most_events, Events, Counted, session, bad}
use Rattle.session.specs.Writing.{session_bytes, AllFit}
use Rattle.session.specs.Claims.{Settled}
use Rattle.session.specs.Claims as sessions
use Rattle.session.specs.declared.Fault.{Fault}
use Rattle.session.specs.declared.Event as session_event
use Rattle.bench_record.specs.Claims.{FirstLines, LinesStand, BadLines}
use Rattle.claims.specs.Agree as agree
use Rattle.claims.specs.Decoded.{Decoded}

-- ---- demand 1

pub record Refusals : Type 0 where
  -- "a refused call leaves the controller and every buffer we lent as they stood before it": the controller
  pub same : (c : Controller) (e : Event) → ((step c e).refused ≡ 0 → ⊥) → (step c e).next ≡ c
  -- "Each returns its number and zero elsewhere"
  pub zero_elsewhere : (c : Controller) (e : Event) → ((step c e).refused ≡ 0 → ⊥) → (step c e).value ≡ 0
  -- "no state reached from a fresh one is refused" with 6
  pub always_in_range : (es : List Event) → in_range (after fresh es) ≡ true
  pub never_six : (es : List Event) (e : Event) → (step (after fresh es) e).refused ≡ 6 → ⊥
  -- "Pin reset: 6."
  pub of_reset : (c : Controller) → (step c Reset).refused ≡ pick (in_range c) 0 6
  -- "Order, host access: 6, 7, 1, 2, 3 or 4, 8."
  pub of_write : (c : Controller) (a v : ℕ) → (step c (Write a v)).refused
      ≡ pick (in_range c) (pick (is_asleep c.core.activity.mode) 7 (pick (ltb 255 a) 1
      (pick (ltb 255 v) 2 (pick (read_only a) 3 (pick (reserved a) 3 (pick (fixed_bits a (v % 256)) 0 8)))))) 6
  pub of_read : (c : Controller) (a : ℕ) → (step c (Read a)).refused
      ≡ pick (in_range c) (pick (is_asleep c.core.activity.mode) 7 (pick (ltb 255 a) 1 (pick (write_only a) 4 (pick (reserved a) 4 0)))) 6
  -- "Slots: 6, 5"
  pub of_slot : (c : Controller) (levels : ℕ) → (step c (Slot levels)).refused ≡ pick (in_range c) (pick (ltb 7 levels) 5 0) 6
  -- and the buffers lent to the codec
  pub encode_room : (room : List ℕ) (f : Frame) (r : codec_refusal.Refusal) → encoded_room room f (Err r) ≡ room
  pub decode_room : (room : List ℕ) (x : Reading) (r : codec_refusal.Refusal) → decoded (length room) x ≡ Err r → decoded_room room x ≡ room

pub record Sessions : Type 0 where
  -- "Any .. session file, however broken, gets an answer". A fault is at the number that is due behind the bytes read (crates/session/specs/Claims.antt: InHeader,
  -- InEvents), it is what is wrong there, and 02, Req 02: K is how many bytes of the number were looked at; for 33 to 35 how many it used, for 36 0 (Found)
  pub answered : (most : ℕ) (s : List ℕ) → Bytes s → sessions.Answered most s (session most s)
  -- "session events before a bad one stand": they are the same whatever stands from the fault's place on
  pub stand : (most : ℕ) (s : List ℕ) → Bytes s → (c : ℕ) (r : Events) → session most s ≡ Counted c r → (f : Fault) (p k : ℕ) → r.end ≡ bad f p k
      → (t : List ℕ) → sessions.Begins c r.events (session most (take p s ++ t))
  -- so do their lines: each event that is read has its line, with the answer of the step rule, whatever follows (crates/bench_record/specs/Claims.antt)
  pub first_lines : FirstLines
  pub lines_stand : LinesStand
  -- a broken session's last line has the number of its fault, its place and K (crates/bench_record/specs/Claims.antt)
  pub bad_lines : BadLines
  -- and the fault, unless it is a cut, whatever follows the input
  pub settled : (most : ℕ) (s t : List ℕ) → Bytes s → Settled (session most s) → session most (s ++ t) ≡ session most s
  -- a good session is the bytes of its events, and the bytes of at most `most` events are a good session
  pub sound : (most : ℕ) (s : List ℕ) → Bytes s → (es : List session_event.Event) → sessions.Good most s es → (length es ≤ most) × AllFit es × (s ≡ session_bytes es)
  pub complete : (most : ℕ) (es : List session_event.Event) → length es ≤ most → length es ≤ 65535 → AllFit es → sessions.Good most (session_bytes es) es
  -- "a good session has at most 28,675" bytes
  pub short : (s : List ℕ) → Bytes s → (es : List session_event.Event) → sessions.Good most_events s es → length s ≤ 28675
  -- a number's "shortest form only", and "the rest of the caller's bytes is handed back": what is accepted is the LEB128 form of its value with the rest behind
  -- it, and every such form is accepted; 02, Req 02, "how many bytes it used when good": as many as the form has
  pub leb128_sound : (s : List ℕ) → Bytes s → (n used : ℕ) (t : List ℕ) → leb128.decode s ≡ leb128.Value n used t
      → (n ≤ 65535) × (s ≡ uleb128 n ++ t) × (used ≡ length (uleb128 n))
  pub leb128_complete : (n : ℕ) (t : List ℕ) → n ≤ 65535 → leb128.decode (uleb128 n ++ t) ≡ leb128.Value n (length (uleb128 n)) t
  -- 02, Req 02, "for 30, 31 and 32 how many bytes were looked at": at most three and at most those that are there; in each but the last the top bit is set
  pub leb128_looked : (s : List ℕ) → Looked s

-- ---- demand 2

pub record Frames : Type 0 where
  -- "Frame to timeslots and timeslots to frame, each undoes the other": a slot list reads as a frame exactly when it is that frame's, for every longest length
  pub exact : (longest : ℕ) (s : List ℕ) (f : Frame) → (reading longest s ≡ frame f) ↔ (Fits longest f × (s ≡ slots f))
  pub decoded : (longest : ℕ) (f : Frame) → Fits longest f → reading longest (slots f) ≡ frame f
  pub encoded : (longest : ℕ) (s : List ℕ) (f : Frame) → reading longest s ≡ frame f → slots f ≡ s
  pub one : (longest : ℕ) (f g : Frame) → Fits longest f → Fits longest g → slots f ≡ slots g → f ≡ g
  -- "Whole frame: 60 + 10n slots"; the level of each by its part and place; the table of the 16 nibbles, and the line code as its rows
  pub long : (f : Frame) → length (slots f) ≡ 60 + 10 * length f.bytes
  pub level : (f : Frame) (k : ℕ) → level_of f k ≡ get_or (slots f) k 1
  pub table : (n : ℕ) → pattern n ≡ (n / 8 % 2) ∷ (n / 4 % 2) ∷ (n / 2 % 2) ∷ (n % 2) ∷ (1 - n % 2) ∷ []
  pub nibbles : (n : ℕ) (s : List ℕ) → line_code (bits 4 n ++ s) ≡ pattern n ++ line_code s
  -- the check of three frames captured on real buses, and of "123456789" (crates/line/specs/Claims.antt)
  pub checked : Checked

-- "M_L 0 is a link: the low four pointer bits name the channel whose pointer and length are used"
unfoldable pub buffer_channel : List ℕ → ℕ → ℕ
buffer_channel m c = pick (eqb (get_or m (base c + 3) 0 / 8) 0) (get_or m (base c + 2) 0 % 16) c

-- what w holds of the memory map m
pub record Held (m : List ℕ) (w : Winner) : Type 0 where
  pub own_drak : w.no_acknowledge ≡ has_bit (get_or m (base w.channel + 2) 0) 7
  pub pointer_used : w.pointer ≡ get_or m (base (buffer_channel m w.channel) + 2) 0 % 128
  pub length_used : w.length ≡ get_or m (base (buffer_channel m w.channel) + 3) 0 / 8

pub record Matching : Type 0 where
  -- "A frame matches when every tag bit under a mask one equals the identifier's": then, and only then
  pub sound : (tag mask identifier : ℕ) → matches tag mask identifier ≡ true → (k : ℕ) → bit_at mask k ≡ 1 → bit_at tag k ≡ bit_at identifier k
  pub complete : (tag mask identifier : ℕ) → ((k : ℕ) → bit_at mask k ≡ 1 → bit_at tag k ≡ bit_at identifier k) → matches tag mask identifier ≡ true
  -- "the lowest-numbered listening channel whose masked identifier matches": who takes a frame takes it, and no lower channel does
  pub lowest : (m : List ℕ) (high low : ℕ) → (winner_for m high low).matched ≡ true
      → (takes m (winner_for m high low).channel high low ≡ true) × ((k : ℕ) → k < (winner_for m high low).channel → takes m k high low ≡ false)
  pub nobody : (m : List ℕ) (high low : ℕ) → (winner_for m high low).matched ≡ false → (k : ℕ) → k < 14 → takes m k high low ≡ false
  -- "The winner, its own DRAK, its pointer and length", by the bytes of the map
  pub held : (m : List ℕ) (high low : ℕ) → (winner_for m high low).matched ≡ true → Held m (winner_for m high low)
  -- "a link to itself, to another link or above 13 makes the channel match nothing": it can match exactly where the channel whose length it uses is at most 13 and has an M_L
  pub links : (m : List ℕ) (c : ℕ) → c < 14 → ((buffer_of m c).legal ≡ true) ↔ ((buffer_channel m c < 14) × (1 ≤ get_or m (base (buffer_channel m c) + 3) 0 / 8))

-- `received m w f` is what frame f does to the memory map m where w takes it
pub record Storing : Type 0 where
  -- "goes whole", that is "status, data and these two bytes" (02, Req 04): "the status byte .. at 0x80 + pointer and the n data bytes after it"
  pub whole : (m : List ℕ) (w : Winner) (f : Frame) → length m ≡ 256 → Fits capacity f → w.matched ≡ true → length f.bytes + 1 ≤ w.length
      → (k : ℕ) → k ≤ length f.bytes → get_or (received m w f) (mailbox_at w.pointer k) 0 ≡ get_or (status_byte (low f) (length f.bytes) ∷ f.bytes) k 0
  -- "when M_L is at least n + 3, the two bytes after the data hold the 15 check bits followed by a zero bit": the frame's check, the high byte first
  pub check_whole : (m : List ℕ) (w : Winner) (f : Frame) → length m ≡ 256 → Fits capacity f → w.matched ≡ true → length f.bytes + 3 ≤ w.length
      → (get_or (received m w f) (mailbox_at w.pointer (length f.bytes + 1)) 0 ≡ check (covered f) / 128)
      × (get_or (received m w f) (mailbox_at w.pointer (length f.bytes + 2)) 0 ≡ check (covered f) % 128 * 2)
  pub check_bits : (f : Frame) → bits 8 (check (covered f) / 128) ++ bits 8 (check (covered f) % 128 * 2) ≡ bits 15 (check (covered f)) ++ (0 ∷ [])
  -- "and nowhere else": beside them only tag and status of the channel that takes it change
  pub nowhere_else : (m : List ℕ) (w : Winner) (f : Frame) → w.matched ≡ true → length f.bytes + 1 ≤ w.length
      → (a : ℕ) → ((k : ℕ) → k ≤ length f.bytes → a ≡ mailbox_at w.pointer k → ⊥)
      → (length f.bytes + 3 ≤ w.length → (a ≡ mailbox_at w.pointer (length f.bytes + 1) → ⊥) × (a ≡ mailbox_at w.pointer (length f.bytes + 2) → ⊥))
      → (a ≡ base w.channel → ⊥) → (a ≡ base w.channel + 1 → ⊥) → (a ≡ base w.channel + 3 → ⊥) → get_or (received m w f) a 0 ≡ get_or m a 0
  -- so no mailbox byte outside the M_L places from the pointer on changes
  pub within_m_l : (m : List ℕ) (w : Winner) (f : Frame) (a : ℕ) → 128 ≤ a → ((k : ℕ) → k < w.length → a ≡ mailbox_at w.pointer k → ⊥) → get_or (received m w f) a 0 ≡ get_or m a 0
  -- "If it .. doesn't fit: no mailbox byte": CHER alone
  pub too_long : (m : List ℕ) (w : Winner) (f : Frame) → w.matched ≡ true → w.length ≤ length f.bytes → received m w f ≡ marked_cher m w.channel
  pub unmatched : (m : List ℕ) (w : Winner) (f : Frame) → w.matched ≡ false → received m w f ≡ m
  -- the memory map keeps its 256 bytes
  pub map_long : (es : List Event) → length (after fresh es).memory ≡ 256

pub record Receiving : Type 0 where
  -- "a valid frame that an active controller takes from another module": in the slot in which its samples decode to a frame that frame is delivered, and in no other does a mailbox byte change;
  -- a fault is heard only where they can decode to no valid frame (specs/Decoded.antt). Of each accepted slot of an active controller that receives another module's frame, the answer to
  -- its own request among them:
  --   taken: where the samples since the frame's start decode to f, f is valid, they are its slots and no other frame's, it ends here, and the memory map changes by `received`;
  --     where an answered request ends too, CHER and CHTx of its own channel may change beside, and nothing else
  --   good: where a frame ends here as good, the samples decode to one        early: where they decode to none, no mailbox byte changes
  --   fault: where a fault is heard, the samples decode to no valid frame, whatever follows them
  pub delivered : (es : List Event) → Decoded fresh no_log es
  -- the receiver begun by a dominant slot takes a slot list exactly if it decodes to a valid frame, for every longest length that the state has room for (specs/Agree.antt)
  pub sound : (longest : ℕ) → longest ≤ capacity → (m s : List ℕ) → Below 2 s → agree.receives longest m begun s ≡ true → agree.Accepted longest m (0 ∷ s)
  pub complete : (longest : ℕ) → longest ≤ capacity → (m s : List ℕ) → Below 2 s → agree.Accepted longest m (0 ∷ s) → agree.receives longest m begun s ≡ true
  -- "Matched and fitting, RAK 1, DRAK 0, check right: the model drives the acknowledge", and no other dominant level outside its own frames
  -- (crates/every_run/specs/Receiving.antt). Before each event and after the last one (Acknowledges):
  --   only: where the model drives dominant, in neither an attempt nor a reply, the samples are the slots of a valid frame that is owed an acknowledge, up to it, and one more, its first slot
  --   due: where nine slots are to come of a frame that is owed one, the model drives dominant
  -- Of each accepted slot of an active controller, whoever sends (Heeds):
  --   begins: with no frame under way a dominant sample begins one where the line takes a start        kept: a frame that follows stays under way, unless the controller becomes idle
  --   mailbox: no mailbox byte changes, unless the frame is another module's
  -- Of such a slot of another module's frame (Delivers):
  --   good: where a frame ends here as good, the samples are a whole valid frame, the memory map changes by `received` of it, and 0x07 is BOV if it does not fit,
  --     CV if it answers a request and no channel takes it, else as it was
  --   complete: where the samples are a whole frame, it ends here as good        faultless: where a fault is heard, no valid frame begins with the samples
  --   silent: the slot is never taken for a quiet line        early: where no frame ends here as good, no mailbox byte changes
  pub acknowledged : (es : List Event) → ReceivingOver fresh no_log es
  -- a closed run: the acknowledge is driven and the frame stored
  pub closed : closed.Received
  -- "The model's own frame .. is not stored, touches no receiving channel and is never acknowledged by the model", an attempt's and an immediate reply's
  -- (crates/every_run/specs/OwnFrames.antt)
  pub own : OwnFrames
  -- "The interrupt line is asserted when status and enable share a one"; what raises each of the six bits, and nothing else does (crates/every_run/specs/Interrupts.antt)
  pub interrupts : interrupt.Interrupts
  -- "Reset values": a host reads each of them after a reset, by pin or GRES
  pub resets : rules.Resets

-- "After each event the memory map, the driven level and the interrupts are those the controller's data sheet and document 01 define"
pub record EveryEvent : Type 0 where
  -- for every list of events, from what stood before, the event and the observer (Settles in crates/every_run/specs/Settled.antt). Of each event:
  --   value: an accepted slot answers the level of the next slot after the transmit inversion: the frame's in an attempt and in a reply, dominant where an acknowledge is owed,
  --     else recessive
  --   memory: every byte of the map: a write changes its own byte, a reset the registers' bytes, a slot what is delivered and the marks of a service or a reply that ends
  --   sending, message, error: the registers 0x05, 0x06, 0x07        rst, te, tok, re, rok, rnok: each bit of 0x09: raised, kept or cleared
  pub settled : (es : List Event) → SettledOver fresh at_reset es

-- ---- the three-wire diagnosis (02, Req 05)

pub record Diagnosis : Type 0 where
  -- for every list of events, by a record of the raw levels that has no largest values (crates/every_run/specs/Wires.antt)
  --   every, of each event: the counts are those of the raw levels, each stopping at its largest, and the slots of the period are below the divider (Counts); a wire that stands still while the
  --     other shows four edges in one period is found in the slot of the fourth edge, and in automatic selection the next sample is that of the other wire (Finds; where no other rule speaks, Alone)
  --   nominal: as long as the levels of the three inputs are equal, every period that a pulse ends has four edges, and there are no eight dominant samples in a row, whatever else
  --     happens, the diagnosis stays nominal with Sc 0
  pub wires : wire.Diagnosed
  -- closed runs of the diagnosis alone: each rule, the pulses, the turn in major error, RI (crates/diagnosis/specs/Claims.antt)
  pub runs : diagnosis_runs.Courses

-- ---- demand 3

pub record Sending : Type 0 where
  -- "each event gets the controller that the last one left"
  pub chained : (c : Controller) (es : List Event) (e : Event) → after c (es ++ (e ∷ [])) ≡ (step (after c es) e).next
  -- for every list of events: one fixed frame of which each attempt drives an opening part, at most R + 1 errors, TE exactly at R + 1, at most
  -- (C + R + 1) × (60 + 10n) slots, by the tally's own count (SendingOver and Claim in crates/every_run/specs/Sending.antt, the tally in Tally.antt, the observer
  -- that keeps it in Observer.antt). Of each event:
  --   agrees: mode, free line, start taken, frame under way, role, service, counts, driven level and diagnosis of the controller are those of the observer, which reads nothing of it but its
  --     memory map, the levels driven and sampled, whether an event was accepted and the longest data length
  --   sampled: the level sampled is that of the input which the observer's own diagnosis selects as the slot begins (02, Req 05)
  --   fits: the frame of the service under way is a frame no longer than the controller sends
  --   driven: in an accepted slot of an attempt, the levels driven in it, that of this slot included, begin the frame's slots, or those from the eleventh on where it joined
  --   answer: in an accepted slot of an answered request the model drives dominant only where the frame that answers is owed an acknowledge
  --   errors: at most R + 1 attempts of the service have ended in error        slots: at most (C + R + 1) × (60 + 10n) slots were spent in its attempts; n is 30 for a request
  --   raised: where R + 1 errors are counted, TE is 1 after the event        only: where the event turns TE from 0 to 1, R + 1 errors are counted
  --   reply: in an accepted slot of a reply, the levels driven in it, that of this slot included, begin one frame's slots from its RTR bit on, and are at most 32 + 10n
  --   outside: with a reply under way no event changes C, errors or slots of the tally, and none raises TE
  pub kept : (es : List Event) → SendingOver fresh at_reset es
  -- closed runs with their numbers for C, errors and slots: sent, exhausted, lost twice, joined, aborted; a request answered, answered in vain, at the bound
  pub runs : closed.Runs

-- ---- the marked cases (01, Marked cases), one table

pub record Marked : Type 0 where
  -- "P1 nibble 0: 00001. P2 15: 11110. P3 8: 10001."
  pub p1 : pattern 0 ≡ 0 ∷ 0 ∷ 0 ∷ 0 ∷ 1 ∷ []
  pub p2 : pattern 15 ≡ 1 ∷ 1 ∷ 1 ∷ 1 ∷ 0 ∷ []
  pub p3 : pattern 8 ≡ 1 ∷ 0 ∷ 0 ∷ 0 ∷ 1 ∷ []
  -- "P4 n 0: 60 slots. P5 n 30: 360."
  pub p4 : (f : Frame) → length f.bytes ≡ 0 → length (slots f) ≡ 60
  pub p5 : (f : Frame) → length f.bytes ≡ 30 → length (slots f) ≡ 360
  -- "P6 channel 13: 0x78."
  pub p6 : base 13 ≡ 0x78
  -- "P7 tag and mask 0xFF8: 0xFFF matches, 0xFF7 doesn't. P8 mask 0 matches all."
  pub p7 : (matches 0xFF8 0xFF8 0xFFF ≡ true) × (matches 0xFF8 0xFF8 0xFF7 ≡ false)
  pub p8 : (tag identifier : ℕ) → matches tag 0 identifier ≡ true
  -- "P9 pointer 0x7F, two bytes: 0xFF, 0x80, 0x81."
  pub p9 : (mailbox_at 0x7F 0 ≡ 0xFF) × (mailbox_at 0x7F 1 ≡ 0x80) × (mailbox_at 0x7F 2 ≡ 0x81)
  -- "P10 300: AC 02. P11 83 00: 31."
  pub p10 : (uleb128 300 ≡ 0xAC ∷ 0x02 ∷ []) × (leb128.decode (0xAC ∷ 0x02 ∷ []) ≡ leb128.Value 300 2 [])
  pub p11 : leb128.fault_of (leb128.decode (0x83 ∷ 0x00 ∷ [])) ≡ 31
  -- "P12 RAK 1, R/W 0, RTR 0, three bytes: 0x83."
  pub p12 : (low : ℕ) → low % 8 ≡ 0b100 → status_byte low 3 ≡ 0x83
  -- "M_L 3 takes 2 bytes and not 3" (also run)
  pub m_l_3 : (w : Winner) → w.length ≡ 3 → (fits w 2 ≡ true) × (fits w 3 ≡ false)
