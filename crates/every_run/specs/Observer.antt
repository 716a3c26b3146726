-- The claims' own record of a run (01, Sending: "is fed the run's events and driven levels; choices, starts and ends follow by these rules, not from the program's record").
-- Beside the events, whether each was accepted, the driven and the sampled levels, the memory map and the longest data length it reads nothing of the controller: it keeps
-- its own mode, line, frame under way, tally, immediate reply and diagnosis. That the level which it is fed as sampled is the one of the input that its own diagnosis
-- selects is a claim (Sending.antt, `sampled`).
--   Past == the line between frames        free_o, starts_o == it is free, it takes a start        code_t == the code of an attempt's error
--   hears_o == what a sample is for the line and the frame under way        heard_delivery, answer_o == what another module's frame does, and for a request that it answers
--   fulfilled_o == a stored reply ends a waiting request        diagnosis_o == the diagnosis after a slot        Replying, reply_in == an immediate reply        sampled_o, idle_o, goes_on_o == a slot        written_o == a host write
--   next_o == the observer after an event
use Rattle.std.specs.Prelude.{ℕ, suc, zero, ◌+◌, ◌%◌, Bool, true, false, not, List, [], ◌∷◌, ◌++◌, eqb, leb, length, get_or, Option, None, Some}
use Rattle.line.specs.Bits.{pick}
use Rattle.line.specs.Frame.{Frame}
use Rattle.line.specs.Layout.{part_of, half_of}
use Rattle.diagnosis.specs.Rules.{undiagnosed, input_level, connected, diagnosed}
use Rattle.diagnosis.specs.declared.Diagnosis.{Diagnosis}
use Rattle.rules.specs.Definitions.Longest.{longest_of}
use Rattle.rules.specs.Definitions.Registers.{both, either, diagnosis_control, command, asks_idle, asks_activation, CV, ACKE, FCSE}
use Rattle.rules.specs.Definitions.Channels.{replier_for}
use Rattle.rules.specs.Definitions.Mailbox.{reply_frame}
use Rattle.rules.specs.Definitions.Reception.{quiet, under_way, reads_asked, reply_low, data_count}
use Rattle.rules.specs.Definitions.Hearing.{hear_frame, ends_well}
use Rattle.rules.specs.Definitions.Attempt.{in_check, in_acknowledge}
use Rattle.rules.specs.Definitions.State.{is_active, is_asleep, in_mode}
use Rattle.rules.specs.Definitions.Slots.{reception_judged, drives, levels_of, sample_of}
use Rattle.rules.specs.Definitions.Host.{resets, sleeps, diagnosis_written}
use Rattle.rules.specs.Definitions.Run.{step, next}
use Rattle.every_run.specs.Tally.{Stand, away, between, opening, inside, answered, Tally, none, Verdict, goes, contended, failed, sent, answers, Answering, comes, taken, wasted, request_t, open_half_t, verdict, counted_t, ended_t, choose_t, start_t, asked_t, is_away}
use Rattle.rules.specs.declared.Mode.TheVariants.{Idle, Active, Asleep}
use Rattle.rules.specs.declared.Activity.{Activity}
use Rattle.rules.specs.declared.Reception.{Reception}
use Rattle.rules.specs.declared.Delivery.{Delivery}
use Rattle.rules.specs.declared.Delivery.TheVariants.{Nothing, Stored, Overflowed, Spoiled}
use Rattle.rules.specs.declared.Hearing.{Hearing}
use Rattle.rules.specs.declared.Hearing.TheVariants.{Silent, Follows, Fault, Good}
use Rattle.rules.specs.declared.Controller.{Controller}
use Rattle.rules.specs.declared.Event.{Event}
use Rattle.rules.specs.declared.Event.TheVariants.{Reset, Write, Read, Slot}

-- ---- the line between frames

-- whether a good frame came last (else a reset, a fault or an activation), and the samples with no frame since, the latest first
pub record Past : Type 0 where
  pub good : Bool
  pub samples : List ℕ

-- the last k samples are there and recessive
unfoldable pub recessive : ℕ → List ℕ → Bool
recessive zero vs = true
recessive (suc k) [] = false
recessive (suc k) (v ∷ vs) = both (eqb v 1) (recessive k vs)

-- "Free line: four 1s in a row after the last slot of a good frame .., twelve after reset, fault or activation."
unfoldable pub free_o : Past → Bool
free_o p = pick p.good (recessive 4 p.samples) (recessive 12 p.samples)

-- "A start sequence is taken from the slot after a good frame on; after the other three only on a free line."
unfoldable pub starts_o : Past → Bool
starts_o p = either p.good (recessive 12 p.samples)

unfoldable pub anew : Bool → Past
anew good = record { good = good; samples = [] }

-- ---- an immediate reply (02, Req 01)

-- none, or its channel, its frame and the levels driven of it so far, from the RTR bit on: slot 28, counted from 0
pub data Replying : Type 0 where
  silent : Replying
  replies : ℕ → Frame → List ℕ → Replying

-- ---- the observer

pub record Observer : Type 0 where
  pub activity : Activity
  pub line : Past
  pub frame : Reception
  pub tally : Tally
  pub reply : Replying
  pub diagnosis : Diagnosis

abbrev pub with_activity_o : Observer → Activity → Observer
with_activity_o o a = record { activity = a; line = o.line; frame = o.frame; tally = o.tally; reply = o.reply; diagnosis = o.diagnosis }

abbrev pub with_line_o : Observer → Past → Observer
with_line_o o p = record { activity = o.activity; line = p; frame = o.frame; tally = o.tally; reply = o.reply; diagnosis = o.diagnosis }

abbrev pub with_frame_o : Observer → Reception → Observer
with_frame_o o r = record { activity = o.activity; line = o.line; frame = r; tally = o.tally; reply = o.reply; diagnosis = o.diagnosis }

abbrev pub with_tally_o : Observer → Tally → Observer
with_tally_o o t = record { activity = o.activity; line = o.line; frame = o.frame; tally = t; reply = o.reply; diagnosis = o.diagnosis }

abbrev pub with_reply_o : Observer → Replying → Observer
with_reply_o o y = record { activity = o.activity; line = o.line; frame = o.frame; tally = o.tally; reply = y; diagnosis = o.diagnosis }

abbrev pub with_diagnosis_o : Observer → Diagnosis → Observer
with_diagnosis_o o x = record { activity = o.activity; line = o.line; frame = o.frame; tally = o.tally; reply = o.reply; diagnosis = x }

-- "resets the rest to idle mode"
unfoldable pub at_reset : Observer
at_reset = record { activity = in_mode Idle false; line = anew false; frame = quiet; tally = none; reply = silent; diagnosis = undiagnosed }

-- ---- what a sample v is for the line and the frame under way; d is the level driven

-- "In the check it is an error, FCSE. Every other difference is an error: CV, or ACKE in the acknowledge"
unfoldable pub code_t : Frame → ℕ → ℕ → ℕ
code_t f k d =
    pick (both (both (eqb d 1) (open_half_t (half_of (length f.bytes) k))) (in_check (part_of (length f.bytes) k))) FCSE
    (pick (in_acknowledge (part_of (length f.bytes) k)) ACKE CV)

-- an attempt that is lost goes on as another module's frame
unfoldable pub hears_own : Verdict → ℕ → Hearing
hears_own goes code = Follows
hears_own contended code = Follows
hears_own failed code = Fault code
hears_own sent code = Good
hears_own answers code = Follows

unfoldable pub hears_other : Observer → ℕ → ℕ → Hearing
hears_other o longest v =
    pick (under_way o.frame.place) (hear_frame o.frame longest v) (pick (both (eqb v 0) (starts_o o.line)) Follows Silent)

-- outside an attempt; a reply is judged as an attempt is
unfoldable pub hears_apart : Replying → Observer → ℕ → ℕ → ℕ → Hearing
hears_apart silent o longest d v = hears_other o longest v
hears_apart (replies c f levels) o longest d v = hears_own (verdict f (28 + length levels) d v) (code_t f (28 + length levels) d)

unfoldable pub hears_in : Stand → Observer → ℕ → ℕ → ℕ → Hearing
hears_in away o longest d v = hears_apart o.reply o longest d v
hears_in between o longest d v = hears_apart o.reply o longest d v
hears_in (opening start) o longest d v = hears_own (verdict o.tally.frame start d v) (code_t o.tally.frame start d)
hears_in (inside start levels) o longest d v = hears_own (verdict o.tally.frame (start + length levels) d v) (code_t o.tally.frame (start + length levels) d)
hears_in (answered start n) o longest d v = hear_frame o.frame longest v

unfoldable pub hears_o : Observer → ℕ → ℕ → ℕ → Hearing
hears_o o longest d v = hears_in o.tally.stand o longest d v

-- ---- what another module's frame does, by what the sample is

-- "It fits when n + 1 is at most M_L."
unfoldable pub fitting : Reception → Bool
fitting r = leb (data_count r.nibbles + 1) r.winner.length

-- "CHER and RE only once a channel has matched"
unfoldable pub heard_delivery : Hearing → Reception → Delivery
heard_delivery Silent r = Nothing
heard_delivery Follows r = Nothing
heard_delivery (Fault code) r = pick r.winner.matched Spoiled Nothing
heard_delivery Good r = pick r.winner.matched (pick (fitting r) Stored Overflowed) Nothing

-- "The model's own frame .. is not stored, touches no receiving channel"
unfoldable pub delivered_apart : Replying → Hearing → Reception → Delivery
delivered_apart silent h r = pick (under_way r.place) (heard_delivery h r) Nothing
delivered_apart (replies c f levels) h r = Nothing

unfoldable pub delivered_in : Stand → Replying → Hearing → Reception → Delivery
delivered_in away y h r = delivered_apart y h r
delivered_in between y h r = delivered_apart y h r
delivered_in (opening start) y h r = Nothing
delivered_in (inside start levels) y h r = Nothing
delivered_in (answered start n) y h r = heard_delivery h r

unfoldable pub is_stored : Delivery → Bool
is_stored Nothing = false
is_stored Stored = true
is_stored Overflowed = false
is_stored Spoiled = false

-- an answered request: "if the frame ends valid and fits the channel that takes it .., else, or where none takes it .., as an error" (02, Req 01)
unfoldable pub answer_in : Hearing → Reception → Answering
answer_in Silent r = comes
answer_in Follows r = comes
answer_in (Fault code) r = wasted
answer_in Good r = pick (is_stored (heard_delivery Good r)) taken wasted

unfoldable pub answer_o : Observer → ℕ → ℕ → Answering
answer_o o longest v = answer_in (hear_frame o.frame longest v) o.frame

-- no attempt is under way; a first level answered and not sampled is none
unfoldable pub pausing : Stand → Bool
pausing away = false
pausing between = true
pausing (opening start) = true
pausing (inside start levels) = false
pausing (answered start n) = false

-- "a service waiting to send it ends in the slot where its channel stores that reply": a frame with R/W 1 and RTR 0 (02, Req 01)
unfoldable pub waits : Stand → Bool
waits away = false
waits between = true
waits (opening start) = false
waits (inside start levels) = false
waits (answered start n) = false

unfoldable pub fulfilled_t : Tally → Bool → Reception → Hearing → Bool
fulfilled_t t replying r h =
    both (both (waits t.stand) (request_t t.frame))
    (both (not replying) (both (is_stored (heard_delivery h r)) (both (eqb r.winner.channel t.channel) (eqb (get_or r.bytes 1 0 % 4) 2))))

unfoldable pub is_replying : Replying → Bool
is_replying silent = false
is_replying (replies c f levels) = true

unfoldable pub fulfilled_o : Observer → Hearing → Bool
fulfilled_o o h = fulfilled_t o.tally (is_replying o.reply) o.frame h

-- ---- the reply (02, Req 01)

-- it goes on, or it has ended; the level of the slot is among levels
unfoldable pub reply_on : Verdict → ℕ → Frame → List ℕ → Replying
reply_on goes c f levels = replies c f levels
reply_on contended c f levels = silent
reply_on failed c f levels = silent
reply_on sent c f levels = silent
reply_on answers c f levels = silent

-- "it and its data bytes are taken in the R/W slot (house)"
unfoldable pub reply_from : List ℕ → ℕ → ℕ → Option ℕ → Replying
reply_from m high low None = silent
reply_from m high low (Some c) = replies c (reply_frame m c high low) []

-- r is the frame after the sample; "never in a frame that the model itself is sending"
unfoldable pub reply_apart : Replying → ℕ → List ℕ → ℕ → ℕ → Reception → Replying
reply_apart silent longest m d v r =
    pick (reads_asked r) (reply_from m (get_or r.bytes 0 0) (reply_low r) (replier_for m longest (get_or r.bytes 0 0) (reply_low r))) silent
reply_apart (replies c f levels) longest m d v r = reply_on (verdict f (28 + length levels) d v) c f (levels ++ (d ∷ []))

unfoldable pub reply_in : Stand → Replying → ℕ → List ℕ → ℕ → ℕ → Reception → Replying
reply_in away y longest m d v r = reply_apart y longest m d v r
reply_in between y longest m d v r = reply_apart y longest m d v r
reply_in (opening start) y longest m d v r = y
reply_in (inside start levels) y longest m d v r = y
reply_in (answered start n) y longest m d v r = y

-- ---- a slot; m is the memory map after the sample

unfoldable pub line_o : Hearing → Past → ℕ → Past
line_o Silent p v = record { good = p.good; samples = v ∷ p.samples }
line_o Follows p v = p
line_o (Fault code) p v = anew false
line_o Good p v = anew true

unfoldable pub sampled_o : Observer → ℕ → ℕ → ℕ → List ℕ → Observer
sampled_o o longest d v m =
    record {
      activity = o.activity;
      line = line_o (hears_o o longest d v) o.line v;
      frame = reception_judged m (hears_o o longest d v) o.frame v;
      tally = pick (fulfilled_o o (hears_o o longest d v)) none (ended_t (counted_t o.tally d v (answer_o o longest v)));
      reply = reply_in o.tally.stand o.reply longest m d v (reception_judged m (hears_o o longest d v) o.frame v);
      diagnosis = o.diagnosis;
    }

-- "Idle waits until the service ends; with no service it acts at once, drops a frame under way"
unfoldable pub idle_o : Observer → Observer
idle_o o =
    pick o.activity.waiting (pick (is_away o.tally.stand) (with_reply_o (with_frame_o (with_activity_o o (in_mode Idle false)) quiet) silent) o) o

-- then the choice, then the start
unfoldable pub goes_on_o : Observer → ℕ → List ℕ → Observer
goes_on_o o longest m =
    with_tally_o o (start_t (choose_t o.tally m longest (is_active o.activity.mode) o.frame) m (free_o o.line) o.frame)

-- ---- a host write

-- "ACTI in active mode only cancels a waiting idle (house)"
unfoldable pub activated_o : Observer → Observer
activated_o o =
    pick (is_active o.activity.mode) (with_activity_o o (in_mode Active false)) (with_line_o (with_activity_o o (in_mode Active false)) (anew false))

unfoldable pub idle_asked_o : Observer → Observer
idle_asked_o o = pick (is_active o.activity.mode) (with_activity_o o (in_mode Active true)) o

unfoldable pub commanded_o : Observer → ℕ → ℕ → Observer
commanded_o o address v =
    pick (eqb address command) (pick (asks_idle v) (idle_asked_o o) (pick (asks_activation v) (activated_o o) o)) o

-- m is the memory map before it. "GRES, pin reset and SLEEP end it at once"; "Command order: GRES, SLEEP, IDLE, ACTI; only the first one set acts (house)"
unfoldable pub written_o : List ℕ → Observer → ℕ → ℕ → Observer
written_o m o address v =
    pick (resets address v) at_reset
    (pick (sleeps address v) (with_reply_o (with_tally_o (with_frame_o (with_activity_o o (in_mode Asleep false)) quiet) none) silent)
    (with_diagnosis_o (idle_o (with_tally_o (commanded_o o address v) (ended_t (asked_t o.tally address v)))) (diagnosis_written m o.diagnosis address v)))

-- ---- an event from controller c; "All else, refused or not, adds nothing"

-- the event was accepted
unfoldable pub accepted : Controller → Event → Bool
accepted c e = eqb (step c e).refused 0

-- the tally once the event's sample is judged, before the end of the service and the choice
unfoldable pub seen_in : Controller → Observer → Event → Tally
seen_in c o Reset = o.tally
seen_in c o (Write address value) = o.tally
seen_in c o (Read address) = o.tally
seen_in c o (Slot levels) = pick (is_active o.activity.mode) (counted_t o.tally (drives c.core) (sample_of c levels) (answer_o o (longest_of c.core) (sample_of c levels))) o.tally

unfoldable pub seen_o : Controller → Observer → Event → Tally
seen_o c o e = pick (accepted c e) (seen_in c o e) o.tally

-- ---- the diagnosis (02, Req 05): worked out of the raw levels, the driven levels, and what the sample is; the slot began with the observer o

-- the model drives a frame of its own
unfoldable pub own_in : Stand → Replying → Bool
own_in away y = is_replying y
own_in between y = is_replying y
own_in (opening start) y = true
own_in (inside start levels) y = true
own_in (answered start n) y = false

-- it drives dominant in the slot and recessive in the next
unfoldable pub turns_o : Controller → Observer → ℕ → Bool
turns_o c o levels =
    both (is_active o.activity.mode)
    (both (own_in o.tally.stand o.reply) (both (eqb (drives c.core) 0) (eqb (drives (next c (Slot levels)).core) 1)))

-- a good frame ends
unfoldable pub ended_o : Controller → Observer → ℕ → Bool
ended_o c o levels = both (is_active o.activity.mode) (ends_well (hears_o o (longest_of c.core) (drives c.core) (sample_of c levels)))

-- "asleep nothing counts" (02)
unfoldable pub diagnosis_o : Controller → Observer → ℕ → Diagnosis
diagnosis_o c o levels =
    pick (is_asleep o.activity.mode) o.diagnosis
    (diagnosed (get_or c.memory diagnosis_control 0) (levels_of c levels) (turns_o c o levels) (ended_o c o levels) o.diagnosis)

-- the level of the input that it selects as the slot begins
unfoldable pub sample_o : Controller → Observer → ℕ → ℕ
sample_o c o levels = input_level (levels_of c levels) (connected (get_or c.memory diagnosis_control 0) o.diagnosis)

unfoldable pub follow_o : Controller → Observer → Event → Observer
follow_o c o Reset = at_reset
follow_o c o (Write address value) = written_o c.memory o address (value % 256)
follow_o c o (Read address) = o
follow_o c o (Slot levels) =
    with_diagnosis_o
    (pick (is_active o.activity.mode)
    (goes_on_o (idle_o (sampled_o o (longest_of c.core) (drives c.core) (sample_of c levels) (next c (Slot levels)).memory)) (longest_of c.core) (next c (Slot levels)).memory)
    o)
    (diagnosis_o c o levels)

unfoldable pub next_o : Controller → Observer → Event → Observer
next_o c o e = pick (accepted c e) (follow_o c o e) o
