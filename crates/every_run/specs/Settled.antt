-- What every event leaves: each byte of the memory map, each register that the controller writes, each status bit, and a slot's answer, from what stood before, the
-- event and the observer (01, Memory map, Receiving, Sending; 02, Req 01).
--   sent_all, exhausted_in, aborted_in == how a service ends        delivered_map == what another module's frame does        Replied == how a reply ends
--   memory_o, sending_o, message_o, error_o, flag_o == a byte or register after an event        read_o == what a host reads        Settles == the claim on an event
--   SettledOver == the claim on a list of events, from a controller and an observer on
use Rattle.std.specs.Prelude.{ℕ, ◌+◌, ◌%◌, Bool, true, false, not, List, [], ◌∷◌, ◌≡◌, eqb, ltb, length, get_or, set}
use Rattle.line.specs.Bits.{pick}
use Rattle.rules.specs.Definitions.Longest.{longest_of}
use Rattle.rules.specs.Definitions.Registers.{both, either, has_bit, line_control, command, line_status_at, transmission_status, last_message_status, last_error_status, interrupt_status_at, interrupt_reset, BOV, CV, line_status, retries_byte, interrupt_status, transmitted}
use Rattle.rules.specs.Definitions.Channels.{acknowledge_asked}
use Rattle.rules.specs.Definitions.Mailbox.{marked_cher, marked_chtx, marked_chrx, reset_memory}
use Rattle.rules.specs.Definitions.Reception.{under_way}
use Rattle.rules.specs.Definitions.Delivery.{memory_stored}
use Rattle.rules.specs.Definitions.State.{is_active, is_asleep, is_idle}
use Rattle.rules.specs.Definitions.Slots as slot_rule
use Rattle.rules.specs.Definitions.Slots.{heard, drives, sample_of}
use Rattle.rules.specs.Definitions.Host.{resets, sleeps}
use Rattle.rules.specs.Definitions.Run.{step, next}
use Rattle.every_run.specs.Tally.{Stand, away, between, opening, inside, answered, Tally, Verdict, goes, contended, failed, sent, answers, verdict, counted_t, ended_t, is_away, asked_t}
use Rattle.every_run.specs.Observer.{Replying, silent, replies, Observer, delivered_in, is_stored, answer_o, pausing, fulfilled_o, hears_o, accepted, next_o}
use Rattle.every_run.specs.Sending.{level_o}
use Rattle.rules.specs.declared.Retries.{Retries}
use Rattle.rules.specs.declared.Reception.{Reception}
use Rattle.rules.specs.declared.Hearing.{Hearing}
use Rattle.rules.specs.declared.Hearing.TheVariants.{Silent, Follows, Fault, Good}
use Rattle.rules.specs.declared.Delivery.{Delivery}
use Rattle.rules.specs.declared.Delivery.TheVariants.{Nothing, Stored, Overflowed, Spoiled}
use Rattle.rules.specs.declared.Controller.{Controller}
use Rattle.rules.specs.declared.Event.{Event}
use Rattle.rules.specs.declared.Event.TheVariants.{Reset, Write, Read, Slot}

-- ---- how a service ends: t is the tally before the event, j once its sample is judged or what the host asks is taken

-- an attempt has sent its last slot, or its answer is taken: in service before, in none then
unfoldable pub sent_all : Tally → Tally → Bool
sent_all t j = both (not (is_away t.stand)) (is_away j.stand)

-- error R + 1
unfoldable pub exhausted_in : Tally → Bool
exhausted_in j = ltb j.setting j.errors

-- "exhaustion is judged first"
unfoldable pub aborted_in : Tally → Bool
aborted_in j = both (pausing j.stand) (both (not (exhausted_in j)) j.abort)

-- "After error R + 1: TE, CHER, CHTx. Success: TOK, CHTx."; an abort sets CHTx, REAR nothing
unfoldable pub ended_map : Tally → Tally → List ℕ → List ℕ
ended_map t j m =
    pick (sent_all t j) (marked_chtx m t.channel)
    (pick (exhausted_in j) (marked_chtx (marked_cher m t.channel) t.channel)
    (pick (aborted_in j) (marked_chtx m t.channel) m))

-- "Retry fields show the smaller of errors and R"
unfoldable pub retries_t : Tally → Retries
retries_t t = record { count = pick (ltb t.errors t.setting) t.errors t.setting; channel = t.channel }

-- `memory_stored` is what Receiving.antt says of the frame that the samples are; a fault, or a frame that does not fit, sets CHER
unfoldable pub delivered_map : Delivery → List ℕ → Reception → List ℕ
delivered_map Nothing m r = m
delivered_map Stored m r = memory_stored m r
delivered_map Overflowed m r = marked_cher m r.winner.channel
delivered_map Spoiled m r = marked_cher m r.winner.channel

unfoldable pub marks_cher : Delivery → Bool
marks_cher Nothing = false
marks_cher Stored = false
marks_cher Overflowed = true
marks_cher Spoiled = true

-- ---- a reply of the model's own (02, Req 01)

pub data Replied : Type 0 where
  unended : Replied
  whole : ℕ → Replied
  broken : ℕ → Replied

unfoldable pub replied_by : Verdict → ℕ → Replied
replied_by goes c = unended
replied_by contended c = unended
replied_by failed c = broken c
replied_by sent c = whole c
replied_by answers c = unended

unfoldable pub replied_apart : Replying → ℕ → ℕ → Replied
replied_apart silent d v = unended
replied_apart (replies c f levels) d v = replied_by (verdict f (28 + length levels) d v) c

unfoldable pub replied_at : Stand → Replying → ℕ → ℕ → Replied
replied_at away y d v = replied_apart y d v
replied_at between y d v = replied_apart y d v
replied_at (opening start) y d v = unended
replied_at (inside start levels) y d v = unended
replied_at (answered start n) y d v = unended

-- success: CHTx and CHRx; "An error in it sets CHER and RE, not TE"
unfoldable pub replied_map : Replied → List ℕ → List ℕ
replied_map unended m = m
replied_map (whole c) m = marked_chrx (marked_chtx m c) c
replied_map (broken c) m = marked_cher m c

unfoldable pub is_whole : Replied → Bool
is_whole unended = false
is_whole (whole c) = true
is_whole (broken c) = false

unfoldable pub is_broken : Replied → Bool
is_broken unended = false
is_broken (whole c) = false
is_broken (broken c) = true

-- "0x06: retries 0"
unfoldable pub replied_message : Replied → Retries → Retries
replied_message unended x = x
replied_message (whole c) x = record { count = 0; channel = c }
replied_message (broken c) x = x

-- ---- a slot of an active controller

module _ (c : Controller) (o : Observer) (levels : ℕ) where
  abbrev pub judged_in : Tally
  judged_in = counted_t o.tally (drives c.core) (sample_of c levels) (answer_o o (longest_of c.core) (sample_of c levels))

  abbrev pub hearing_o : Hearing
  hearing_o = hears_o o (longest_of c.core) (drives c.core) (sample_of c levels)

  abbrev pub delivery_in : Delivery
  delivery_in = delivered_in o.tally.stand o.reply hearing_o o.frame

  -- a reply of the model's own, by how the sample ends it
  abbrev pub replied_in : Replied
  replied_in = replied_at o.tally.stand o.reply (drives c.core) (sample_of c levels)

  -- a service is chosen: none once the sample's effects are taken, one after the slot
  abbrev pub chosen_in : Bool
  chosen_in = both (either (fulfilled_o o hearing_o) (is_away (ended_t judged_in).stand)) (not (is_away (next_o c o (Slot levels)).tally.stand))

-- ---- the memory map

-- an accepted write changes its own byte; commands and interrupt resets are not kept. `% 256` changes no address that is accepted
unfoldable pub written_map : List ℕ → ℕ → ℕ → List ℕ
written_map m address v = pick (either (eqb address command) (eqb address interrupt_reset)) m (set m (address % 256) v)

unfoldable pub memory_o : Controller → Observer → Event → List ℕ
memory_o c o Reset = reset_memory c.memory
memory_o c o (Write address value) =
    pick (resets address (value % 256)) (reset_memory c.memory)
    (pick (sleeps address (value % 256)) c.memory
    (ended_map o.tally (asked_t o.tally address (value % 256)) (written_map c.memory address (value % 256))))
memory_o c o (Read address) = c.memory
memory_o c o (Slot levels) =
    pick (is_active o.activity.mode)
    (replied_map (replied_in c o levels)
    (pick (fulfilled_o o (hearing_o c o levels)) (delivered_map (delivery_in c o levels) c.memory o.frame)
    (ended_map o.tally (judged_in c o levels) (delivered_map (delivery_in c o levels) c.memory o.frame))))
    c.memory

-- ---- 0x05, 0x06, 0x07

unfoldable pub zero_retries : Retries
zero_retries = record { count = 0; channel = 0 }

-- at the choice, and at each error: "0x05 keeps the last service's"
unfoldable pub sending_o : Controller → Observer → Event → Retries
sending_o c o Reset = zero_retries
sending_o c o (Write address value) = pick (resets address (value % 256)) zero_retries c.core.report.sending
sending_o c o (Read address) = c.core.report.sending
sending_o c o (Slot levels) =
    pick (is_active o.activity.mode)
    (pick (chosen_in c o levels) (retries_t (next_o c o (Slot levels)).tally)
    (pick (ltb o.tally.errors (judged_in c o levels).errors) (retries_t (judged_in c o levels)) c.core.report.sending))
    c.core.report.sending

-- "0x06 is written on success, exhaustion or CHRx (retries 0)"
unfoldable pub message_o : Controller → Observer → Event → Retries
message_o c o Reset = zero_retries
message_o c o (Write address value) = pick (resets address (value % 256)) zero_retries c.core.report.message
message_o c o (Read address) = c.core.report.message
message_o c o (Slot levels) =
    pick (is_active o.activity.mode)
    (replied_message (replied_in c o levels)
    (pick (either (sent_all o.tally (judged_in c o levels)) (exhausted_in (judged_in c o levels))) (retries_t (judged_in c o levels))
    (pick (is_stored (delivery_in c o levels)) (record { count = 0; channel = o.frame.winner.channel }) c.core.report.message)))
    c.core.report.message

unfoldable pub is_good : Hearing → Bool
is_good Silent = false
is_good Follows = false
is_good (Fault code) = false
is_good Good = true

unfoldable pub is_nothing : Delivery → Bool
is_nothing Nothing = true
is_nothing Stored = false
is_nothing Overflowed = false
is_nothing Spoiled = false

unfoldable pub code_heard : Hearing → ℕ → ℕ
code_heard Silent x = x
code_heard Follows x = x
code_heard (Fault code) x = code
code_heard Good x = x

-- "Each error replaces 0x07 (house)"; BOV where a good frame overflows
unfoldable pub overflows : Hearing → Delivery → Bool
overflows Silent d = false
overflows Follows d = false
overflows (Fault code) d = false
overflows Good d = marks_cher d

-- a request answered by a frame that "none takes (CV, at the end of a good frame)" (02, Req 01)
unfoldable pub untaken_o : Stand → Hearing → Delivery → Bool
untaken_o away h d = false
untaken_o between h d = false
untaken_o (opening start) h d = false
untaken_o (inside start levels) h d = false
untaken_o (answered start n) h d = both (is_good h) (is_nothing d)

unfoldable pub error_o : Controller → Observer → Event → ℕ
error_o c o Reset = 0
error_o c o (Write address value) = pick (resets address (value % 256)) 0 c.core.report.error
error_o c o (Read address) = c.core.report.error
error_o c o (Slot levels) =
    pick (is_active o.activity.mode)
    (pick (untaken_o o.tally.stand (hearing_o c o levels) (delivery_in c o levels)) CV
    (pick (overflows (hearing_o c o levels) (delivery_in c o levels)) BOV (code_heard (hearing_o c o levels) c.core.report.error)))
    c.core.report.error

-- ---- 0x09, a bit

-- bit k, which stands at `reset` after a reset: "A write to 0x0B clears the named status bits"; a slot raises it or leaves it
unfoldable pub flag_o : Bool → ℕ → (ℕ → Bool) → Bool → Observer → Event → Bool
flag_o reset k raises flag o Reset = reset
flag_o reset k raises flag o (Write address value) =
    pick (resets address (value % 256)) reset (pick (both (eqb address interrupt_reset) (has_bit (value % 256) k)) false flag)
flag_o reset k raises flag o (Read address) = flag
flag_o reset k raises flag o (Slot levels) = pick (both (is_active o.activity.mode) (raises levels)) true flag

-- RAK of the frame under way
abbrev pub rak_o : Observer → Bool
rak_o o = acknowledge_asked (get_or o.frame.bytes 1 0)

-- ---- the claim

-- what stands after an accepted event, or after a refused one: what stood
abbrev pub Settled : {A : Type 0} → Controller → Event → A → A → A → Type 0
Settled c e before after now = now ≡ pick (accepted c e) after before

-- what a host reads: 0x04 by the observer, the other registers that the controller writes, else the byte of the map. `% 256` as in written_map
unfoldable pub read_o : Controller → Observer → ℕ → ℕ
read_o c o address =
    pick (eqb address line_status_at) (line_status (is_asleep o.activity.mode) (is_idle o.activity.mode) o.diagnosis (not (is_away o.tally.stand)) (under_way o.frame.place))
    (pick (eqb address transmission_status) (retries_byte c.core.report.sending)
    (pick (eqb address last_message_status) (retries_byte c.core.report.message)
    (pick (eqb address last_error_status) c.core.report.error
    (pick (eqb address interrupt_status_at) (interrupt_status c.core.report.flags) (get_or c.memory (address % 256) 0)))))

-- reset and write answer 0; of a slot "the event's answer and listing give TXD after" the transmit inversion, "idle and asleep too"
abbrev pub Answers : Controller → Observer → Event → Type 0
Answers c o Reset = (step c Reset).value ≡ 0
Answers c o (Write address value) = (step c (Write address value)).value ≡ 0
Answers c o (Read address) = accepted c (Read address) ≡ true → (step c (Read address)).value ≡ read_o c o address
Answers c o (Slot levels) =
    accepted c (Slot levels) ≡ true → (step c (Slot levels)).value ≡ transmitted (get_or (next c (Slot levels)).memory line_control 0) (level_o (next_o c o (Slot levels)))

-- what the sample is for the line and the frame under way, which Receiving.antt speaks of
abbrev pub Hears : Controller → Observer → Event → Type 0
Hears c o Reset = Unit {0}
Hears c o (Write address value) = Unit {0}
Hears c o (Read address) = Unit {0}
Hears c o (Slot levels) = heard c.core (slot_rule.verdict c.core (sample_of c levels)) (sample_of c levels) ≡ hearing_o c o levels

pub record Settles (c : Controller) (o : Observer) (e : Event) : Type 0 where
  pub value : Answers c o e
  pub hearing : Hears c o e
  pub memory : Settled c e c.memory (memory_o c o e) (next c e).memory
  pub sending : Settled c e c.core.report.sending (sending_o c o e) (next c e).core.report.sending
  pub message : Settled c e c.core.report.message (message_o c o e) (next c e).core.report.message
  pub error : Settled c e c.core.report.error (error_o c o e) (next c e).core.report.error
  pub rst : Settled c e c.core.report.flags.rst (flag_o true 7 (λ levels. false) c.core.report.flags.rst o e) (next c e).core.report.flags.rst
  pub te : Settled c e c.core.report.flags.te (flag_o false 4 (λ levels. exhausted_in (judged_in c o levels)) c.core.report.flags.te o e) (next c e).core.report.flags.te
  pub tok : Settled c e c.core.report.flags.tok (flag_o false 3 (λ levels. either (sent_all o.tally (judged_in c o levels)) (is_whole (replied_in c o levels))) c.core.report.flags.tok o e) (next c e).core.report.flags.tok
  pub re : Settled c e c.core.report.flags.re (flag_o false 2 (λ levels. either (marks_cher (delivery_in c o levels)) (is_broken (replied_in c o levels))) c.core.report.flags.re o e) (next c e).core.report.flags.re
  pub rok : Settled c e c.core.report.flags.rok (flag_o false 1 (λ levels. both (is_stored (delivery_in c o levels)) (rak_o o)) c.core.report.flags.rok o e) (next c e).core.report.flags.rok
  pub rnok : Settled c e c.core.report.flags.rnok (flag_o false 0 (λ levels. both (is_stored (delivery_in c o levels)) (not (rak_o o))) c.core.report.flags.rnok o e) (next c e).core.report.flags.rnok

abbrev pub SettledOver : Controller → Observer → List Event → Type 0
SettledOver c o [] = Unit {0}
SettledOver c o (e ∷ es) = Settles c o e × SettledOver (next c e) (next_o c o e) es
