-- Demand 3's tally (01, Sending: "Demand 3's tally is fed the run's events and driven levels; choices, starts and ends follow by these rules, not from the program's record").
-- It is a record of its own. Beside the events and the driven levels it is given the memory map, and mode, line and frame under way as Observer.antt keeps them; never
-- anything that the controller records. Its numbers have no largest value.
--   Stand == where a service stands: away (none), between attempts, opening (the first level of an attempt is answered), inside (the levels driven so far), answered (the
--     slots so far of an attempt that goes on as a reception)
--   verdict == what a driven and a sampled level are for the attempt        counted_t, ended_t, choose_t, start_t == a slot        asked_t == a host write
use Rattle.std.specs.Prelude.{ℕ, ◌+◌, ◌*◌, ◌/◌, ◌%◌, Bool, true, false, List, [], ◌∷◌, ◌++◌, eqb, ltb, length, get_or, Option, None, Some}
use Rattle.line.specs.Bits.{pick}
use Rattle.line.specs.Frame.{Frame, size}
use Rattle.line.specs.Layout.{part_of, half_of}
use Rattle.line.specs.declared.Part.{Part}
use Rattle.line.specs.declared.Part.TheVariants.{Start, Identifier, Command, Data, Check, EndOfData, Acknowledge, EndOfFrame, After}
use Rattle.line.specs.declared.Half.{Half}
use Rattle.line.specs.declared.Half.TheVariants.{Plain, First, Second}
use Rattle.rules.specs.Definitions.Registers.{both, command, transmit_control, retry_setting, autonomous, asks_rearbitration}
use Rattle.rules.specs.Definitions.Channels.{base, cher, lowest_ready}
use Rattle.rules.specs.Definitions.Mailbox.{sent_frame}
use Rattle.rules.specs.Definitions.Reception.{under_way, start_ended}
use Rattle.rules.specs.declared.Reception.{Reception}

pub data Stand : Type 0 where
  away : Stand
  between : Stand
  opening : ℕ → Stand
  inside : ℕ → List ℕ → Stand
  answered : ℕ → ℕ → Stand

pub record Tally : Type 0 where
  pub stand : Stand
  pub channel : ℕ
  pub frame : Frame
  pub setting : ℕ
  pub lost : ℕ
  pub errors : ℕ
  pub slots : ℕ
  pub abort : Bool
  pub rear : Bool

unfoldable pub no_frame : Frame
no_frame = record { identifier = 0; command = 0; bytes = []; acknowledge = false }

-- the tally anew, but for one field: the one place that lists its fields
abbrev pub with_stand : Tally → Stand → Tally
with_stand t s =
    record { stand = s; channel = t.channel; frame = t.frame; setting = t.setting; lost = t.lost; errors = t.errors; slots = t.slots; abort = t.abort; rear = t.rear }

abbrev pub with_channel : Tally → ℕ → Tally
with_channel t n =
    record { stand = t.stand; channel = n; frame = t.frame; setting = t.setting; lost = t.lost; errors = t.errors; slots = t.slots; abort = t.abort; rear = t.rear }

abbrev pub with_frame : Tally → Frame → Tally
with_frame t f =
    record { stand = t.stand; channel = t.channel; frame = f; setting = t.setting; lost = t.lost; errors = t.errors; slots = t.slots; abort = t.abort; rear = t.rear }

abbrev pub with_setting : Tally → ℕ → Tally
with_setting t n =
    record { stand = t.stand; channel = t.channel; frame = t.frame; setting = n; lost = t.lost; errors = t.errors; slots = t.slots; abort = t.abort; rear = t.rear }

abbrev pub with_lost : Tally → ℕ → Tally
with_lost t n =
    record { stand = t.stand; channel = t.channel; frame = t.frame; setting = t.setting; lost = n; errors = t.errors; slots = t.slots; abort = t.abort; rear = t.rear }

abbrev pub with_errors : Tally → ℕ → Tally
with_errors t n =
    record { stand = t.stand; channel = t.channel; frame = t.frame; setting = t.setting; lost = t.lost; errors = n; slots = t.slots; abort = t.abort; rear = t.rear }

abbrev pub with_slots : Tally → ℕ → Tally
with_slots t n =
    record { stand = t.stand; channel = t.channel; frame = t.frame; setting = t.setting; lost = t.lost; errors = t.errors; slots = n; abort = t.abort; rear = t.rear }

abbrev pub with_abort : Tally → Bool → Tally
with_abort t b =
    record { stand = t.stand; channel = t.channel; frame = t.frame; setting = t.setting; lost = t.lost; errors = t.errors; slots = t.slots; abort = b; rear = t.rear }

abbrev pub with_rear : Tally → Bool → Tally
with_rear t b =
    record { stand = t.stand; channel = t.channel; frame = t.frame; setting = t.setting; lost = t.lost; errors = t.errors; slots = t.slots; abort = t.abort; rear = b }

-- no service
unfoldable pub none : Tally
none = record { stand = away; channel = 0; frame = no_frame; setting = 0; lost = 0; errors = 0; slots = 0; abort = false; rear = false }

-- ---- a driven level d and a sampled level v in slot k of a frame

pub data Verdict : Type 0 where
  goes : Verdict
  contended : Verdict
  failed : Verdict
  sent : Verdict
  answers : Verdict

-- "the acknowledge, whose due pattern is RAK's"
unfoldable pub asks_acknowledge : Frame → Bool
asks_acknowledge f = eqb (f.command / 4 % 2) 1

unfoldable pub due_level : Frame → ℕ → ℕ → ℕ
due_level f k d = pick (eqb k (51 + 10 * length f.bytes)) (pick (asks_acknowledge f) 0 d) d

-- "a plain bit or first half of a pair"
unfoldable pub open_half_t : Half → Bool
open_half_t Plain = true
open_half_t First = true
open_half_t Second = false

-- "of identifier, command or data"
unfoldable pub arbitrated_t : Part → Bool
arbitrated_t Start = false
arbitrated_t Identifier = true
arbitrated_t Command = true
arbitrated_t Data = true
arbitrated_t Check = false
arbitrated_t EndOfData = false
arbitrated_t Acknowledge = false
arbitrated_t EndOfFrame = false
arbitrated_t After = false

-- a reply request: R/W 1 and RTR 1
unfoldable pub request_t : Frame → Bool
request_t f = eqb (f.command % 4) 3

-- "Recessive driven and dominant sampled .. is lost contention"; "Every other difference is an error". "A requester that sees its recessive RTR driven dominant has not
-- lost contention: the attempt goes on as a reception" (02, Req 01): RTR's first half is slot 28, counted from 0
unfoldable pub verdict : Frame → ℕ → ℕ → ℕ → Verdict
verdict f k d v =
    pick (eqb v (due_level f k d)) (pick (ltb (k + 1) (size (length f.bytes))) goes sent)
    (pick (both (eqb k 28) (request_t f)) answers
    (pick (both (both (eqb d 1) (open_half_t (half_of (length f.bytes) k))) (arbitrated_t (part_of (length f.bytes) k))) contended failed))

-- ---- a slot

unfoldable pub spent_t : Tally → Stand → Tally
spent_t t s = with_slots (with_stand t s) (t.slots + 1)

-- "Each accepted slot of an attempt adds 1 to slots .. An attempt lost there adds 1 to C, one that fails there 1 to errors."
unfoldable pub judged_as : Verdict → Tally → ℕ → List ℕ → Tally
judged_as goes t start levels = spent_t t (inside start levels)
judged_as contended t start levels = with_lost (spent_t t between) (t.lost + 1)
judged_as failed t start levels = with_errors (spent_t t between) (t.errors + 1)
judged_as sent t start levels = spent_t t away
judged_as answers t start levels = spent_t t (answered start (length levels))

-- what a slot of the frame that answers a request is for it: "counts as success .. if the frame ends valid and fits the channel that takes it .., else .. as an error"; "the
-- tally counts an answered attempt's slots to the end of that reception" (02, Req 01)
pub data Answering : Type 0 where
  comes : Answering
  taken : Answering
  wasted : Answering

unfoldable pub replied_as : Answering → Tally → ℕ → ℕ → Tally
replied_as comes t start n = spent_t t (answered start (n + 1))
replied_as taken t start n = spent_t t away
replied_as wasted t start n = with_errors (spent_t t between) (t.errors + 1)

-- a driven level d, a sampled level v, and y where a request is answered
unfoldable pub counted_in : Stand → Tally → ℕ → ℕ → Answering → Tally
counted_in away t d v y = t
counted_in between t d v y = t
counted_in (opening start) t d v y = judged_as (verdict t.frame start d v) t start (d ∷ [])
counted_in (inside start levels) t d v y = judged_as (verdict t.frame (start + length levels) d v) t start (levels ++ (d ∷ []))
counted_in (answered start n) t d v y = replied_as y t start n

unfoldable pub counted_t : Tally → ℕ → ℕ → Answering → Tally
counted_t t d v y = counted_in t.stand t d v y

-- between attempts a service is given up by error R + 1, by an abort or by REAR
unfoldable pub given_up : Tally → Bool
given_up t = pick (ltb t.setting t.errors) true (pick t.abort true t.rear)

unfoldable pub ended_in : Stand → Tally → Tally
ended_in away t = none
ended_in between t = pick (given_up t) none t
ended_in (opening start) t = pick (given_up t) none t
ended_in (inside start levels) t = t
ended_in (answered start n) t = t

unfoldable pub ended_t : Tally → Tally
ended_t t = ended_in t.stand t

-- "The choice sets the fixed frame, n, R (MR) and zero counts."
unfoldable pub chosen_t : List ℕ → ℕ → Tally
chosen_t m c =
    with_setting (with_frame (with_channel (with_stand none between) c) (sent_frame m c)) (retry_setting (get_or m transmit_control 0))

unfoldable pub choice_t : List ℕ → Option ℕ → Tally
choice_t m None = none
choice_t m (Some c) = chosen_t m c

-- "if active with no frame under way and no service"
unfoldable pub choose_in : Stand → Tally → List ℕ → ℕ → Bool → Reception → Tally
choose_in away t m longest active r = pick active (pick (under_way r.place) t (choice_t m (lowest_ready m longest))) t
choose_in between t m longest active r = t
choose_in (opening start) t m longest active r = t
choose_in (inside start levels) t m longest active r = t
choose_in (answered start n) t m longest active r = t

unfoldable pub choose_t : Tally → List ℕ → ℕ → Bool → Reception → Tally
choose_t t m longest active r = choose_in t.stand t m longest active r

-- "MT 1 starts at once on a free line; either type joins a clean start sequence."
unfoldable pub start_in : Stand → Tally → List ℕ → Bool → Reception → Tally
start_in away t m is_free r = t
start_in between t m is_free r =
    pick (start_ended r) (with_stand t (opening 10))
    (pick (under_way r.place) t (pick (both (autonomous (get_or m transmit_control 0)) is_free) (with_stand t (opening 0)) t))
start_in (opening start) t m is_free r = t
start_in (inside start levels) t m is_free r = t
start_in (answered start n) t m is_free r = t

unfoldable pub start_t : Tally → List ℕ → Bool → Reception → Tally
start_t t m is_free r = start_in t.stand t m is_free r

-- ---- a host write

unfoldable pub is_away : Stand → Bool
is_away away = true
is_away between = false
is_away (opening start) = false
is_away (inside start levels) = false
is_away (answered start n) = false

-- "Writing CHER 1 to the channel (abort) or REAR"
unfoldable pub asks : Tally → ℕ → ℕ → Tally
asks t address v =
    pick (eqb address command) (pick (asks_rearbitration v) (with_rear t true) t)
    (pick (both (eqb address (base t.channel + 3)) (cher v)) (with_abort t true) t)

unfoldable pub asked_in : Stand → Tally → ℕ → ℕ → Tally
asked_in away t address v = t
asked_in between t address v = asks t address v
asked_in (opening start) t address v = asks t address v
asked_in (inside start levels) t address v = asks t address v
asked_in (answered start n) t address v = asks t address v

unfoldable pub asked_t : Tally → ℕ → ℕ → Tally
asked_t t address v = asked_in t.stand t address v
