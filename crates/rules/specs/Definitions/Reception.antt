-- The line, and the frame under way (01, Receiving; Sending, "Free line"; 02, Req 01).
--   unsettled, after_good, free, takes_start, counted == the line        quiet, under_way, start_ended, command_ended, reads_asked == where the frame stands
--   with.. == the frame under way with one of its fields changed        followed == the frame once a sample that is no fault is taken
use Rattle.std.specs.Prelude.{ℕ, ◌+◌, ◌-◌, ◌*◌, ◌/◌, ◌%◌, Bool, true, false, List, eqb, ltb, leb, get_or, set, replicate}
use Rattle.line.specs.Bits.{pick}
use Rattle.rules.specs.Definitions.Longest.{capacity, most_nibbles}
use Rattle.rules.specs.Definitions.Registers.{both}
use Rattle.rules.specs.Definitions.Channels.{nobody, winner_for}
use Rattle.rules.specs.declared.Winner.{Winner}
use Rattle.rules.specs.declared.Line.{Line}
use Rattle.rules.specs.declared.Phase.{Phase}
use Rattle.rules.specs.declared.Phase.TheVariants.{Quiet, Start, Body, Acknowledge, End}
use Rattle.rules.specs.declared.Place.{Place}
use Rattle.rules.specs.declared.Reception.{Reception}

-- ---- the line

-- "twelve after reset, fault or activation"
unfoldable pub unsettled : Line
unsettled = record { good = false; count = 0 }

-- "four 1s in a row after the last slot of a good frame"
unfoldable pub after_good : Line
after_good = record { good = true; count = 0 }

unfoldable pub free : Line → Bool
free l = pick l.good (leb 4 l.count) (leb 12 l.count)

-- "A start sequence is taken from the slot after a good frame on; after the other three only on a free line."
unfoldable pub takes_start : Line → Bool
takes_start l = pick l.good true (free l)

-- a slot with no frame: a 1 counts, a 0 starts the count again
unfoldable pub counted : Line → ℕ → Line
counted l v =
    pick (eqb v 0) (record { good = l.good; count = 0 })
    (pick (ltb l.count 12) (record { good = l.good; count = l.count + 1 }) l)

-- ---- the place in the frame

unfoldable pub at_place : Phase → ℕ → Place
at_place phase at = record { phase = phase; at = at }

unfoldable pub quiet : Reception
quiet = record { place = at_place Quiet 0; nibbles = 0; bits = 0; bytes = replicate (capacity + 4) 0; winner = nobody }

-- "RXG while a frame, start included, is under way"
unfoldable pub is_under_way : Phase → Bool
is_under_way Quiet = false
is_under_way Start = true
is_under_way Body = true
is_under_way Acknowledge = true
is_under_way End = true

unfoldable pub under_way : Place → Bool
under_way p = is_under_way p.phase

-- identifier to end of data
unfoldable pub is_body : Phase → Bool
is_body Quiet = false
is_body Start = false
is_body Body = true
is_body Acknowledge = false
is_body End = false

unfoldable pub in_body : Place → Bool
in_body p = is_body p.phase

-- between two nibbles, with so many whole
unfoldable pub behind : Reception → ℕ → Bool
behind r whole = both (in_body r.place) (both (eqb r.nibbles whole) (eqb r.place.at 0))

-- a clean start sequence has just ended
unfoldable pub start_ended : Reception → Bool
start_ended r = behind r 0

-- the last command slot has just been taken: identifier and command are four nibbles
unfoldable pub command_ended : Reception → Bool
command_ended r = behind r 4

-- R/W has just been taken, in a frame with EXT 1 and R/W 1: three bits of the fourth nibble (02, Req 01: "taken in the R/W slot (house)")
unfoldable pub reads_asked : Reception → Bool
reads_asked r =
    both (in_body r.place) (both (eqb r.nibbles 3) (both (eqb r.place.at 3) (both (eqb (r.bits / 4 % 2) 1) (eqb (r.bits % 2) 1))))

-- byte 1 of a reply to it: identifier bits 3 to 0, EXT 1, RAK as heard, R/W 1, RTR 0
unfoldable pub reply_low : Reception → ℕ
reply_low r = get_or r.bytes 1 0 / 16 * 16 + 8 + r.bits / 2 % 2 * 4 + 2

-- ---- the fields of the frame under way

abbrev pub with_place : Reception → Place → Reception
with_place r p = record { place = p; nibbles = r.nibbles; bits = r.bits; bytes = r.bytes; winner = r.winner }

abbrev pub with_nibbles : Reception → ℕ → Reception
with_nibbles r n = record { place = r.place; nibbles = n; bits = r.bits; bytes = r.bytes; winner = r.winner }

abbrev pub with_bits : Reception → ℕ → Reception
with_bits r bits = record { place = r.place; nibbles = r.nibbles; bits = bits; bytes = r.bytes; winner = r.winner }

abbrev pub with_bytes : Reception → List ℕ → Reception
with_bytes r bytes = record { place = r.place; nibbles = r.nibbles; bits = r.bits; bytes = bytes; winner = r.winner }

abbrev pub with_winner : Reception → Winner → Reception
with_winner r w = record { place = r.place; nibbles = r.nibbles; bits = r.bits; bytes = r.bytes; winner = w }

-- ---- the frame goes on

unfoldable pub moved : Reception → Reception
moved r = with_place r (at_place r.place.phase (r.place.at + 1))

unfoldable pub entered : Reception → Phase → Reception
entered r phase = with_bits (with_place r (at_place phase 0)) 0

unfoldable pub bit_taken : Reception → ℕ → Reception
bit_taken r v = with_bits (moved r) (r.bits % 8 * 2 + v % 2)

-- nibble k of the bytes, high half first; the bytes hold all nibbles of the longest frame, and the remainder is there for other numbers only
unfoldable pub with_nibble : List ℕ → ℕ → ℕ → List ℕ
with_nibble bytes k nibble =
    pick (eqb (k % 2) 0) (set bytes (k / 2 % (capacity + 4)) (nibble % 16 * 16))
    (set bytes (k / 2 % (capacity + 4)) (get_or bytes (k / 2 % (capacity + 4)) 0 / 16 * 16 + nibble % 16))

-- the count stops at its largest
unfoldable pub more_nibbles : ℕ → ℕ
more_nibbles n = pick (ltb n (most_nibbles capacity)) (n + 1) (most_nibbles capacity)

-- the four bits that were taken, laid behind the whole nibbles
unfoldable pub bits_laid : Reception → Reception
bits_laid r = with_bytes r (with_nibble r.bytes r.nibbles r.bits)

unfoldable pub nibble_taken : Reception → Reception
nibble_taken r = with_nibbles (entered (bits_laid r) Body) (more_nibbles r.nibbles)

-- The check's last three bits and the first half of the pair 00 are four bits too: the bytes then hold the whole check and a zero bit behind it.
unfoldable pub data_ended : Reception → Reception
data_ended r = entered (bits_laid r) Acknowledge

unfoldable pub begun : Reception
begun = with_place quiet (at_place Start 1)

unfoldable pub follow_start : Reception → Reception
follow_start r = pick (ltb r.place.at 9) (moved r) (entered r Body)

-- Slots 0 to 3 of five are plain bits and a first half: each is taken. Slot 4 is a second half: unlike the first it closes a nibble; equal to the first, in the pair 00, it
-- ends the data.
unfoldable pub follow_body : Reception → ℕ → Reception
follow_body r v = pick (ltb r.place.at 4) (bit_taken r v) (pick (eqb v (r.bits % 2)) (data_ended r) (nibble_taken r))

unfoldable pub follow_acknowledge : Reception → ℕ → Reception
follow_acknowledge r v = pick (eqb r.place.at 0) (bit_taken r v) (entered r End)

-- the eighth slot is the last
unfoldable pub follow_end : Reception → Reception
follow_end r = pick (ltb r.place.at 7) (moved r) r

unfoldable pub follow_in : Phase → Reception → ℕ → Reception
follow_in Quiet r v = begun
follow_in Start r v = follow_start r
follow_in Body r v = follow_body r v
follow_in Acknowledge r v = follow_acknowledge r v
follow_in End r v = follow_end r

unfoldable pub followed : Reception → ℕ → Reception
followed r v = follow_in r.place.phase r v

-- "The winner .. taken in the last command slot and held (house)"
unfoldable pub winner_taken : Reception → List ℕ → Reception
winner_taken r m = with_winner r (winner_for m (get_or r.bytes 0 0) (get_or r.bytes 1 0))

-- data bytes, by the whole nibbles before the last three bits: identifier, command and check have seven
unfoldable pub data_count : ℕ → ℕ
data_count nibbles = pick (ltb nibbles 7) 0 ((nibbles - 7) / 2)
