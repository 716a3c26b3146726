-- The receiver's judgement of a sample (01, Receiving).
--   hear_frame, hear_quiet == what the sample is, with a frame under way and without        ends_well == it ends a good frame        acknowledges, receiver_level == the acknowledge that the model drives
--   line_after, reception_after == line and frame after the sample
use Rattle.std.specs.Prelude.{ℕ, ◌+◌, ◌*◌, ◌/◌, ◌%◌, Bool, true, false, not, List, eqb, ltb, leb, get_or, take}
use Rattle.line.specs.Bits.{pick}
use Rattle.line.specs.Check.{check}
use Rattle.line.specs.Frame.{start, byte_bits}
use Rattle.rules.specs.Definitions.Longest.{most_nibbles}
use Rattle.rules.specs.Definitions.Registers.{both, FV, CV, FCSE}
use Rattle.rules.specs.Definitions.Channels.{extension, acknowledge_asked, reads, remote}
use Rattle.rules.specs.Definitions.Reception.{unsettled, after_good, takes_start, counted, quiet, followed, data_count}
use Rattle.rules.specs.declared.Winner.{Winner}
use Rattle.rules.specs.declared.Line.{Line}
use Rattle.rules.specs.declared.Phase.{Phase}
use Rattle.rules.specs.declared.Phase.TheVariants.{Quiet, Start, Body, Acknowledge, End}
use Rattle.rules.specs.declared.Reception.{Reception}
use Rattle.rules.specs.declared.Hearing.{Hearing}
use Rattle.rules.specs.declared.Hearing.TheVariants.{Silent, Follows, Fault, Good}

-- the slot of a fault does not count among the twelve
unfoldable pub line_after : Hearing → Line → ℕ → Line
line_after Silent l v = counted l v
line_after Follows l v = l
line_after (Fault code) l v = unsettled
line_after Good l v = after_good

unfoldable pub reception_after : Hearing → Reception → ℕ → Reception
reception_after Silent r v = r
reception_after Follows r v = followed r v
reception_after (Fault code) r v = quiet
reception_after Good r v = quiet

-- ---- identifier to end of data

-- "Exactly an odd number of whole nibbles, 7 to 67, stands before the last three bits."
unfoldable pub whole : ℕ → ℕ → Bool
whole nibbles longest = both (eqb (nibbles % 2) 1) (both (leb 7 nibbles) (leb nibbles (most_nibbles longest)))

unfoldable pub reply_request : ℕ → Bool
reply_request low = both (extension low) (both (reads low) (remote low))

-- the last fifteen bits: the bytes hold twelve of them behind the data, the last three are plain
unfoldable pub check_received : List ℕ → ℕ → ℕ → ℕ
check_received bytes n last = get_or bytes (n + 2) 0 * 128 + get_or bytes (n + 3) 0 / 16 * 8 + last % 8

-- the check of identifier, command and n data bytes
unfoldable pub check_due : List ℕ → ℕ → ℕ
check_due bytes n = check (byte_bits (take (n + 2) bytes))

-- the pair 00: the length, then "data in one is CV at its end of data, before the check (house)", then the check
unfoldable pub hear_end_of_data : Reception → ℕ → Hearing
hear_end_of_data r longest =
    pick (whole r.nibbles longest)
    (pick (both (reply_request (get_or r.bytes 1 0)) (ltb 0 (data_count r.nibbles))) (Fault CV)
    (pick (eqb (check_received r.bytes (data_count r.nibbles) (r.bits / 2)) (check_due r.bytes (data_count r.nibbles))) Follows (Fault FCSE)))
    (Fault CV)

-- a second half: unlike the first it closes a nibble, one past the most is a length fault; 11 is a violation, 00 ends the data
unfoldable pub hear_second_half : Reception → ℕ → ℕ → Hearing
hear_second_half r longest v =
    pick (eqb v (r.bits % 2)) (pick (eqb v 0) (hear_end_of_data r longest) (Fault CV))
    (pick (ltb r.nibbles (most_nibbles longest)) Follows (Fault CV))

unfoldable pub hear_body : Reception → ℕ → ℕ → Hearing
hear_body r longest v = pick (ltb r.place.at 4) Follows (hear_second_half r longest v)

-- ---- start, acknowledge, end of frame

unfoldable pub hear_start : ℕ → ℕ → Hearing
hear_start at v = pick (eqb v (get_or start at 1)) Follows (Fault CV)

-- "It fits when n + 1 is at most M_L."
unfoldable pub fits : Winner → ℕ → Bool
fits w n = leb (n + 1) w.length

-- "Matched and fitting, RAK 1, DRAK 0, check right: the model drives the acknowledge." The check is right where the acknowledge is reached.
unfoldable pub acknowledges : Reception → Bool
acknowledges r =
    both r.winner.matched
    (both (fits r.winner (data_count r.nibbles)) (both (acknowledge_asked (get_or r.bytes 1 0)) (not r.winner.no_acknowledge)))

-- "RAK 0 with acknowledge seen is FV. So are patterns other than 10 and 11, and 11 where the model drove 10"
unfoldable pub acknowledge_wrong : Bool → Bool → ℕ → ℕ → Bool
acknowledge_wrong asked drove first second = pick (eqb first 0) true (pick (eqb second 0) (not asked) drove)

-- "all judged in the second slot"
unfoldable pub hear_acknowledge : Reception → ℕ → Hearing
hear_acknowledge r v =
    pick (eqb r.place.at 0) Follows
    (pick (acknowledge_wrong (acknowledge_asked (get_or r.bytes 1 0)) (acknowledges r) (r.bits % 2) v) (Fault FV) Follows)

unfoldable pub hear_end : ℕ → ℕ → Hearing
hear_end at v = pick (eqb v 0) (Fault CV) (pick (ltb at 7) Follows Good)

-- ---- the judgement

unfoldable pub hear_in : Phase → Reception → ℕ → ℕ → Hearing
hear_in Quiet r longest v = Silent
hear_in Start r longest v = hear_start r.place.at v
hear_in Body r longest v = hear_body r longest v
hear_in Acknowledge r longest v = hear_acknowledge r v
hear_in End r longest v = hear_end r.place.at v

unfoldable pub hear_frame : Reception → ℕ → ℕ → Hearing
hear_frame r longest v = hear_in r.place.phase r longest v

-- no frame under way: a 0 begins one where the line takes a start
unfoldable pub hear_quiet : Line → ℕ → Hearing
hear_quiet l v = pick (eqb v 0) (pick (takes_start l) Follows Silent) Silent

-- the slot ends a good frame
unfoldable pub ends_well : Hearing → Bool
ends_well Silent = false
ends_well Follows = false
ends_well (Fault code) = false
ends_well Good = true

-- ---- the level that a receiver drives: dominant in the second acknowledge slot where it acknowledges

unfoldable pub acknowledge_level : ℕ → Reception → ℕ
acknowledge_level at r = pick (eqb at 0) 1 (pick (acknowledges r) 0 1)

unfoldable pub receiver_in : Phase → Reception → ℕ
receiver_in Quiet r = 1
receiver_in Start r = 1
receiver_in Body r = 1
receiver_in Acknowledge r = acknowledge_level r.place.at r
receiver_in End r = 1

unfoldable pub receiver_level : Reception → ℕ
receiver_level r = receiver_in r.place.phase r
