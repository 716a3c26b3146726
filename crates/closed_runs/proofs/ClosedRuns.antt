-- Closed runs, computed. What each shows is said at its statement.
use Prim.Native.Nat.{◌+◌, ◌*◌}
use mathlib.Core.Bool.{true}
use mathlib.Core.List.{[], ◌∷◌, ◌++◌}
use mathlib.Core.Path.{◌≡◌, refl}
use lib.Dec.{leb}
use lib.ListN.{take, drop, replicate}
use Rattle.line.specs.Bits.{bits}
use Rattle.line.specs.LineCode.{line_code}
use Rattle.line.specs.Frame.{byte_bits, slots, size}
use Rattle.rules.specs.Definitions.Slots.{drives}
use Rattle.rules.specs.Definitions.Run.{fresh}
use Rattle.every_run.specs.Tally.{request_t}
use Rattle.every_run.specs.Observer.{at_reset}
use Rattle.every_run.specs.Sending.{bound_of}
use Rattle.closed_runs.specs.Seen.{Counts, seen_over}
use Rattle.closed_runs.specs.Claims.{wired, Received, Runs, MoreCourses}
use Rattle.rules.specs.Statements.Runs.{set_up, ones, levels, sent, echoed, overdriven, ran, listening, asking, Stored, last_answer, reads, sees, pin, again, sending_data, failures, overdriven_at, refuses, reads_from, writes_from, framed, heard_by, lower, captured, room_for}
use Rattle.rules.specs.declared.Event.TheVariants.{Slot, Write, Read}

pub success : Counts (seen_over fresh at_reset (set_up ++ (ones 12 ++ echoed)) (Slot 7)) 0 0 60
unfolding seen_over set_up ones echoed levels sent
success = (refl, refl, refl)

pub exhausted : Counts (seen_over fresh at_reset (set_up ++ (ones 12 ++ (Slot 7 ∷ (ones 12 ++ (Slot 7 ∷ ones 12))))) (Slot 7)) 0 3 3
unfolding seen_over set_up ones
exhausted = (refl, refl, refl)

pub lost_twice : Counts (seen_over fresh at_reset (set_up ++ (ones 12 ++ (overdriven ++ (ones 12 ++ (overdriven ++ (ones 12 ++ echoed)))))) (Slot 7)) 2 0 82
unfolding seen_over set_up ones overdriven echoed levels sent
lost_twice = (refl, refl, refl)

pub join : Counts (seen_over fresh at_reset (set_up ++ (Write 0x01 0x22 ∷ (ones 12 ++ echoed))) (Slot 7)) 0 0 50
unfolding seen_over set_up ones echoed levels sent
join = (refl, refl, refl)

pub abort : Counts (seen_over fresh at_reset (set_up ++ (ones 12 ++ (Slot 0 ∷ Slot 0 ∷ Slot 0 ∷ Write 0x13 0x0C ∷ []))) (Slot 7)) 0 1 4
unfolding seen_over set_up ones
abort = (refl, refl, refl)

pub answer_taken : Counts (seen_over fresh at_reset (heard_by (Write 0x19 0x3B ∷ Write 0x01 0x23 ∷ []) (take 79 (slots (framed 10 (0xA5 ∷ 0x3C ∷ []))))) (Slot 7)) 0 0 80
unfolding seen_over heard_by listening ones levels framed
answer_taken = (refl, refl, refl)

pub answer_wasted : Counts (seen_over fresh at_reset (heard_by (Write 0x19 0x3B ∷ Write 0x01 0x23 ∷ Write 0x1B 0x10 ∷ []) (take 79 (slots (framed 10 (0xA5 ∷ 0x3C ∷ []))))) (Slot 7)) 0 1 80
unfolding seen_over heard_by listening ones levels framed
answer_wasted = (refl, refl, refl)

pub longest_answer : Counts (seen_over fresh at_reset (heard_by (Write 0x19 0x3B ∷ Write 0x01 0x03 ∷ []) (take 359 (slots (framed 10 (replicate 30 0))))) (Slot 0)) 0 1 360
unfolding seen_over heard_by listening ones levels framed
longest_answer = (refl, refl, refl)

pub driven : drives (ran fresh (listening ++ (ones 12 ++ levels (take 71 (slots asking))))).core ≡ 0
unfolding ran last_answer listening ones levels asking drives
driven = refl

pub stored : Stored (ran fresh (listening ++ (ones 12 ++ levels (slots asking)))).memory
unfolding ran last_answer listening ones levels asking
stored = (refl, refl, refl, refl, refl)

pub fifteen_errors : sees (set_up ++ (Write 0x01 0xF3 ∷ failures 15)) (0x05 ∷ 0x06 ∷ 0x09 ∷ 0x13 ∷ []) ≡ 0xF0 ∷ 0x00 ∷ 0x80 ∷ 0x08 ∷ []
unfolding last_answer ran sees reads set_up failures ones
fifteen_errors = refl

pub sixteen_errors : sees (set_up ++ (Write 0x01 0xF3 ∷ failures 16)) (0x05 ∷ 0x06 ∷ 0x09 ∷ 0x13 ∷ []) ≡ 0x01 ∷ 0xF0 ∷ 0x90 ∷ 0x0E ∷ []
unfolding last_answer ran sees reads set_up failures ones
sixteen_errors = refl

pub not_sent_yet : sees (sending_data ++ (ones 12 ++ levels (take 79 (slots asking)))) (0x09 ∷ 0x13 ∷ []) ≡ 0x80 ∷ 0x18 ∷ []
unfolding last_answer ran sees reads sending_data ones levels asking
not_sent_yet = refl

pub sent_with_data : sees (sending_data ++ (ones 12 ++ levels (slots asking))) (0x06 ∷ 0x07 ∷ 0x09 ∷ 0x13 ∷ []) ≡ 0x00 ∷ 0x00 ∷ 0x88 ∷ 0x1A ∷ []
unfolding last_answer ran sees reads sending_data ones levels asking
sent_with_data = refl

pub eleven_are_too_few : sees (listening ++ (ones 12 ++ (Slot 0 ∷ Slot 7 ∷ (ones 11 ++ levels (slots asking))))) (0x07 ∷ 0x1B ∷ 0xFF ∷ []) ≡ 0x02 ∷ 0x18 ∷ 0x00 ∷ []
unfolding last_answer ran sees reads listening ones levels asking
eleven_are_too_few = refl

pub twelve_are_enough : sees (listening ++ (ones 12 ++ (Slot 0 ∷ Slot 7 ∷ (ones 12 ++ levels (slots asking))))) (0x07 ∷ 0x1B ∷ 0xFF ∷ []) ≡ 0x02 ∷ 0x19 ∷ 0x82 ∷ []
unfolding last_answer ran sees reads listening ones levels asking
twelve_are_enough = refl

pub not_acknowledged : sees (sending_data ++ (ones 12 ++ (levels (take 71 (slots asking)) ++ ones 1))) (0x05 ∷ 0x07 ∷ 0x09 ∷ []) ≡ 0x10 ∷ 0x04 ∷ 0x80 ∷ []
unfolding last_answer ran sees reads sending_data ones levels asking
not_acknowledged = refl

pub check_wrong : sees (heard_by [] (take 40 (slots asking) ++ drop 40 (slots again))) (0x07 ∷ 0x09 ∷ 0x1B ∷ []) ≡ 0x08 ∷ 0x84 ∷ 0x1C ∷ []
unfolding last_answer ran sees reads heard_by listening ones levels asking again
check_wrong = refl

pub acknowledge_unasked : sees (heard_by [] (take 50 (slots (framed 8 [])) ++ (1 ∷ 0 ∷ []))) (0x07 ∷ 0x09 ∷ 0x1B ∷ []) ≡ 0x01 ∷ 0x84 ∷ 0x1C ∷ []
unfolding last_answer ran sees reads heard_by listening ones levels framed
acknowledge_unasked = refl

pub overflow_unanswered : pin (heard_by (Write 0x1B 0x10 ∷ []) (take 71 (slots asking))) ≡ 1
unfolding last_answer ran pin heard_by listening ones levels asking
overflow_unanswered = refl

pub request_with_data : sees (heard_by (Write 0x19 0x3A ∷ Write 0x1B 0x1A ∷ []) (slots (framed 11 (0xA5 ∷ [])))) (0x07 ∷ 0x09 ∷ 0x1B ∷ []) ≡ 0x02 ∷ 0x84 ∷ 0x1E ∷ []
unfolding last_answer ran sees reads heard_by listening ones levels framed
request_with_data = refl

pub request_again : sees (heard_by (Write 0x19 0x3A ∷ Write 0x1B 0x1B ∷ []) (slots (framed 11 []))) (0x07 ∷ 0x09 ∷ 0x1B ∷ []) ≡ 0x00 ∷ 0x80 ∷ 0x1B ∷ []
unfolding last_answer ran sees reads heard_by listening ones levels framed
request_again = refl

pub linked : sees (heard_by (Write 0x1A 0x0D ∷ Write 0x1B 0x00 ∷ Write 0x7A 0x20 ∷ Write 0x7B 0x1A ∷ []) (slots asking)) (0x06 ∷ 0x09 ∷ 0x1B ∷ 0x7B ∷ 0xA0 ∷ 0xA1 ∷ 0xA2 ∷ []) ≡ 0x01 ∷ 0x82 ∷ 0x01 ∷ 0x1A ∷ 0x82 ∷ 0xA5 ∷ 0x3C ∷ []
unfolding last_answer ran sees reads heard_by listening ones levels asking
linked = refl

pub linked_to_14 : sees (heard_by (Write 0x1A 0x0E ∷ Write 0x1B 0x00 ∷ []) (slots asking)) (0x09 ∷ 0x1B ∷ []) ≡ 0x80 ∷ 0x00 ∷ []
unfolding last_answer ran sees reads heard_by listening ones levels asking
linked_to_14 = refl

pub high_bits_masked : sees (heard_by (Write 0x18 0x52 ∷ Write 0x1E 0x00 ∷ []) (slots asking)) (0x09 ∷ 0x18 ∷ 0x19 ∷ 0x1B ∷ []) ≡ 0x82 ∷ 0xF2 ∷ 0x39 ∷ 0x19 ∷ []
unfolding last_answer ran sees reads heard_by listening ones levels asking
high_bits_masked = refl

pub high_bits_compared : sees (heard_by (Write 0x18 0x52 ∷ []) (slots (framed 8 []))) (0x09 ∷ 0x18 ∷ 0x1B ∷ []) ≡ 0x80 ∷ 0x52 ∷ 0x18 ∷ []
unfolding last_answer ran sees reads heard_by listening ones levels framed
high_bits_compared = refl

pub low_bits_compared : sees (heard_by (Write 0x19 0x99 ∷ []) (slots (framed 8 []))) (0x09 ∷ 0x19 ∷ 0x1B ∷ []) ≡ 0x80 ∷ 0x99 ∷ 0x18 ∷ []
unfolding last_answer ran sees reads heard_by listening ones levels framed
low_bits_compared = refl

pub rtr_without_rw : sees (heard_by [] (slots (framed 13 (0xA5 ∷ [])))) (0x07 ∷ 0x09 ∷ 0x1B ∷ []) ≡ 0x00 ∷ 0x80 ∷ 0x18 ∷ []
unfolding last_answer ran sees reads heard_by listening ones levels framed
rtr_without_rw = refl

pub rw_without_rtr : sees (heard_by (Write 0x19 0x3A ∷ Write 0x1B 0x1A ∷ []) (slots (framed 14 []))) (0x07 ∷ 0x09 ∷ 0x1B ∷ []) ≡ 0x00 ∷ 0x80 ∷ 0x1A ∷ []
unfolding last_answer ran sees reads heard_by listening ones levels framed
rw_without_rtr = refl

pub not_emptied : sees (heard_by (Write 0x1B 0x1B ∷ []) (slots (framed 8 []))) (0x07 ∷ 0x09 ∷ 0x1B ∷ []) ≡ 0x00 ∷ 0x80 ∷ 0x1B ∷ []
unfolding last_answer ran sees reads heard_by listening ones levels framed
not_emptied = refl

pub rnok : sees (heard_by (Write 0x1B 0x1A ∷ []) (slots (framed 8 []))) (0x06 ∷ 0x07 ∷ 0x09 ∷ 0x1B ∷ []) ≡ 0x01 ∷ 0x00 ∷ 0x81 ∷ 0x1B ∷ []
unfolding last_answer ran sees reads heard_by listening ones levels framed
rnok = refl

pub channel_13 : sees (Write 0x78 0xF2 ∷ Write 0x79 0x39 ∷ Write 0x7A 0x7F ∷ Write 0x7B 0x18 ∷ Write 0x7E 0xFF ∷ Write 0x7F 0xF0 ∷ Write 0x03 0x10 ∷ (ones 12 ++ levels (slots (framed 8 [])))) (0x06 ∷ 0x09 ∷ 0x7B ∷ 0xFF ∷ []) ≡ 0x0D ∷ 0x81 ∷ 0x19 ∷ 0x00 ∷ []
unfolding last_answer ran sees reads ones levels framed
channel_13 = refl

pub channel_13_sends : sees (Write 0x79 0x38 ∷ Write 0x7B 0x08 ∷ Write 0x03 0x10 ∷ Slot 7 ∷ []) (0x04 ∷ 0x05 ∷ []) ≡ 0x02 ∷ 0x0D ∷ []
unfolding last_answer ran sees reads
channel_13_sends = refl

pub longest_taken : sees (heard_by (Write 0x1A 0x10 ∷ Write 0x1B 0xF8 ∷ []) (slots (framed 8 (replicate 30 0xA5)))) (0x09 ∷ 0x1B ∷ 0x90 ∷ 0x91 ∷ 0xAE ∷ 0xAF ∷ []) ≡ 0x81 ∷ 0xF9 ∷ 0x1E ∷ 0xA5 ∷ 0xA5 ∷ 0x00 ∷ []
unfolding last_answer ran sees reads heard_by listening ones levels framed
longest_taken = refl

pub pair_11 : sees (heard_by [] (take 39 (slots asking) ++ (1 ∷ []))) (0x07 ∷ 0x09 ∷ 0x1B ∷ []) ≡ 0x02 ∷ 0x84 ∷ 0x1C ∷ []
unfolding last_answer ran sees reads heard_by listening ones levels asking
pair_11 = refl

pub end_spoilt : sees (heard_by [] (take 79 (slots asking) ++ (0 ∷ []))) (0x07 ∷ 0x09 ∷ 0x1B ∷ 0xFF ∷ []) ≡ 0x02 ∷ 0x84 ∷ 0x1C ∷ 0x00 ∷ []
unfolding last_answer ran sees reads heard_by listening ones levels asking
end_spoilt = refl

pub count_starts_again : sees (listening ++ (ones 11 ++ (Slot 0 ∷ (ones 11 ++ levels (slots asking))))) (0x07 ∷ 0x09 ∷ 0x1B ∷ []) ≡ 0x00 ∷ 0x80 ∷ 0x18 ∷ []
unfolding last_answer ran sees reads listening ones levels asking
count_starts_again = refl

pub reply_taken : sees (heard_by (Write 0x19 0x3B ∷ Write 0x1B 0x1A ∷ []) (slots (framed 10 []))) (0x09 ∷ 0x1B ∷ []) ≡ 0x81 ∷ 0x1B ∷ []
unfolding last_answer ran heard_by listening ones levels framed sees reads
reply_taken = refl

pub reply_not_a_request : sees (heard_by (Write 0x19 0x3B ∷ Write 0x1B 0x1A ∷ []) (slots (framed 11 []))) (0x09 ∷ 0x1B ∷ []) ≡ 0x80 ∷ 0x1A ∷ []
unfolding last_answer ran heard_by listening ones levels framed sees reads
reply_not_a_request = refl

pub reply_not_data : sees (heard_by (Write 0x19 0x3B ∷ Write 0x1B 0x1A ∷ []) (slots (framed 8 []))) (0x09 ∷ 0x1B ∷ []) ≡ 0x80 ∷ 0x1A ∷ []
unfolding last_answer ran heard_by listening ones levels framed sees reads
reply_not_data = refl

pub reply_not_ext_0 : sees (heard_by (Write 0x19 0x3B ∷ Write 0x1B 0x1A ∷ []) (slots (framed 2 []))) (0x09 ∷ 0x1B ∷ []) ≡ 0x80 ∷ 0x1A ∷ []
unfolding last_answer ran heard_by listening ones levels framed sees reads
reply_not_ext_0 = refl

pub first_slot_dominant : sees (heard_by [] (take 70 (slots asking) ++ (0 ∷ 0 ∷ []))) (0x07 ∷ 0x09 ∷ 0x1B ∷ []) ≡ 0x01 ∷ 0x84 ∷ 0x1C ∷ []
unfolding last_answer ran heard_by listening ones levels asking sees reads
first_slot_dominant = refl

pub acknowledge_unseen : sees (heard_by [] (take 70 (slots asking) ++ (1 ∷ 1 ∷ []))) (0x07 ∷ 0x09 ∷ 0x1B ∷ []) ≡ 0x01 ∷ 0x84 ∷ 0x1C ∷ []
unfolding last_answer ran heard_by listening ones levels asking sees reads
acknowledge_unseen = refl

pub nibble_67 : sees (heard_by [] (take 30 (slots (framed 8 [])) ++ take 315 (line_code (byte_bits (replicate 32 0xA5))))) (0x04 ∷ 0x07 ∷ []) ≡ 0x01 ∷ 0x00 ∷ []
unfolding last_answer ran heard_by listening ones levels framed sees reads line_code byte_bits bits
nibble_67 = refl

pub every_read : refuses [] (reads_from 240 0x10) ≡ replicate 240 0
unfolding last_answer ran refuses reads_from
every_read = refl

pub every_write : refuses [] (writes_from 240 0x10 0xFF) ≡ replicate 240 0
unfolding last_answer ran refuses writes_from
every_write = refl

pub longest_sent_whole : sees (Write 0x10 0xF2 ∷ Write 0x11 0x38 ∷ Write 0x13 0xF8 ∷ Write 0x01 0x23 ∷ Write 0x03 0x10 ∷ (ones 12 ++ levels (slots (framed 8 (replicate 30 0))))) (0x09 ∷ 0x13 ∷ []) ≡ 0x88 ∷ 0xFA ∷ []
unfolding last_answer ran framed ones levels sees reads
longest_sent_whole = refl

pub not_answered_yet : sees (heard_by (Write 0x19 0x3B ∷ Write 0x01 0x23 ∷ []) (take 79 (slots (framed 10 (0xA5 ∷ 0x3C ∷ []))))) (0x04 ∷ 0x09 ∷ 0x1B ∷ []) ≡ 0x03 ∷ 0x80 ∷ 0x18 ∷ []
unfolding last_answer ran heard_by listening ones levels framed sees reads
not_answered_yet = refl

pub answer_too_long : sees (heard_by (Write 0x19 0x3B ∷ Write 0x01 0x23 ∷ Write 0x1B 0x10 ∷ []) (slots (framed 10 (0xA5 ∷ 0x3C ∷ [])))) (0x05 ∷ 0x07 ∷ 0x09 ∷ 0x1B ∷ []) ≡ 0x11 ∷ 0x20 ∷ 0x84 ∷ 0x14 ∷ []
unfolding last_answer ran heard_by listening ones levels framed sees reads
answer_too_long = refl

pub deferred_with_data : sees (Write 0x10 0xF2 ∷ Write 0x11 0x3A ∷ Write 0x12 0x7E ∷ Write 0x13 0x19 ∷ Write 0xFF 0xA5 ∷ Write 0x80 0x3C ∷ Write 0x01 0x23 ∷ Write 0x03 0x10 ∷ (ones 12 ++ levels (slots (framed 10 (0xA5 ∷ 0x3C ∷ []))))) (0x09 ∷ 0x13 ∷ []) ≡ 0x88 ∷ 0x1B ∷ []
unfolding last_answer ran ones levels framed sees reads
deferred_with_data = refl

pub answer_exhausts : sees (heard_by (Write 0x19 0x3B ∷ Write 0x01 0x03 ∷ Write 0x1B 0x10 ∷ []) (slots (framed 10 (0xA5 ∷ 0x3C ∷ [])))) (0x04 ∷ 0x05 ∷ 0x06 ∷ 0x09 ∷ 0x1B ∷ []) ≡ 0x00 ∷ 0x01 ∷ 0x01 ∷ 0x94 ∷ 0x16 ∷ []
unfolding last_answer ran heard_by listening ones levels framed sees reads
answer_exhausts = refl

pub reply_not_barred : pin (heard_by (Write 0x19 0x3A ∷ Write 0x1B 0x1B ∷ Write 0x20 0xF2 ∷ Write 0x21 0x3A ∷ Write 0x22 0x10 ∷ Write 0x23 0x18 ∷ Write 0x26 0xFF ∷ Write 0x27 0xF0 ∷ []) (take 28 (slots (framed 11 [])))) ≡ 0
unfolding last_answer ran heard_by listening ones levels framed pin
reply_not_barred = refl

pub reply_barred_in_error : pin (heard_by (Write 0x19 0x3A ∷ Write 0x1B 0x1E ∷ Write 0x20 0xF2 ∷ Write 0x21 0x3A ∷ Write 0x22 0x10 ∷ Write 0x23 0x18 ∷ Write 0x26 0xFF ∷ Write 0x27 0xF0 ∷ []) (take 28 (slots (framed 11 [])))) ≡ 1
unfolding last_answer ran heard_by listening ones levels framed pin
reply_barred_in_error = refl

pub reply_barred_by_no_other : pin (heard_by (Write 0x19 0x2A ∷ Write 0x1B 0x1A ∷ Write 0x20 0xF2 ∷ Write 0x21 0x3A ∷ Write 0x22 0x10 ∷ Write 0x23 0x18 ∷ Write 0x26 0xFF ∷ Write 0x27 0xF0 ∷ []) (take 28 (slots (framed 11 [])))) ≡ 0
unfolding last_answer ran heard_by listening ones levels framed pin
reply_barred_by_no_other = refl

pub reply_barred_by_no_link : pin (heard_by (Write 0x19 0x3A ∷ Write 0x1A 0x0E ∷ Write 0x1B 0x02 ∷ Write 0x20 0xF2 ∷ Write 0x21 0x3A ∷ Write 0x22 0x10 ∷ Write 0x23 0x18 ∷ Write 0x26 0xFF ∷ Write 0x27 0xF0 ∷ []) (take 28 (slots (framed 11 [])))) ≡ 0
unfolding last_answer ran heard_by listening ones levels framed pin
reply_barred_by_no_link = refl

pub reply_barred_by_no_higher : pin (heard_by (Write 0x19 0x3A ∷ Write 0x20 0xF2 ∷ Write 0x21 0x3A ∷ Write 0x22 0x10 ∷ Write 0x23 0x1A ∷ Write 0x26 0xFF ∷ Write 0x27 0xF0 ∷ []) (take 28 (slots (framed 11 [])))) ≡ 0
unfolding last_answer ran heard_by listening ones levels framed pin
reply_barred_by_no_higher = refl

pub reply_lowest : sees (heard_by (Write 0x19 0x3A ∷ Write 0x80 0xA5 ∷ Write 0x81 0x3C ∷ Write 0x20 0xF2 ∷ Write 0x21 0x3A ∷ Write 0x22 0x10 ∷ Write 0x23 0x18 ∷ Write 0x26 0xFF ∷ Write 0x27 0xF0 ∷ []) (slots (framed 10 (0xA5 ∷ 0x3C ∷ [])))) (0x06 ∷ 0x09 ∷ 0x1B ∷ 0x23 ∷ []) ≡ 0x01 ∷ 0x88 ∷ 0x1B ∷ 0x18 ∷ []
unfolding last_answer ran heard_by listening ones levels framed sees reads
reply_lowest = refl

pub reply_of_13 : pin (heard_by (Write 0x1B 0x1B ∷ Write 0x78 0xF2 ∷ Write 0x79 0x3A ∷ Write 0x7A 0x10 ∷ Write 0x7B 0x18 ∷ Write 0x7E 0xFF ∷ Write 0x7F 0xF0 ∷ []) (take 28 (slots (framed 11 [])))) ≡ 0
unfolding last_answer ran heard_by listening ones levels framed pin
reply_of_13 = refl

pub reply_without_link : pin (heard_by (Write 0x19 0x3A ∷ Write 0x1A 0x0E ∷ Write 0x1B 0x00 ∷ []) (take 28 (slots (framed 11 [])))) ≡ 1
unfolding last_answer ran heard_by listening ones levels framed pin
reply_without_link = refl

pub reply_passed_over : pin (heard_by (Write 0x19 0x3A ∷ Write 0x1B 0x1C ∷ Write 0x20 0xF2 ∷ Write 0x21 0x3A ∷ Write 0x22 0x10 ∷ Write 0x23 0x18 ∷ Write 0x26 0xFF ∷ Write 0x27 0xF0 ∷ []) (take 28 (slots (framed 11 [])))) ≡ 0
unfolding last_answer ran heard_by listening ones levels framed pin
reply_passed_over = refl

pub reply_not_in_data : pin (heard_by (Write 0x19 0x3A ∷ []) (take 38 (slots (framed 8 (0x0F ∷ []))))) ≡ 1
unfolding last_answer ran heard_by listening ones levels framed pin
reply_not_in_data = refl

pub reply_ext_0 : pin (heard_by (Write 0x19 0x3A ∷ []) (take 28 (slots (framed 3 [])))) ≡ 1
unfolding last_answer ran heard_by listening ones levels framed pin
reply_ext_0 = refl

pub reply_rw_0 : pin (heard_by (Write 0x19 0x3A ∷ []) (take 28 (slots (framed 9 [])))) ≡ 1
unfolding last_answer ran heard_by listening ones levels framed pin
reply_rw_0 = refl

pub reply_unmatched : pin (heard_by (Write 0x19 0x2A ∷ []) (take 28 (slots (framed 11 [])))) ≡ 1
unfolding last_answer ran heard_by listening ones levels framed pin
reply_unmatched = refl

pub reply_high_bits : sees (heard_by (Write 0x19 0x3A ∷ Write 0x80 0xA5 ∷ Write 0x81 0x3C ∷ Write 0x18 0x52 ∷ Write 0x1E 0x00 ∷ []) (slots (framed 10 (0xA5 ∷ 0x3C ∷ [])))) (0x09 ∷ 0x18 ∷ 0x1B ∷ []) ≡ 0x88 ∷ 0x52 ∷ 0x1B ∷ []
unfolding last_answer ran heard_by listening ones levels framed sees reads
reply_high_bits = refl

pub reply_held : sees (heard_by (Write 0x19 0x3A ∷ Write 0x80 0xA5 ∷ Write 0x81 0x3C ∷ []) (take 28 (slots (framed 10 (0xA5 ∷ 0x3C ∷ [])))) ++ (Write 0x80 0x12 ∷ levels (drop 28 (slots (framed 10 (0xA5 ∷ 0x3C ∷ [])))))) (0x09 ∷ 0x1B ∷ []) ≡ 0x88 ∷ 0x1B ∷ []
unfolding last_answer ran heard_by listening ones levels framed sees reads
reply_held = refl

pub longest_answer_bound : leb 360 ((0 + 0 + 1) * size (bound_of 30 (framed 11 []))) ≡ true
unfolding bound_of request_t framed size
longest_answer_bound = refl

pub bound_of_data : bound_of 30 (framed 8 (0xA5 ∷ [])) ≡ 1
unfolding bound_of request_t framed
bound_of_data = refl

pub bound_of_a_deferred_reply : bound_of 30 (framed 10 (0xA5 ∷ [])) ≡ 1
unfolding bound_of request_t framed
bound_of_a_deferred_reply = refl

pub received : Received
received = record { driven = driven; stored = stored }

pub runs : Runs
runs =
    record {
      success = success;
      exhausted = exhausted;
      lost_twice = lost_twice;
      join = join;
      abort = abort;
      answer_taken = answer_taken;
      answer_wasted = answer_wasted;
      longest_answer = longest_answer;
      longest_answer_bound = longest_answer_bound;
      bound_of_data = bound_of_data;
      bound_of_a_deferred_reply = bound_of_a_deferred_reply;
    }

pub linked_length : sees (heard_by (room_for 0 ++ (Write 0x1A 0x0D ∷ Write 0x7A 0x20 ∷ Write 0x7B 0x2A ∷ [])) (slots captured)) (0x1B ∷ 0xA0 ∷ 0xA1 ∷ 0xA2 ∷ 0xA3 ∷ 0xA4 ∷ []) ≡ 0x01 ∷ 0x82 ∷ 0x00 ∷ 0xFF ∷ 0x1F ∷ 0xF8 ∷ []
unfolding last_answer ran heard_by listening ones levels sees reads captured room_for
linked_length = refl

pub answer_check_kept : sees (heard_by (Write 0x19 0x3B ∷ Write 0x1B 0x28 ∷ Write 0x01 0x23 ∷ []) (slots (framed 10 (0xA5 ∷ 0x3C ∷ [])))) (0x1B ∷ 0xFF ∷ 0x80 ∷ 0x81 ∷ 0x82 ∷ 0x83 ∷ []) ≡ 0x2B ∷ 0x42 ∷ 0xA5 ∷ 0x3C ∷ 0x73 ∷ 0xCC ∷ []
unfolding last_answer ran heard_by listening ones levels sees reads framed
answer_check_kept = refl

pub reply_check_kept : sees (heard_by (Write 0x19 0x3B ∷ Write 0x1B 0x28 ∷ Write 0x01 0x23 ∷ Write 0x1F 0x00 ∷ []) (slots lower)) (0x1B ∷ 0xFF ∷ 0x80 ∷ 0x81 ∷ 0x82 ∷ 0x83 ∷ []) ≡ 0x29 ∷ 0x42 ∷ 0xA5 ∷ 0x3C ∷ 0x6F ∷ 0xF2 ∷ []
unfolding last_answer ran heard_by listening ones levels sees reads lower
reply_check_kept = refl

pub fault_leaves_none : drop 0x80 (ran fresh (heard_by (room_for 5) (take 79 (slots captured) ++ (0 ∷ [])))).memory ≡ replicate 128 0
unfolding last_answer ran heard_by listening ones levels captured room_for
fault_leaves_none = refl

pub cut_data_stored : sees (Write 0x02 0x0C ∷ (listening ++ (ones 12 ++ (wired 2 (take 20 (slots asking)) ++ wired 3 (drop 20 (slots asking)))))) (0x04 ∷ 0x09 ∷ 0x1B ∷ 0xFF ∷ 0x80 ∷ 0x81 ∷ []) ≡ 0x14 ∷ 0x82 ∷ 0x19 ∷ 0x82 ∷ 0xA5 ∷ 0x3C ∷ []
unfolding last_answer ran sees reads listening heard_by ones levels asking wired
cut_data_stored = refl

pub cut_data_bar_stored : sees (Write 0x02 0x0C ∷ (listening ++ (ones 12 ++ (wired 4 (take 20 (slots asking)) ++ wired 5 (drop 20 (slots asking)))))) (0x04 ∷ 0x09 ∷ 0x1B ∷ 0xFF ∷ 0x80 ∷ 0x81 ∷ []) ≡ 0x18 ∷ 0x82 ∷ 0x19 ∷ 0x82 ∷ 0xA5 ∷ 0x3C ∷ []
unfolding last_answer ran sees reads listening heard_by ones levels asking wired
cut_data_bar_stored = refl

pub returned : (sees (heard_by [] [] ++ wired 4 (take 79 (slots asking))) (0x04 ∷ []) ≡ 0x19 ∷ []) × (sees (heard_by [] [] ++ wired 4 (slots asking)) (0x04 ∷ []) ≡ 0x00 ∷ []) × (sees (heard_by [] [] ++ (wired 4 (slots asking) ++ ones 1)) (0x04 ∷ []) ≡ 0x08 ∷ [])
unfolding last_answer ran sees reads listening heard_by ones levels asking wired
returned = (refl, refl, refl)

pub silent : (sees (Write 0x02 0x01 ∷ ones 63) (0x04 ∷ []) ≡ 0x20 ∷ []) × (sees (Write 0x02 0x01 ∷ ones 64) (0x04 ∷ []) ≡ 0x2C ∷ [])
unfolding last_answer ran sees reads listening heard_by ones levels asking wired
silent = (refl, refl)

pub by_hand_major : sees (Write 0x03 0x01 ∷ []) (0x04 ∷ []) ≡ 0x2C ∷ []
unfolding last_answer ran sees reads listening heard_by ones levels asking wired
by_hand_major = refl

pub nominal_again : sees (Write 0x03 0x01 ∷ Slot 0 ∷ Slot 7 ∷ Slot 0 ∷ Slot 7 ∷ Write 0x03 0x01 ∷ []) (0x04 ∷ []) ≡ 0x20 ∷ []
unfolding last_answer ran sees reads listening heard_by ones levels asking wired
nominal_again = refl

pub reply_sent : sees (heard_by (Write 0x19 0x3A ∷ Write 0x80 0xA5 ∷ Write 0x81 0x3C ∷ []) (slots (framed 10 (0xA5 ∷ 0x3C ∷ [])))) (0x05 ∷ 0x06 ∷ 0x09 ∷ 0x1B ∷ []) ≡ 0x00 ∷ 0x01 ∷ 0x88 ∷ 0x1B ∷ []
unfolding last_answer ran heard_by listening ones levels framed sees reads
reply_sent = refl

pub one_place_to_spare : sees (heard_by (room_for 4) (slots captured)) (0x1B ∷ 0xFC ∷ 0xFD ∷ 0xFE ∷ 0xFF ∷ 0x80 ∷ []) ≡ 0x21 ∷ 0x82 ∷ 0x00 ∷ 0xFF ∷ 0x00 ∷ 0x00 ∷ []
unfolding last_answer ran heard_by listening ones levels sees reads captured room_for
one_place_to_spare = refl

pub low_bits_masked : sees (heard_by (Write 0x19 0x99 ∷ Write 0x1F 0x00 ∷ []) (slots asking)) (0x09 ∷ 0x18 ∷ 0x19 ∷ 0x1B ∷ []) ≡ 0x82 ∷ 0xF2 ∷ 0x39 ∷ 0x19 ∷ []
unfolding last_answer ran sees reads heard_by listening ones levels asking
low_bits_masked = refl

pub idle_meanwhile : sees (listening ++ (ones 12 ++ (levels (take 40 (slots asking)) ++ (Write 0x03 0x20 ∷ levels (drop 40 (slots asking)))))) (0x04 ∷ 0x09 ∷ 0x1B ∷ []) ≡ 0x20 ∷ 0x80 ∷ 0x18 ∷ []
unfolding last_answer ran sees reads listening ones levels asking
idle_meanwhile = refl

pub host_meanwhile : sees (listening ++ (ones 12 ++ (levels (take 40 (slots asking)) ++ (Write 0x90 0x55 ∷ Read 0x04 ∷ Write 0x03 0x10 ∷ levels (drop 40 (slots asking)))))) (0x09 ∷ 0x1B ∷ 0x80 ∷ 0x90 ∷ []) ≡ 0x82 ∷ 0x19 ∷ 0xA5 ∷ 0x55 ∷ []
unfolding last_answer ran sees reads listening ones levels asking
host_meanwhile = refl

pub check_kept : sees (heard_by (room_for 5) (slots captured)) (0x1B ∷ 0xFC ∷ 0xFD ∷ 0xFE ∷ 0xFF ∷ 0x80 ∷ 0x81 ∷ []) ≡ 0x29 ∷ 0x82 ∷ 0x00 ∷ 0xFF ∷ 0x1F ∷ 0xF8 ∷ 0x00 ∷ []
unfolding last_answer ran heard_by listening ones levels sees reads captured room_for
check_kept = refl

pub check_at_once : sees (heard_by [] (take 40 (slots asking) ++ take 30 (drop 40 (slots again)))) (0x04 ∷ 0x07 ∷ 0x09 ∷ []) ≡ 0x00 ∷ 0x08 ∷ 0x84 ∷ []
unfolding last_answer ran heard_by listening ones levels asking again sees reads
check_at_once = refl

pub own_end_of_data_spoilt : sees (sending_data ++ (ones 12 ++ (levels (take 68 (slots asking)) ++ ones 1))) (0x05 ∷ 0x07 ∷ 0x09 ∷ []) ≡ 0x10 ∷ 0x02 ∷ 0x80 ∷ []
unfolding last_answer ran sees reads sending_data ones levels asking
own_end_of_data_spoilt = refl

pub three_are_too_few : pin (set_up ++ (ones 12 ++ (levels (slots sent) ++ ones 3))) ≡ 1
unfolding last_answer ran pin set_up ones levels sent
three_are_too_few = refl

pub request : sees (heard_by (Write 0x19 0x3A ∷ Write 0x1B 0x1A ∷ []) (slots (framed 11 []))) (0x07 ∷ 0x09 ∷ 0x19 ∷ 0x1B ∷ 0xFF ∷ []) ≡ 0x00 ∷ 0x81 ∷ 0x3A ∷ 0x1B ∷ 0x60 ∷ []
unfolding last_answer ran sees reads heard_by listening ones levels framed
request = refl

pub ext_0 : sees (heard_by [] (slots (framed 4 []))) (0x07 ∷ 0x09 ∷ 0x1B ∷ []) ≡ 0x00 ∷ 0x80 ∷ 0x18 ∷ []
unfolding last_answer ran sees reads heard_by listening ones levels framed
ext_0 = refl

pub own_check_unseen : sees (sending_data ++ (ones 12 ++ (levels (take 50 (slots asking)) ++ ones 1))) (0x05 ∷ 0x07 ∷ []) ≡ 0x10 ∷ 0x02 ∷ []
unfolding last_answer ran asking sending_data ones levels sees reads
own_check_unseen = refl

pub own_data_unseen : sees (sending_data ++ (ones 12 ++ (levels (take 31 (slots asking)) ++ ones 1))) (0x05 ∷ 0x07 ∷ []) ≡ 0x10 ∷ 0x02 ∷ []
unfolding last_answer ran asking sending_data ones levels sees reads
own_data_unseen = refl

pub reply_lost : sees (heard_by (Write 0x19 0x3A ∷ Write 0x80 0xA5 ∷ Write 0x81 0x3C ∷ []) (take 30 (slots (framed 10 (0xA5 ∷ 0x3C ∷ []))) ++ (0 ∷ []))) (0x04 ∷ 0x05 ∷ 0x09 ∷ 0x1B ∷ []) ≡ 0x01 ∷ 0x00 ∷ 0x80 ∷ 0x18 ∷ []
unfolding last_answer ran heard_by listening ones levels framed sees reads
reply_lost = refl

pub linked_data_sent : pin (Write 0x10 0xF2 ∷ Write 0x11 0x38 ∷ Write 0x12 0x0D ∷ Write 0x7A 0x20 ∷ Write 0x7B 0x12 ∷ Write 0xA1 0xA5 ∷ Write 0x01 0x23 ∷ Write 0x03 0x10 ∷ (ones 12 ++ levels (take 30 (slots (framed 8 (0xA5 ∷ [])))))) ≡ 1
unfolding last_answer ran pin ones levels framed
linked_data_sent = refl

pub reply_starts : pin (heard_by (Write 0x19 0x3A ∷ Write 0x80 0xA5 ∷ Write 0x81 0x3C ∷ []) (take 28 (slots (framed 11 [])))) ≡ 0
unfolding last_answer ran heard_by listening ones levels framed pin
reply_starts = refl

pub rw_sent : pin (Write 0x10 0xF2 ∷ Write 0x11 0x3A ∷ Write 0x13 0x09 ∷ Write 0x01 0x23 ∷ Write 0x03 0x10 ∷ (ones 12 ++ levels (take 27 (slots (framed 10 []))))) ≡ 1
unfolding last_answer ran framed ones levels pin
rw_sent = refl

pub reply_not_sooner : pin (heard_by (Write 0x19 0x3A ∷ Write 0x80 0xA5 ∷ Write 0x81 0x3C ∷ []) (take 27 (slots (framed 11 [])))) ≡ 1
unfolding last_answer ran heard_by listening ones levels framed pin
reply_not_sooner = refl

pub own_identifier_unseen : sees (sending_data ++ (ones 12 ++ (levels (take 14 (slots asking)) ++ ones 1))) (0x05 ∷ 0x07 ∷ []) ≡ 0x10 ∷ 0x02 ∷ []
unfolding last_answer ran asking sending_data ones levels sees reads
own_identifier_unseen = refl

pub lost_in_a_first_half : sees (set_up ++ (ones 12 ++ overdriven_at sent 13)) (0x04 ∷ 0x05 ∷ 0x07 ∷ []) ≡ 0x03 ∷ 0x00 ∷ 0x00 ∷ []
unfolding last_answer ran sees reads set_up ones overdriven_at sent levels
lost_in_a_first_half = refl

pub courses : MoreCourses
courses =
    record {
      fifteen_errors = fifteen_errors;
      sixteen_errors = sixteen_errors;
      not_sent_yet = not_sent_yet;
      sent_with_data = sent_with_data;
      eleven_are_too_few = eleven_are_too_few;
      twelve_are_enough = twelve_are_enough;
      not_acknowledged = not_acknowledged;
      check_wrong = check_wrong;
      acknowledge_unasked = acknowledge_unasked;
      overflow_unanswered = overflow_unanswered;
      request_with_data = request_with_data;
      request_again = request_again;
      linked = linked;
      linked_to_14 = linked_to_14;
      high_bits_masked = high_bits_masked;
      high_bits_compared = high_bits_compared;
      low_bits_compared = low_bits_compared;
      rtr_without_rw = rtr_without_rw;
      rw_without_rtr = rw_without_rtr;
      not_emptied = not_emptied;
      rnok = rnok;
      channel_13 = channel_13;
      channel_13_sends = channel_13_sends;
      longest_taken = longest_taken;
      pair_11 = pair_11;
      end_spoilt = end_spoilt;
      count_starts_again = count_starts_again;
      reply_taken = reply_taken;
      reply_not_a_request = reply_not_a_request;
      reply_not_data = reply_not_data;
      reply_not_ext_0 = reply_not_ext_0;
      first_slot_dominant = first_slot_dominant;
      acknowledge_unseen = acknowledge_unseen;
      nibble_67 = nibble_67;
      every_read = every_read;
      every_write = every_write;
      longest_sent_whole = longest_sent_whole;
      not_answered_yet = not_answered_yet;
      answer_too_long = answer_too_long;
      deferred_with_data = deferred_with_data;
      answer_exhausts = answer_exhausts;
      reply_not_barred = reply_not_barred;
      reply_barred_in_error = reply_barred_in_error;
      reply_barred_by_no_other = reply_barred_by_no_other;
      reply_barred_by_no_link = reply_barred_by_no_link;
      reply_barred_by_no_higher = reply_barred_by_no_higher;
      reply_lowest = reply_lowest;
      reply_of_13 = reply_of_13;
      reply_without_link = reply_without_link;
      reply_passed_over = reply_passed_over;
      reply_not_in_data = reply_not_in_data;
      reply_ext_0 = reply_ext_0;
      reply_rw_0 = reply_rw_0;
      reply_unmatched = reply_unmatched;
      reply_high_bits = reply_high_bits;
      reply_held = reply_held;
      linked_length = linked_length;
      answer_check_kept = answer_check_kept;
      reply_check_kept = reply_check_kept;
      fault_leaves_none = fault_leaves_none;
      cut_data_stored = cut_data_stored;
      cut_data_bar_stored = cut_data_bar_stored;
      returned = returned;
      silent = silent;
      by_hand_major = by_hand_major;
      nominal_again = nominal_again;
      reply_sent = reply_sent;
      one_place_to_spare = one_place_to_spare;
      low_bits_masked = low_bits_masked;
      idle_meanwhile = idle_meanwhile;
      host_meanwhile = host_meanwhile;
      check_kept = check_kept;
      check_at_once = check_at_once;
      own_end_of_data_spoilt = own_end_of_data_spoilt;
      three_are_too_few = three_are_too_few;
      request = request;
      ext_0 = ext_0;
      own_check_unseen = own_check_unseen;
      own_data_unseen = own_data_unseen;
      reply_lost = reply_lost;
      linked_data_sent = linked_data_sent;
      reply_starts = reply_starts;
      rw_sent = rw_sent;
      reply_not_sooner = reply_not_sooner;
      own_identifier_unseen = own_identifier_unseen;
      lost_in_a_first_half = lost_in_a_first_half;
    }
