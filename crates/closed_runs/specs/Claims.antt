-- Closed runs: the tally's numbers, and what a host reads. Those that refuse an edit of crates/rules are in that crate (Courses in its Statements).
use Rattle.std.specs.Prelude.{ℕ, ◌+◌, ◌*◌, true, List, [], ◌∷◌, ◌++◌, ◌≡◌, eqb, leb, take, drop, replicate}
use Rattle.line.specs.Bits.{pick}
use Rattle.line.specs.LineCode.{line_code}
use Rattle.line.specs.Frame.{byte_bits, slots, size}
use Rattle.rules.specs.Definitions.Slots.{drives}
use Rattle.rules.specs.Definitions.Run.{fresh}
use Rattle.every_run.specs.Sending.{bound_of}
use Rattle.every_run.specs.Observer.{at_reset}
use Rattle.rules.specs.Statements.Runs.{set_up, ones, levels, sent, echoed, overdriven, ran, listening, asking, Stored, sees, pin, again, sending_data, failures, overdriven_at, refuses, reads_from, writes_from, framed, heard_by, lower, captured, room_for}
use Rattle.rules.specs.declared.Event.{Event}
use Rattle.rules.specs.declared.Event.TheVariants.{Slot, Write, Read}
use Rattle.closed_runs.specs.Seen.{Counts, seen_over}

-- slots of given levels on some wires: `low` are the levels of the three inputs in a dominant slot, a recessive one has 7
unfoldable pub wired : ℕ → List ℕ → List Event
wired low [] = []
wired low (v ∷ vs) = Slot (pick (eqb v 0) low 7) ∷ wired low vs

-- a closed run: the acknowledge is driven, and the frame is stored
pub record Received : Type 0 where
  pub driven : drives (ran fresh (listening ++ (ones 12 ++ levels (take 71 (slots asking))))).core ≡ 0
  pub stored : Stored (ran fresh (listening ++ (ones 12 ++ levels (slots asking)))).memory

-- closed runs: what was lost, failed and spent (C, errors, slots) once the last sample is judged
pub record Runs : Type 0 where
  pub success : Counts (seen_over fresh at_reset (set_up ++ (ones 12 ++ echoed)) (Slot 7)) 0 0 60
  pub exhausted : Counts (seen_over fresh at_reset (set_up ++ (ones 12 ++ (Slot 7 ∷ (ones 12 ++ (Slot 7 ∷ ones 12))))) (Slot 7)) 0 3 3
  pub lost_twice : Counts (seen_over fresh at_reset (set_up ++ (ones 12 ++ (overdriven ++ (ones 12 ++ (overdriven ++ (ones 12 ++ echoed)))))) (Slot 7)) 2 0 82
  pub join : Counts (seen_over fresh at_reset (set_up ++ (Write 0x01 0x22 ∷ (ones 12 ++ echoed))) (Slot 7)) 0 0 50
  pub abort : Counts (seen_over fresh at_reset (set_up ++ (ones 12 ++ (Slot 0 ∷ Slot 0 ∷ Slot 0 ∷ Write 0x13 0x0C ∷ []))) (Slot 7)) 0 1 4
  -- 02, Req 01
  pub answer_taken : Counts (seen_over fresh at_reset (heard_by (Write 0x19 0x3B ∷ Write 0x01 0x23 ∷ []) (take 79 (slots (framed 10 (0xA5 ∷ 0x3C ∷ []))))) (Slot 7)) 0 0 80
  pub answer_wasted : Counts (seen_over fresh at_reset (heard_by (Write 0x19 0x3B ∷ Write 0x01 0x23 ∷ Write 0x1B 0x10 ∷ []) (take 79 (slots (framed 10 (0xA5 ∷ 0x3C ∷ []))))) (Slot 7)) 0 1 80
  pub longest_answer : Counts (seen_over fresh at_reset (heard_by (Write 0x19 0x3B ∷ Write 0x01 0x03 ∷ []) (take 359 (slots (framed 10 (replicate 30 0))))) (Slot 0)) 0 1 360
  -- the slots of `longest_answer` are within the bound of a request, R = 0; n in the bound of another frame is its data bytes
  pub longest_answer_bound : leb 360 ((0 + 0 + 1) * size (bound_of 30 (framed 11 []))) ≡ true
  pub bound_of_data : bound_of 30 (framed 8 (0xA5 ∷ [])) ≡ 1
  pub bound_of_a_deferred_reply : bound_of 30 (framed 10 (0xA5 ∷ [])) ≡ 1

-- closed runs, by what a host reads after them and by the level at the pin
pub record MoreCourses : Type 0 where
  -- R = 15: fifteen errors leave TE 0, the sixteenth raises it, with CHER and CHTx; 0x05, 0x06, 0x09, and channel 0's status
  pub fifteen_errors : sees (set_up ++ (Write 0x01 0xF3 ∷ failures 15)) (0x05 ∷ 0x06 ∷ 0x09 ∷ 0x13 ∷ []) ≡ 0xF0 ∷ 0x00 ∷ 0x80 ∷ 0x08 ∷ []
  pub sixteen_errors : sees (set_up ++ (Write 0x01 0xF3 ∷ failures 16)) (0x05 ∷ 0x06 ∷ 0x09 ∷ 0x13 ∷ []) ≡ 0x01 ∷ 0xF0 ∷ 0x90 ∷ 0x0E ∷ []
  -- RAK 1, data across 0xFF: the last slot, and none before it, raises TOK, with CHTx
  pub not_sent_yet : sees (sending_data ++ (ones 12 ++ levels (take 79 (slots asking)))) (0x09 ∷ 0x13 ∷ []) ≡ 0x80 ∷ 0x18 ∷ []
  pub sent_with_data : sees (sending_data ++ (ones 12 ++ levels (slots asking))) (0x06 ∷ 0x07 ∷ 0x09 ∷ 0x13 ∷ []) ≡ 0x00 ∷ 0x00 ∷ 0x88 ∷ 0x1A ∷ []
  -- after a fault a start is taken behind twelve recessive slots, not behind eleven; 0x07 keeps the fault
  pub eleven_are_too_few : sees (listening ++ (ones 12 ++ (Slot 0 ∷ Slot 7 ∷ (ones 11 ++ levels (slots asking))))) (0x07 ∷ 0x1B ∷ 0xFF ∷ []) ≡ 0x02 ∷ 0x18 ∷ 0x00 ∷ []
  pub twelve_are_enough : sees (listening ++ (ones 12 ++ (Slot 0 ∷ Slot 7 ∷ (ones 12 ++ levels (slots asking))))) (0x07 ∷ 0x1B ∷ 0xFF ∷ []) ≡ 0x02 ∷ 0x19 ∷ 0x82 ∷ []
  -- the codes of 0x07: ACKE, FCSE, FV for an acknowledge that RAK 0 does not ask for; a frame that does not fit is not acknowledged
  pub not_acknowledged : sees (sending_data ++ (ones 12 ++ (levels (take 71 (slots asking)) ++ ones 1))) (0x05 ∷ 0x07 ∷ 0x09 ∷ []) ≡ 0x10 ∷ 0x04 ∷ 0x80 ∷ []
  pub check_wrong : sees (heard_by [] (take 40 (slots asking) ++ drop 40 (slots again))) (0x07 ∷ 0x09 ∷ 0x1B ∷ []) ≡ 0x08 ∷ 0x84 ∷ 0x1C ∷ []
  pub acknowledge_unasked : sees (heard_by [] (take 50 (slots (framed 8 [])) ++ (1 ∷ 0 ∷ []))) (0x07 ∷ 0x09 ∷ 0x1B ∷ []) ≡ 0x01 ∷ 0x84 ∷ 0x1C ∷ []
  pub overflow_unanswered : pin (heard_by (Write 0x1B 0x10 ∷ []) (take 71 (slots asking))) ≡ 1
  -- a reply request with data is CV; 1,0,1,1 takes none
  pub request_with_data : sees (heard_by (Write 0x19 0x3A ∷ Write 0x1B 0x1A ∷ []) (slots (framed 11 (0xA5 ∷ [])))) (0x07 ∷ 0x09 ∷ 0x1B ∷ []) ≡ 0x02 ∷ 0x84 ∷ 0x1E ∷ []
  pub request_again : sees (heard_by (Write 0x19 0x3A ∷ Write 0x1B 0x1B ∷ []) (slots (framed 11 []))) (0x07 ∷ 0x09 ∷ 0x1B ∷ []) ≡ 0x00 ∷ 0x80 ∷ 0x1B ∷ []
  -- a link: the pointer and length of channel 13, the status bits of channel 1; a link to channel 14 takes nothing
  pub linked : sees (heard_by (Write 0x1A 0x0D ∷ Write 0x1B 0x00 ∷ Write 0x7A 0x20 ∷ Write 0x7B 0x1A ∷ []) (slots asking)) (0x06 ∷ 0x09 ∷ 0x1B ∷ 0x7B ∷ 0xA0 ∷ 0xA1 ∷ 0xA2 ∷ []) ≡ 0x01 ∷ 0x82 ∷ 0x01 ∷ 0x1A ∷ 0x82 ∷ 0xA5 ∷ 0x3C ∷ []
  pub linked_to_14 : sees (heard_by (Write 0x1A 0x0E ∷ Write 0x1B 0x00 ∷ []) (slots asking)) (0x09 ∷ 0x1B ∷ []) ≡ 0x80 ∷ 0x00 ∷ []
  -- high tag bits under a mask zero are not compared, and rewritten with the identifier received; under a mask one tag bits are compared
  pub high_bits_masked : sees (heard_by (Write 0x18 0x52 ∷ Write 0x1E 0x00 ∷ []) (slots asking)) (0x09 ∷ 0x18 ∷ 0x19 ∷ 0x1B ∷ []) ≡ 0x82 ∷ 0xF2 ∷ 0x39 ∷ 0x19 ∷ []
  pub high_bits_compared : sees (heard_by (Write 0x18 0x52 ∷ []) (slots (framed 8 []))) (0x09 ∷ 0x18 ∷ 0x1B ∷ []) ≡ 0x80 ∷ 0x52 ∷ 0x18 ∷ []
  pub low_bits_compared : sees (heard_by (Write 0x19 0x99 ∷ []) (slots (framed 8 []))) (0x09 ∷ 0x19 ∷ 0x1B ∷ []) ≡ 0x80 ∷ 0x99 ∷ 0x18 ∷ []
  -- ignored: R/W 0 with RTR 1; R/W 1 with RTR 0 where no channel awaits a reply; a channel with CHRx 1
  pub rtr_without_rw : sees (heard_by [] (slots (framed 13 (0xA5 ∷ [])))) (0x07 ∷ 0x09 ∷ 0x1B ∷ []) ≡ 0x00 ∷ 0x80 ∷ 0x18 ∷ []
  pub rw_without_rtr : sees (heard_by (Write 0x19 0x3A ∷ Write 0x1B 0x1A ∷ []) (slots (framed 14 []))) (0x07 ∷ 0x09 ∷ 0x1B ∷ []) ≡ 0x00 ∷ 0x80 ∷ 0x1A ∷ []
  pub not_emptied : sees (heard_by (Write 0x1B 0x1B ∷ []) (slots (framed 8 []))) (0x07 ∷ 0x09 ∷ 0x1B ∷ []) ≡ 0x00 ∷ 0x80 ∷ 0x1B ∷ []
  -- CHTx beside CHRx, RNOK
  pub rnok : sees (heard_by (Write 0x1B 0x1A ∷ []) (slots (framed 8 []))) (0x06 ∷ 0x07 ∷ 0x09 ∷ 0x1B ∷ []) ≡ 0x01 ∷ 0x00 ∷ 0x81 ∷ 0x1B ∷ []
  -- channel 13 takes a frame, and sends
  pub channel_13 : sees (Write 0x78 0xF2 ∷ Write 0x79 0x39 ∷ Write 0x7A 0x7F ∷ Write 0x7B 0x18 ∷ Write 0x7E 0xFF ∷ Write 0x7F 0xF0 ∷ Write 0x03 0x10 ∷ (ones 12 ++ levels (slots (framed 8 [])))) (0x06 ∷ 0x09 ∷ 0x7B ∷ 0xFF ∷ []) ≡ 0x0D ∷ 0x81 ∷ 0x19 ∷ 0x00 ∷ []
  pub channel_13_sends : sees (Write 0x79 0x38 ∷ Write 0x7B 0x08 ∷ Write 0x03 0x10 ∷ Slot 7 ∷ []) (0x04 ∷ 0x05 ∷ []) ≡ 0x02 ∷ 0x0D ∷ []
  -- thirty data bytes: the count in the status byte, the first and the last, and no other
  pub longest_taken : sees (heard_by (Write 0x1A 0x10 ∷ Write 0x1B 0xF8 ∷ []) (slots (framed 8 (replicate 30 0xA5)))) (0x09 ∷ 0x1B ∷ 0x90 ∷ 0x91 ∷ 0xAE ∷ 0xAF ∷ []) ≡ 0x81 ∷ 0xF9 ∷ 0x1E ∷ 0xA5 ∷ 0xA5 ∷ 0x00 ∷ []
  -- CV: a pair 11, and a dominant eighth end-of-frame slot
  pub pair_11 : sees (heard_by [] (take 39 (slots asking) ++ (1 ∷ []))) (0x07 ∷ 0x09 ∷ 0x1B ∷ []) ≡ 0x02 ∷ 0x84 ∷ 0x1C ∷ []
  pub end_spoilt : sees (heard_by [] (take 79 (slots asking) ++ (0 ∷ []))) (0x07 ∷ 0x09 ∷ 0x1B ∷ 0xFF ∷ []) ≡ 0x02 ∷ 0x84 ∷ 0x1C ∷ 0x00 ∷ []
  -- a dominant slot starts the count of recessive ones again
  pub count_starts_again : sees (listening ++ (ones 11 ++ (Slot 0 ∷ (ones 11 ++ levels (slots asking))))) (0x07 ∷ 0x09 ∷ 0x1B ∷ []) ≡ 0x00 ∷ 0x80 ∷ 0x18 ∷ []
  -- 1,1,1,0 takes a frame with R/W 1 and RTR 0 (02, Req 01)
  pub reply_taken : sees (heard_by (Write 0x19 0x3B ∷ Write 0x1B 0x1A ∷ []) (slots (framed 10 []))) (0x09 ∷ 0x1B ∷ []) ≡ 0x81 ∷ 0x1B ∷ []
  -- it takes no request, no data frame and no reply with EXT 0
  pub reply_not_a_request : sees (heard_by (Write 0x19 0x3B ∷ Write 0x1B 0x1A ∷ []) (slots (framed 11 []))) (0x09 ∷ 0x1B ∷ []) ≡ 0x80 ∷ 0x1A ∷ []
  pub reply_not_data : sees (heard_by (Write 0x19 0x3B ∷ Write 0x1B 0x1A ∷ []) (slots (framed 8 []))) (0x09 ∷ 0x1B ∷ []) ≡ 0x80 ∷ 0x1A ∷ []
  pub reply_not_ext_0 : sees (heard_by (Write 0x19 0x3B ∷ Write 0x1B 0x1A ∷ []) (slots (framed 2 []))) (0x09 ∷ 0x1B ∷ []) ≡ 0x80 ∷ 0x1A ∷ []
  -- a dominant first acknowledge slot is FV in the second; so is 11 sampled where the model drove 10
  pub first_slot_dominant : sees (heard_by [] (take 70 (slots asking) ++ (0 ∷ 0 ∷ []))) (0x07 ∷ 0x09 ∷ 0x1B ∷ []) ≡ 0x01 ∷ 0x84 ∷ 0x1C ∷ []
  pub acknowledge_unseen : sees (heard_by [] (take 70 (slots asking) ++ (1 ∷ 1 ∷ []))) (0x07 ∷ 0x09 ∷ 0x1B ∷ []) ≡ 0x01 ∷ 0x84 ∷ 0x1C ∷ []
  -- the 67th nibble is no fault
  pub nibble_67 : sees (heard_by [] (take 30 (slots (framed 8 [])) ++ take 315 (line_code (byte_bits (replicate 32 0xA5))))) (0x04 ∷ 0x07 ∷ []) ≡ 0x01 ∷ 0x00 ∷ []
  -- from 0x10 on every read and write is accepted
  pub every_read : refuses [] (reads_from 240 0x10) ≡ replicate 240 0
  pub every_write : refuses [] (writes_from 240 0x10 0xFF) ≡ replicate 240 0
  -- M_L 31 sends thirty bytes
  pub longest_sent_whole : sees (Write 0x10 0xF2 ∷ Write 0x11 0x38 ∷ Write 0x13 0xF8 ∷ Write 0x01 0x23 ∷ Write 0x03 0x10 ∷ (ones 12 ++ levels (slots (framed 8 (replicate 30 0))))) (0x09 ∷ 0x13 ∷ []) ≡ 0x88 ∷ 0xFA ∷ []
  -- 02, Req 01. Before the last slot of its answer an answered request is not done
  pub not_answered_yet : sees (heard_by (Write 0x19 0x3B ∷ Write 0x01 0x23 ∷ []) (take 79 (slots (framed 10 (0xA5 ∷ 0x3C ∷ []))))) (0x04 ∷ 0x09 ∷ 0x1B ∷ []) ≡ 0x03 ∷ 0x80 ∷ 0x18 ∷ []
  -- an answer that does not fit is an error of the attempt, BOV
  pub answer_too_long : sees (heard_by (Write 0x19 0x3B ∷ Write 0x01 0x23 ∷ Write 0x1B 0x10 ∷ []) (slots (framed 10 (0xA5 ∷ 0x3C ∷ [])))) (0x05 ∷ 0x07 ∷ 0x09 ∷ 0x1B ∷ []) ≡ 0x11 ∷ 0x20 ∷ 0x84 ∷ 0x14 ∷ []
  -- a deferred reply is sent with its data
  pub deferred_with_data : sees (Write 0x10 0xF2 ∷ Write 0x11 0x3A ∷ Write 0x12 0x7E ∷ Write 0x13 0x19 ∷ Write 0xFF 0xA5 ∷ Write 0x80 0x3C ∷ Write 0x01 0x23 ∷ Write 0x03 0x10 ∷ (ones 12 ++ levels (slots (framed 10 (0xA5 ∷ 0x3C ∷ []))))) (0x09 ∷ 0x13 ∷ []) ≡ 0x88 ∷ 0x1B ∷ []
  -- an answer that does not fit in the last attempt: TE, CHER and CHTx at the request's channel
  pub answer_exhausts : sees (heard_by (Write 0x19 0x3B ∷ Write 0x01 0x03 ∷ Write 0x1B 0x10 ∷ []) (slots (framed 10 (0xA5 ∷ 0x3C ∷ [])))) (0x04 ∷ 0x05 ∷ 0x06 ∷ 0x09 ∷ 0x1B ∷ []) ≡ 0x00 ∷ 0x01 ∷ 0x01 ∷ 0x94 ∷ 0x16 ∷ []
  -- 1,0,1,0 of a lower channel that matches bars a reply with CHER 1 too; 1,0,1,1 does not, nor one with another tag, with a bad link or of a higher channel
  pub reply_not_barred : pin (heard_by (Write 0x19 0x3A ∷ Write 0x1B 0x1B ∷ Write 0x20 0xF2 ∷ Write 0x21 0x3A ∷ Write 0x22 0x10 ∷ Write 0x23 0x18 ∷ Write 0x26 0xFF ∷ Write 0x27 0xF0 ∷ []) (take 28 (slots (framed 11 [])))) ≡ 0
  pub reply_barred_in_error : pin (heard_by (Write 0x19 0x3A ∷ Write 0x1B 0x1E ∷ Write 0x20 0xF2 ∷ Write 0x21 0x3A ∷ Write 0x22 0x10 ∷ Write 0x23 0x18 ∷ Write 0x26 0xFF ∷ Write 0x27 0xF0 ∷ []) (take 28 (slots (framed 11 [])))) ≡ 1
  pub reply_barred_by_no_other : pin (heard_by (Write 0x19 0x2A ∷ Write 0x1B 0x1A ∷ Write 0x20 0xF2 ∷ Write 0x21 0x3A ∷ Write 0x22 0x10 ∷ Write 0x23 0x18 ∷ Write 0x26 0xFF ∷ Write 0x27 0xF0 ∷ []) (take 28 (slots (framed 11 [])))) ≡ 0
  pub reply_barred_by_no_link : pin (heard_by (Write 0x19 0x3A ∷ Write 0x1A 0x0E ∷ Write 0x1B 0x02 ∷ Write 0x20 0xF2 ∷ Write 0x21 0x3A ∷ Write 0x22 0x10 ∷ Write 0x23 0x18 ∷ Write 0x26 0xFF ∷ Write 0x27 0xF0 ∷ []) (take 28 (slots (framed 11 [])))) ≡ 0
  pub reply_barred_by_no_higher : pin (heard_by (Write 0x19 0x3A ∷ Write 0x20 0xF2 ∷ Write 0x21 0x3A ∷ Write 0x22 0x10 ∷ Write 0x23 0x1A ∷ Write 0x26 0xFF ∷ Write 0x27 0xF0 ∷ []) (take 28 (slots (framed 11 [])))) ≡ 0
  -- the lowest of two repliers replies, and channel 13 does; one with CHER 1 is passed over; a bad link does not reply
  pub reply_lowest : sees (heard_by (Write 0x19 0x3A ∷ Write 0x80 0xA5 ∷ Write 0x81 0x3C ∷ Write 0x20 0xF2 ∷ Write 0x21 0x3A ∷ Write 0x22 0x10 ∷ Write 0x23 0x18 ∷ Write 0x26 0xFF ∷ Write 0x27 0xF0 ∷ []) (slots (framed 10 (0xA5 ∷ 0x3C ∷ [])))) (0x06 ∷ 0x09 ∷ 0x1B ∷ 0x23 ∷ []) ≡ 0x01 ∷ 0x88 ∷ 0x1B ∷ 0x18 ∷ []
  pub reply_of_13 : pin (heard_by (Write 0x1B 0x1B ∷ Write 0x78 0xF2 ∷ Write 0x79 0x3A ∷ Write 0x7A 0x10 ∷ Write 0x7B 0x18 ∷ Write 0x7E 0xFF ∷ Write 0x7F 0xF0 ∷ []) (take 28 (slots (framed 11 [])))) ≡ 0
  pub reply_without_link : pin (heard_by (Write 0x19 0x3A ∷ Write 0x1A 0x0E ∷ Write 0x1B 0x00 ∷ []) (take 28 (slots (framed 11 [])))) ≡ 1
  pub reply_passed_over : pin (heard_by (Write 0x19 0x3A ∷ Write 0x1B 0x1C ∷ Write 0x20 0xF2 ∷ Write 0x21 0x3A ∷ Write 0x22 0x10 ∷ Write 0x23 0x18 ∷ Write 0x26 0xFF ∷ Write 0x27 0xF0 ∷ []) (take 28 (slots (framed 11 [])))) ≡ 0
  -- no reply where EXT is 0, where R/W is 0, where the tag does not match, in data
  pub reply_not_in_data : pin (heard_by (Write 0x19 0x3A ∷ []) (take 38 (slots (framed 8 (0x0F ∷ []))))) ≡ 1
  pub reply_ext_0 : pin (heard_by (Write 0x19 0x3A ∷ []) (take 28 (slots (framed 3 [])))) ≡ 1
  pub reply_rw_0 : pin (heard_by (Write 0x19 0x3A ∷ []) (take 28 (slots (framed 9 [])))) ≡ 1
  pub reply_unmatched : pin (heard_by (Write 0x19 0x2A ∷ []) (take 28 (slots (framed 11 [])))) ≡ 1
  -- the check of a reply is over the high bits heard, and over the data bytes of the R/W slot
  pub reply_high_bits : sees (heard_by (Write 0x19 0x3A ∷ Write 0x80 0xA5 ∷ Write 0x81 0x3C ∷ Write 0x18 0x52 ∷ Write 0x1E 0x00 ∷ []) (slots (framed 10 (0xA5 ∷ 0x3C ∷ [])))) (0x09 ∷ 0x18 ∷ 0x1B ∷ []) ≡ 0x88 ∷ 0x52 ∷ 0x1B ∷ []
  pub reply_held : sees (heard_by (Write 0x19 0x3A ∷ Write 0x80 0xA5 ∷ Write 0x81 0x3C ∷ []) (take 28 (slots (framed 10 (0xA5 ∷ 0x3C ∷ [])))) ++ (Write 0x80 0x12 ∷ levels (drop 28 (slots (framed 10 (0xA5 ∷ 0x3C ∷ [])))))) (0x09 ∷ 0x1B ∷ []) ≡ 0x88 ∷ 0x1B ∷ []
  -- 02, Req 04. With a link the M_L of the channel that it names decides
  pub linked_length : sees (heard_by (room_for 0 ++ (Write 0x1A 0x0D ∷ Write 0x7A 0x20 ∷ Write 0x7B 0x2A ∷ [])) (slots captured)) (0x1B ∷ 0xA0 ∷ 0xA1 ∷ 0xA2 ∷ 0xA3 ∷ 0xA4 ∷ []) ≡ 0x01 ∷ 0x82 ∷ 0x00 ∷ 0xFF ∷ 0x1F ∷ 0xF8 ∷ []
  -- an answer to the model's request, and a deferred reply, leave their check
  pub answer_check_kept : sees (heard_by (Write 0x19 0x3B ∷ Write 0x1B 0x28 ∷ Write 0x01 0x23 ∷ []) (slots (framed 10 (0xA5 ∷ 0x3C ∷ [])))) (0x1B ∷ 0xFF ∷ 0x80 ∷ 0x81 ∷ 0x82 ∷ 0x83 ∷ []) ≡ 0x2B ∷ 0x42 ∷ 0xA5 ∷ 0x3C ∷ 0x73 ∷ 0xCC ∷ []
  pub reply_check_kept : sees (heard_by (Write 0x19 0x3B ∷ Write 0x1B 0x28 ∷ Write 0x01 0x23 ∷ Write 0x1F 0x00 ∷ []) (slots lower)) (0x1B ∷ 0xFF ∷ 0x80 ∷ 0x81 ∷ 0x82 ∷ 0x83 ∷ []) ≡ 0x29 ∷ 0x42 ∷ 0xA5 ∷ 0x3C ∷ 0x6F ∷ 0xF2 ∷ []
  -- a frame with a fault in its last slot leaves no byte
  pub fault_leaves_none : drop 0x80 (ran fresh (heard_by (room_for 5) (take 79 (slots captured) ++ (0 ∷ [])))).memory ≡ replicate 128 0
  -- 02, Req 05. A loom with a cut DATA wire: RxD1 stays recessive. It is found while a frame is received, from then on RxD2 alone carries the frame, and it is stored
  pub cut_data_stored : sees (Write 0x02 0x0C ∷ (listening ++ (ones 12 ++ (wired 2 (take 20 (slots asking)) ++ wired 3 (drop 20 (slots asking)))))) (0x04 ∷ 0x09 ∷ 0x1B ∷ 0xFF ∷ 0x80 ∷ 0x81 ∷ []) ≡ 0x14 ∷ 0x82 ∷ 0x19 ∷ 0x82 ∷ 0xA5 ∷ 0x3C ∷ []
  -- the same on the other wire
  pub cut_data_bar_stored : sees (Write 0x02 0x0C ∷ (listening ++ (ones 12 ++ (wired 4 (take 20 (slots asking)) ++ wired 5 (drop 20 (slots asking)))))) (0x04 ∷ 0x09 ∷ 0x1B ∷ 0xFF ∷ 0x80 ∷ 0x81 ∷ []) ≡ 0x18 ∷ 0x82 ∷ 0x19 ∷ 0x82 ∷ 0xA5 ∷ 0x3C ∷ []
  -- a specified selection: RI in the last slot of the frame, and the finding is back one slot later
  pub returned : (sees (heard_by [] [] ++ wired 4 (take 79 (slots asking))) (0x04 ∷ []) ≡ 0x19 ∷ []) × (sees (heard_by [] [] ++ wired 4 (slots asking)) (0x04 ∷ []) ≡ 0x00 ∷ []) × (sees (heard_by [] [] ++ (wired 4 (slots asking) ++ ones 1)) (0x04 ∷ []) ≡ 0x08 ∷ [])
  -- major error by silence, in the 64th slot; the pulse by hand, and with four edges the return to nominal
  pub silent : (sees (Write 0x02 0x01 ∷ ones 63) (0x04 ∷ []) ≡ 0x20 ∷ []) × (sees (Write 0x02 0x01 ∷ ones 64) (0x04 ∷ []) ≡ 0x2C ∷ [])
  pub by_hand_major : sees (Write 0x03 0x01 ∷ []) (0x04 ∷ []) ≡ 0x2C ∷ []
  pub nominal_again : sees (Write 0x03 0x01 ∷ Slot 0 ∷ Slot 7 ∷ Slot 0 ∷ Slot 7 ∷ Write 0x03 0x01 ∷ []) (0x04 ∷ []) ≡ 0x20 ∷ []
  -- a loss in a first half is no error; after a loss in data the frame's next level, a dominant one, is not driven
  pub lost_in_a_first_half : sees (set_up ++ (ones 12 ++ overdriven_at sent 13)) (0x04 ∷ 0x05 ∷ 0x07 ∷ []) ≡ 0x03 ∷ 0x00 ∷ 0x00 ∷ []
  -- after a good frame the next attempt starts in the fifth slot, not sooner
  pub three_are_too_few : pin (set_up ++ (ones 12 ++ (levels (slots sent) ++ ones 3))) ≡ 1
  -- what the host does while a frame is under way: a write, a read and ACTI leave it; IDLE drops it
  pub host_meanwhile : sees (listening ++ (ones 12 ++ (levels (take 40 (slots asking)) ++ (Write 0x90 0x55 ∷ Read 0x04 ∷ Write 0x03 0x10 ∷ levels (drop 40 (slots asking)))))) (0x09 ∷ 0x1B ∷ 0x80 ∷ 0x90 ∷ []) ≡ 0x82 ∷ 0x19 ∷ 0xA5 ∷ 0x55 ∷ []
  pub idle_meanwhile : sees (listening ++ (ones 12 ++ (levels (take 40 (slots asking)) ++ (Write 0x03 0x20 ∷ levels (drop 40 (slots asking)))))) (0x04 ∷ 0x09 ∷ 0x1B ∷ []) ≡ 0x20 ∷ 0x80 ∷ 0x18 ∷ []
  -- a reply request: taken by 1,0,1,0 and stored with R/W and RTR
  pub request : sees (heard_by (Write 0x19 0x3A ∷ Write 0x1B 0x1A ∷ []) (slots (framed 11 []))) (0x07 ∷ 0x09 ∷ 0x19 ∷ 0x1B ∷ 0xFF ∷ []) ≡ 0x00 ∷ 0x81 ∷ 0x3A ∷ 0x1B ∷ 0x60 ∷ []
  -- tag bits under a mask zero are not compared, and rewritten with the identifier received
  pub low_bits_masked : sees (heard_by (Write 0x19 0x99 ∷ Write 0x1F 0x00 ∷ []) (slots asking)) (0x09 ∷ 0x18 ∷ 0x19 ∷ 0x1B ∷ []) ≡ 0x82 ∷ 0xF2 ∷ 0x39 ∷ 0x19 ∷ []
  -- ignored: EXT 0
  pub ext_0 : sees (heard_by [] (slots (framed 4 []))) (0x07 ∷ 0x09 ∷ 0x1B ∷ []) ≡ 0x00 ∷ 0x80 ∷ 0x18 ∷ []
  -- the sender: CV in the end of frame, in the start and in the end of data, FCSE in the check, ACKE in the first acknowledge slot
  pub own_end_of_data_spoilt : sees (sending_data ++ (ones 12 ++ (levels (take 68 (slots asking)) ++ ones 1))) (0x05 ∷ 0x07 ∷ 0x09 ∷ []) ≡ 0x10 ∷ 0x02 ∷ 0x80 ∷ []
  -- a channel that sends by a link has the data behind the pointer of the channel it names
  pub linked_data_sent : pin (Write 0x10 0xF2 ∷ Write 0x11 0x38 ∷ Write 0x12 0x0D ∷ Write 0x7A 0x20 ∷ Write 0x7B 0x12 ∷ Write 0xA1 0xA5 ∷ Write 0x01 0x23 ∷ Write 0x03 0x10 ∷ (ones 12 ++ levels (take 30 (slots (framed 8 (0xA5 ∷ [])))))) ≡ 1
  -- the check is judged in the pair 00, after the length; a reply request with data is CV even where its check is wrong; the 68th nibble is CV
  pub check_at_once : sees (heard_by [] (take 40 (slots asking) ++ take 30 (drop 40 (slots again)))) (0x04 ∷ 0x07 ∷ 0x09 ∷ []) ≡ 0x00 ∷ 0x08 ∷ 0x84 ∷ []
  -- EXT, R/W and RTR are the channel's
  pub rw_sent : pin (Write 0x10 0xF2 ∷ Write 0x11 0x3A ∷ Write 0x13 0x09 ∷ Write 0x01 0x23 ∷ Write 0x03 0x10 ∷ (ones 12 ++ levels (take 27 (slots (framed 10 []))))) ≡ 1
  -- CV where a dominant level is sampled recessive: identifier, data, check
  pub own_identifier_unseen : sees (sending_data ++ (ones 12 ++ (levels (take 14 (slots asking)) ++ ones 1))) (0x05 ∷ 0x07 ∷ []) ≡ 0x10 ∷ 0x02 ∷ []
  pub own_data_unseen : sees (sending_data ++ (ones 12 ++ (levels (take 31 (slots asking)) ++ ones 1))) (0x05 ∷ 0x07 ∷ []) ≡ 0x10 ∷ 0x02 ∷ []
  pub own_check_unseen : sees (sending_data ++ (ones 12 ++ (levels (take 50 (slots asking)) ++ ones 1))) (0x05 ∷ 0x07 ∷ []) ≡ 0x10 ∷ 0x02 ∷ []
  -- an immediate reply begins at RTR's first half, not before; sent whole it sets TOK, CHTx and CHRx, and 0x06 has retries 0
  pub reply_starts : pin (heard_by (Write 0x19 0x3A ∷ Write 0x80 0xA5 ∷ Write 0x81 0x3C ∷ []) (take 28 (slots (framed 11 [])))) ≡ 0
  pub reply_not_sooner : pin (heard_by (Write 0x19 0x3A ∷ Write 0x80 0xA5 ∷ Write 0x81 0x3C ∷ []) (take 27 (slots (framed 11 [])))) ≡ 1
  pub reply_sent : sees (heard_by (Write 0x19 0x3A ∷ Write 0x80 0xA5 ∷ Write 0x81 0x3C ∷ []) (slots (framed 10 (0xA5 ∷ 0x3C ∷ [])))) (0x05 ∷ 0x06 ∷ 0x09 ∷ 0x1B ∷ []) ≡ 0x00 ∷ 0x01 ∷ 0x88 ∷ 0x1B ∷ []
  -- a reply that is lost leaves no mark; an error in it sets CHER and RE, not TE
  pub reply_lost : sees (heard_by (Write 0x19 0x3A ∷ Write 0x80 0xA5 ∷ Write 0x81 0x3C ∷ []) (take 30 (slots (framed 10 (0xA5 ∷ 0x3C ∷ []))) ++ (0 ∷ []))) (0x04 ∷ 0x05 ∷ 0x09 ∷ 0x1B ∷ []) ≡ 0x01 ∷ 0x00 ∷ 0x80 ∷ 0x18 ∷ []
  -- 02, Req 04. The check behind the data: with M_L n + 3 across the end of the mailbox, high byte first, a zero bit behind it; the count says n; nothing behind it
  pub check_kept : sees (heard_by (room_for 5) (slots captured)) (0x1B ∷ 0xFC ∷ 0xFD ∷ 0xFE ∷ 0xFF ∷ 0x80 ∷ 0x81 ∷ []) ≡ 0x29 ∷ 0x82 ∷ 0x00 ∷ 0xFF ∷ 0x1F ∷ 0xF8 ∷ 0x00 ∷ []
  -- with M_L n + 2 nothing extra
  pub one_place_to_spare : sees (heard_by (room_for 4) (slots captured)) (0x1B ∷ 0xFC ∷ 0xFD ∷ 0xFE ∷ 0xFF ∷ 0x80 ∷ []) ≡ 0x21 ∷ 0x82 ∷ 0x00 ∷ 0xFF ∷ 0x00 ∷ 0x00 ∷ []
