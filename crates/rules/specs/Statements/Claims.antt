-- What is claimed of the controller's rules: reset values, matching, closed runs. The claims over every run of events are in crates/every_run.
use Rattle.std.specs.Prelude.{ℕ, ◌≤◌, ◌<◌, Bool, true, false, List, [], ◌∷◌, ◌++◌, ◌≡◌, get_or, length, take, drop, replicate, Some}
use Rattle.line.specs.LineCode.{line_code}
use Rattle.line.specs.Frame.{byte_bits, slots}
use Rattle.rules.specs.Definitions.Registers.{either, reset_values, retry_setting}
use Rattle.rules.specs.Definitions.Channels.{receive_message, request_detection, transmit_message, deferred_reply, request_message, awaits_reply, immediate_reply, matches, lowest}
use Rattle.rules.specs.Definitions.Mailbox.{status_byte, reset_memory}
use Rattle.rules.specs.Statements.Bits.{bit_at}
use Rattle.rules.specs.Definitions.State.{ranges}
use Rattle.rules.specs.Definitions.Slots.{drives}
use Rattle.rules.specs.Definitions.Host.{reset_all, byte_read, line_status_of, interrupt_line}
use Rattle.rules.specs.Definitions.Run.{fresh, step}
use Rattle.rules.specs.Statements.Runs.{set_up, ones, levels, sent, overdriven, ran, listening, asking, last_answer, sees, pin, again, sending_data, failures, overdriven_at, refuses, reads_from, writes_from, framed, heard_by, offered, types, flipped, beyond, largest_of, lower, captured, room_for}
use Rattle.rules.specs.declared.Mode.TheVariants.{Active}
use Rattle.rules.specs.declared.Controller.{Controller}
use Rattle.rules.specs.declared.Event.TheVariants.{Reset, Slot, Write, Read}

-- a host reads the byte of each row (address, byte)
abbrev pub ReadsAs : Controller → List (ℕ × ℕ) → Type 0
ReadsAs c [] = Unit {0}
ReadsAs c (row ∷ rows) = (byte_read c row.0 ≡ row.1) × ReadsAs c rows

-- "Each control register has a name, an address and a reset value that belong to it": what a host reads of the state that a reset leaves
pub record Resets : Type 0 where
  pub reads : (c : Controller) → length c.memory ≡ 256 → ReadsAs (reset_all c) reset_values
  -- "leaves both" channels and mailbox
  pub leaves : (m : List ℕ) (a : ℕ) → 0x10 ≤ a → get_or (reset_memory m) a 0 ≡ get_or m a 0

pub record Matching : Type 0 where
  -- "A frame matches when every tag bit under a mask one equals the identifier's": then, and only then
  pub sound : (tag mask identifier : ℕ) → matches tag mask identifier ≡ true → (k : ℕ) → bit_at mask k ≡ 1 → bit_at tag k ≡ bit_at identifier k
  pub complete : (tag mask identifier : ℕ) → ((k : ℕ) → bit_at mask k ≡ 1 → bit_at tag k ≡ bit_at identifier k) → matches tag mask identifier ≡ true
  -- "Lowest channel number wins": the one that is found passes, and none below it does
  pub wins : (passes : ℕ → Bool) (left from c : ℕ) → lowest passes left from ≡ Some c → (passes c ≡ true) × ((k : ℕ) → from ≤ k → k < c → passes k ≡ false)

-- closed runs, by what a host reads after them, by the level at the pin and by the state. Under each edit of must-fail/ that no law refuses one of them comes out
-- otherwise. Further closed runs are in crates/closed_runs
pub record Courses : Type 0 where
  -- tag and R written after the choice do not touch the service; the slot of a loss counts; a refused slot leaves the mode
  pub frame_kept : drives (ran fresh (set_up ++ (ones 5 ++ (Write 0x10 0x02 ∷ (ones 7 ++ levels (take 10 (slots sent))))))).core ≡ 1
  pub setting_kept : (ran fresh (set_up ++ (ones 5 ++ (Write 0x01 0x03 ∷ (ones 7 ++ (Slot 7 ∷ [])))))).core.report.flags.te ≡ false
  pub loss_counted : (ran fresh (set_up ++ (ones 12 ++ overdriven))).core.service.effort.counters.slots.0 ≡ 11
  -- a loss is no error; the third error of R = 2 raises TE and ends the service, so that the next channel is chosen; an attempt that joins drives the identifier first;
  -- an abort asked in an attempt ends the service with it: CHTx stands beside CHER
  pub loss_no_error : (ran fresh (set_up ++ (ones 12 ++ overdriven))).core.service.effort.counters.errors.0 ≡ 0
  pub third_error : (ran fresh (set_up ++ (ones 12 ++ (Slot 7 ∷ (ones 12 ++ (Slot 7 ∷ (ones 12 ++ (Slot 7 ∷ [])))))))).core.report.flags.te ≡ true
  pub given_up : (ran fresh (set_up ++ (ones 12 ++ (Slot 7 ∷ (ones 12 ++ (Slot 7 ∷ (ones 12 ++ (Slot 7 ∷ [])))))))).core.service.channel ≡ 1
  pub joined : drives (ran fresh (set_up ++ (Write 0x01 0x22 ∷ (ones 12 ++ levels (take 10 (slots sent)))))).core ≡ 1
  pub aborted : get_or (ran fresh (set_up ++ (ones 12 ++ (Slot 0 ∷ Slot 0 ∷ Slot 0 ∷ Write 0x13 0x0C ∷ Slot 7 ∷ [])))).memory 0x13 0 ≡ 0x0E
  pub refused : (step (ran fresh set_up) (Slot 9)).next.core.activity.mode ≡ Active
  -- a loss in a first half is no error; after a loss in data the frame's next level, a dominant one, is not driven
  pub lost_in_data : pin (sending_data ++ (ones 12 ++ overdriven_at asking 30)) ≡ 1
  -- two good frames in a row, the second from the slot after the first: both stored, and the controller is still active
  pub two_in_a_row : sees (listening ++ (ones 12 ++ (levels (slots asking) ++ (Write 0x1B 0x18 ∷ levels (slots again))))) (0x04 ∷ 0x1B ∷ 0xFF ∷ 0x80 ∷ 0x81 ∷ []) ≡ 0x00 ∷ 0x19 ∷ 0x82 ∷ 0x12 ∷ 0x34 ∷ []
  -- after a good frame the next attempt starts in the fifth slot, not sooner
  pub four_are_enough : pin (set_up ++ (ones 12 ++ (levels (slots sent) ++ ones 4))) ≡ 0
  -- a fault before any channel has matched: 0x07 alone
  pub unmatched_fault : sees (listening ++ (ones 12 ++ (Slot 0 ∷ Slot 7 ∷ []))) (0x07 ∷ 0x09 ∷ 0x1B ∷ []) ≡ 0x02 ∷ 0x80 ∷ 0x18 ∷ []
  -- a fault once the frame is matched: CHER and RE, and the channel's other bytes stay
  pub spoilt : sees (listening ++ (ones 12 ++ overdriven_at asking 34)) (0x07 ∷ 0x09 ∷ 0x18 ∷ 0x19 ∷ 0x1A ∷ 0x1B ∷ 0x1E ∷ 0x1F ∷ []) ≡ 0x02 ∷ 0x84 ∷ 0xF2 ∷ 0x39 ∷ 0x7F ∷ 0x1C ∷ 0xFF ∷ 0xF0 ∷ []
  -- a service that waits for a free line: TXG, not RXG
  pub waiting : sees (set_up ++ ones 3) (0x04 ∷ 0x05 ∷ []) ≡ 0x02 ∷ 0x00 ∷ []
  -- no channel is ready: no service, and no status bit is cleared
  pub nothing_to_send : sees (Write 0x03 0x10 ∷ ones 14) (0x04 ∷ 0x09 ∷ []) ≡ 0x00 ∷ 0x80 ∷ []
  -- the level at the pin, and after the transmit inversion
  pub pin_starts : pin (set_up ++ ones 12) ≡ 0
  pub pin_inverted : pin (Write 0x00 0x02 ∷ (set_up ++ ones 12)) ≡ 1
  -- a write to 0x0B clears; a write changes its own byte; a reset leaves channels and mailbox
  pub cleared : sees (Write 0x0B 0x80 ∷ []) (0x09 ∷ []) ≡ 0x00 ∷ []
  pub own_byte : sees (Write 0x0A 0x1F ∷ []) (0x0A ∷ 0x90 ∷ []) ≡ 0x1F ∷ 0x00 ∷ []
  pub reset_leaves : sees (Write 0x28 0x52 ∷ Write 0x90 0x55 ∷ Write 0x01 0xF3 ∷ Write 0x03 0x80 ∷ []) (0x01 ∷ 0x0A ∷ 0x28 ∷ 0x90 ∷ []) ≡ 0x02 ∷ 0x80 ∷ 0x52 ∷ 0x55 ∷ []
  -- numbers refused: at 0x00 to 0x10 a read, and a write of 0x02; the fixed bits of 0x01 and 0x03
  pub reads_refused : refuses [] (reads_from 17 0x00) ≡ 0 ∷ 0 ∷ 0 ∷ 4 ∷ 0 ∷ 0 ∷ 0 ∷ 0 ∷ 4 ∷ 0 ∷ 0 ∷ 4 ∷ 4 ∷ 4 ∷ 4 ∷ 4 ∷ 0 ∷ []
  pub writes_refused : refuses [] (writes_from 17 0x00 0x02) ≡ 0 ∷ 0 ∷ 0 ∷ 8 ∷ 3 ∷ 3 ∷ 3 ∷ 3 ∷ 3 ∷ 3 ∷ 0 ∷ 0 ∷ 3 ∷ 3 ∷ 3 ∷ 3 ∷ 0 ∷ []
  pub fixed_bits : refuses [] (Write 0x01 0x00 ∷ Write 0x01 0x06 ∷ Write 0x01 0x0A ∷ Write 0x03 0x02 ∷ Write 0x03 0x04 ∷ Write 0x01 0xF3 ∷ []) ≡ 8 ∷ 8 ∷ 8 ∷ 8 ∷ 8 ∷ 0 ∷ []
  -- host access while asleep
  pub asleep : refuses (Write 0x03 0x40 ∷ []) (Read 0x100 ∷ Write 0x100 0x100 ∷ Read 0x04 ∷ Slot 8 ∷ Reset ∷ []) ≡ 7 ∷ 7 ∷ 7 ∷ 5 ∷ 0 ∷ []
  -- RxD1, RxD2, the automatic selection, and the receive inversion: twelve recessive slots
  pub rxd1 : pin (Write 0x02 0x08 ∷ (set_up ++ replicate 12 (Slot 2))) ≡ 0
  pub rxd2 : pin (Write 0x02 0x04 ∷ (set_up ++ replicate 12 (Slot 4))) ≡ 0
  pub automatic : pin (Write 0x02 0x0C ∷ (set_up ++ ones 12)) ≡ 0
  pub receive_inverted : pin (Write 0x00 0x01 ∷ (set_up ++ replicate 12 (Slot 0))) ≡ 0
  -- REAR between attempts ends the service and marks nothing; MSDC leaves the service, and is a pulse with no edge before it: major error
  pub rearbitrated : sees (set_up ++ (ones 3 ++ (Write 0x03 0x08 ∷ []))) (0x04 ∷ 0x13 ∷ []) ≡ 0x00 ∷ 0x08 ∷ []
  pub msdc : sees (set_up ++ (ones 3 ++ (Write 0x03 0x01 ∷ []))) (0x04 ∷ 0x13 ∷ []) ≡ 0x0E ∷ 0x08 ∷ []
  -- BOV in 0x07 where a frame does not fit
  pub overflow : sees (heard_by (Write 0x1B 0x10 ∷ []) (slots asking)) (0x07 ∷ 0x09 ∷ 0x1B ∷ 0xFF ∷ 0x80 ∷ []) ≡ 0x20 ∷ 0x84 ∷ 0x14 ∷ 0x00 ∷ 0x00 ∷ []
  -- DRAK 1: no acknowledge is driven
  pub drak : pin (heard_by (Write 0x1A 0xFF ∷ []) (take 71 (slots asking))) ≡ 1
  -- CHTx beside CHER
  pub spoilt_beside_chtx : sees (heard_by (Write 0x1B 0x1A ∷ []) (take 34 (slots asking) ++ (0 ∷ []))) (0x07 ∷ 0x09 ∷ 0x1B ∷ []) ≡ 0x02 ∷ 0x84 ∷ 0x1E ∷ []
  -- who sends: 0,0,0,1; 1,0,0,1; M_L 31; channel 1, linked to channel 0, in place of a channel 0 with 1,0,0,0 or CHER 1
  pub sends_again : sees (offered 0x38 0x09) (0x04 ∷ 0x05 ∷ []) ≡ 0x02 ∷ 0x00 ∷ []
  pub deferred_reply_sent : sees (offered 0x3A 0x09) (0x04 ∷ 0x05 ∷ []) ≡ 0x02 ∷ 0x00 ∷ []
  pub longest_sent : sees (offered 0x38 0xF8) (0x04 ∷ 0x05 ∷ []) ≡ 0x02 ∷ 0x00 ∷ []
  pub no_reply_yet : sees (offered 0x3A 0x08) (0x04 ∷ 0x05 ∷ []) ≡ 0x02 ∷ 0x01 ∷ []
  pub cher_1 : sees (offered 0x38 0x0C) (0x04 ∷ 0x05 ∷ []) ≡ 0x02 ∷ 0x01 ∷ []
  -- EXT 0: R/W 1 and RTR 1 with data is no fault
  pub no_request : sees (heard_by [] (slots (framed 3 (0xA5 ∷ [])))) (0x07 ∷ 0x09 ∷ 0x1B ∷ []) ≡ 0x00 ∷ 0x80 ∷ 0x18 ∷ []
  -- the count in the status byte has five bits, the retry setting four
  pub count_of_thirty : status_byte 0 30 ≡ 30
  pub setting_of_fifteen : retry_setting 0xF3 ≡ 15
  -- 0x04 has SPG in bit 6; no read shows it, for none is accepted asleep
  pub sleeping : line_status_of (ran fresh (Write 0x03 0x40 ∷ [])).core ≡ 0x40
  -- after a reset RST is set and enabled, and the interrupt line is asserted; with RST cleared it is not
  pub line_asserted : interrupt_line (ran fresh []) ≡ true
  pub line_quiet : interrupt_line (ran fresh (Write 0x0B 0x80 ∷ [])) ≡ false
  -- the sender: CV in the end of frame, in the start and in the end of data, FCSE in the check, ACKE in the first acknowledge slot
  pub own_end_spoilt : sees (sending_data ++ (ones 12 ++ overdriven_at asking 72)) (0x05 ∷ 0x07 ∷ 0x09 ∷ []) ≡ 0x10 ∷ 0x02 ∷ 0x80 ∷ []
  pub own_start_spoilt : sees (set_up ++ failures 1) (0x05 ∷ 0x07 ∷ 0x09 ∷ []) ≡ 0x10 ∷ 0x02 ∷ 0x80 ∷ []
  pub own_check_spoilt : sees (sending_data ++ (ones 12 ++ overdriven_at asking 53)) (0x05 ∷ 0x07 ∷ 0x09 ∷ []) ≡ 0x10 ∷ 0x08 ∷ 0x80 ∷ []
  pub own_acknowledge_spoilt : sees (sending_data ++ (ones 12 ++ overdriven_at asking 70)) (0x05 ∷ 0x07 ∷ 0x09 ∷ []) ≡ 0x10 ∷ 0x04 ∷ 0x80 ∷ []
  -- channel 1, linked to channel 14, does not send: channel 2 does
  pub no_channel_14 : sees (Write 0x13 0x0A ∷ Write 0x1A 0x0E ∷ Write 0x03 0x10 ∷ Slot 7 ∷ []) (0x04 ∷ 0x05 ∷ []) ≡ 0x02 ∷ 0x02 ∷ []
  -- a channel with CHER 1 listens, and CHER stays; so does one with EXT 0
  pub cher_listens : sees (heard_by (Write 0x1B 0x1C ∷ []) (slots (framed 8 []))) (0x09 ∷ 0x1B ∷ []) ≡ 0x81 ∷ 0x1D ∷ []
  pub channel_ext_0 : sees (heard_by (Write 0x19 0x31 ∷ []) (slots (framed 8 []))) (0x09 ∷ 0x19 ∷ 0x1B ∷ []) ≡ 0x81 ∷ 0x31 ∷ 0x19 ∷ []
  -- message types, for RNW, RTR, CHTx, CHRx of 0 to 15: sent, takes data, takes requests, takes replies, replies
  pub types_sent : types (λ b. either (transmit_message b) (either (deferred_reply b) (request_message b))) ≡ 1 ∷ 1 ∷ 0 ∷ 0 ∷ 0 ∷ 0 ∷ 0 ∷ 0 ∷ 0 ∷ 1 ∷ 0 ∷ 0 ∷ 1 ∷ 0 ∷ 0 ∷ 0 ∷ []
  pub types_of_data : types receive_message ≡ 0 ∷ 0 ∷ 0 ∷ 0 ∷ 1 ∷ 0 ∷ 1 ∷ 0 ∷ 0 ∷ 0 ∷ 0 ∷ 0 ∷ 0 ∷ 0 ∷ 0 ∷ 0 ∷ []
  pub types_of_requests : types request_detection ≡ 0 ∷ 0 ∷ 0 ∷ 0 ∷ 0 ∷ 0 ∷ 0 ∷ 0 ∷ 0 ∷ 0 ∷ 1 ∷ 0 ∷ 0 ∷ 0 ∷ 0 ∷ 0 ∷ []
  pub types_of_replies : types awaits_reply ≡ 0 ∷ 0 ∷ 0 ∷ 0 ∷ 0 ∷ 0 ∷ 0 ∷ 0 ∷ 0 ∷ 0 ∷ 0 ∷ 0 ∷ 1 ∷ 0 ∷ 1 ∷ 0 ∷ []
  pub types_of_repliers : types immediate_reply ≡ 0 ∷ 0 ∷ 0 ∷ 0 ∷ 0 ∷ 0 ∷ 0 ∷ 0 ∷ 1 ∷ 0 ∷ 0 ∷ 0 ∷ 0 ∷ 0 ∷ 0 ∷ 0 ∷ []
  -- a link is four bits of the pointer, and M_L is that of the channel it names; DRAK is that of channel 1; a link to a link takes nothing
  pub link_high_bits : sees (heard_by (Write 0x1A 0x1D ∷ Write 0x1B 0x00 ∷ Write 0x7A 0xA0 ∷ Write 0x7B 0x22 ∷ []) (slots asking)) (0x09 ∷ 0x1B ∷ 0xA0 ∷ 0xA3 ∷ []) ≡ 0x82 ∷ 0x01 ∷ 0x82 ∷ 0x00 ∷ []
  pub linked_drak : pin (heard_by (Write 0x1A 0x1D ∷ Write 0x1B 0x00 ∷ Write 0x7A 0xA0 ∷ Write 0x7B 0x1A ∷ []) (take 71 (slots asking))) ≡ 0
  pub link_to_link : sees (heard_by (Write 0x1A 0x0D ∷ Write 0x1B 0x00 ∷ Write 0x7A 0x0C ∷ Write 0x7B 0x02 ∷ Write 0x72 0x20 ∷ Write 0x73 0x1A ∷ []) (slots asking)) (0x09 ∷ 0x1B ∷ []) ≡ 0x80 ∷ 0x00 ∷ []
  -- a dominant first acknowledge slot is judged in the second
  pub still_acknowledges : pin (heard_by [] (take 70 (slots asking) ++ (0 ∷ []))) ≡ 0
  -- the check is judged in the pair 00, after the length; a reply request with data is CV even where its check is wrong; the 68th nibble is CV
  pub request_before_check : sees (heard_by (Write 0x19 0x3A ∷ Write 0x1B 0x1A ∷ []) (take 43 (slots (framed 11 (0xA5 ∷ []))) ++ (flipped (take 2 (drop 43 (slots (framed 11 (0xA5 ∷ []))))) ++ drop 45 (slots (framed 11 (0xA5 ∷ [])))))) (0x07 ∷ []) ≡ 0x02 ∷ []
  pub nibble_68 : sees (heard_by [] (take 30 (slots (framed 8 [])) ++ take 320 (line_code (byte_bits (replicate 32 0xA5))))) (0x04 ∷ 0x07 ∷ 0x09 ∷ 0x1B ∷ []) ≡ 0x00 ∷ 0x02 ∷ 0x84 ∷ 0x1C ∷ []
  -- after GRES: every register, and three bytes of channel 0
  pub reset_values : sees (Write 0x00 0xFB ∷ Write 0x02 0xFF ∷ Write 0x01 0xF3 ∷ Write 0x0A 0x1F ∷ Write 0x13 0x1F ∷ Write 0x14 0x55 ∷ Write 0x15 0x55 ∷ Write 0x03 0x80 ∷ []) (0x00 ∷ 0x01 ∷ 0x02 ∷ 0x04 ∷ 0x05 ∷ 0x06 ∷ 0x07 ∷ 0x09 ∷ 0x0A ∷ 0x13 ∷ 0x14 ∷ 0x15 ∷ []) ≡ 0x00 ∷ 0x02 ∷ 0x00 ∷ 0x20 ∷ 0x00 ∷ 0x00 ∷ 0x00 ∷ 0x80 ∷ 0x80 ∷ 0x1F ∷ 0x55 ∷ 0x55 ∷ []
  -- a fresh controller has zero channels and mailbox
  pub fresh_zero : drop 0x10 fresh.memory ≡ replicate 240 0
  -- reserved bits are kept as written, and +4 and +5 too
  pub kept_as_written : refuses [] (Write 0x00 0x04 ∷ Write 0x0A 0x60 ∷ Write 0x0B 0x60 ∷ Write 0x14 0x01 ∷ Write 0x15 0x01 ∷ Write 0x17 0x01 ∷ []) ≡ replicate 6 0
  -- a state out of its range is refused with 6; the largest values
  pub out_of_range : (last_answer (record { refused = 0; value = 0; next = beyond }) (Read 0x04 ∷ [])).refused ≡ 6
  pub largest_values : largest_of (ranges 0x3F fresh.core) ≡ 15 ∷ 13 ∷ 15 ∷ 13 ∷ 32 ∷ 12 ∷ 9 ∷ 67 ∷ 15 ∷ 13 ∷ 127 ∷ 31 ∷ 13 ∷ 30 ∷ 15 ∷ 359 ∷ 15 ∷ 13 ∷ 359 ∷ 30 ∷ 7 ∷ 8 ∷ 511 ∷ 4 ∷ 4 ∷ 4 ∷ []
  -- Ma and Mb alone select the input; PC has no effect, and the receive inversion is for every input
  pub input_by_two_bits : pin (Write 0x02 0xFB ∷ (set_up ++ replicate 12 (Slot 2))) ≡ 0
  pub inverted_rxd1 : pin (Write 0x00 0x09 ∷ Write 0x02 0x08 ∷ (set_up ++ replicate 12 (Slot 5))) ≡ 0
  -- EXT, R/W and RTR are the channel's
  pub ext_0_sent : pin (Write 0x10 0xF2 ∷ Write 0x11 0x30 ∷ Write 0x13 0x08 ∷ Write 0x01 0x23 ∷ Write 0x03 0x10 ∷ (ones 12 ++ levels (take 25 (slots (framed 0 []))))) ≡ 0
  -- 02, Req 01. A request whose RTR is driven dominant: the frame that answers is stored, TOK, CHTx and CHRx, and 0x06 has channel 1
  pub answered : sees (heard_by (Write 0x19 0x3B ∷ Write 0x01 0x23 ∷ []) (slots (framed 10 (0xA5 ∷ 0x3C ∷ [])))) (0x06 ∷ 0x09 ∷ 0x1B ∷ 0xFF ∷ 0x80 ∷ 0x81 ∷ []) ≡ 0x01 ∷ 0x89 ∷ 0x1B ∷ 0x42 ∷ 0xA5 ∷ 0x3C ∷ []
  -- an answer that no channel takes is CV at the end of the good frame
  pub answer_untaken : sees (listening ++ (Write 0x19 0x3B ∷ Write 0x01 0x23 ∷ (ones 12 ++ (levels (take 20 (slots (framed 10 (0xA5 ∷ 0x3C ∷ [])))) ++ (Write 0x1B 0x19 ∷ levels (drop 20 (slots (framed 10 (0xA5 ∷ 0x3C ∷ []))))))))) (0x05 ∷ 0x07 ∷ 0x09 ∷ 0x1B ∷ []) ≡ 0x11 ∷ 0x02 ∷ 0x80 ∷ 0x19 ∷ []
  -- a request that nobody answers is sent, without data, whatever its M_L
  pub unanswered : sees (heard_by (Write 0x19 0x3B ∷ Write 0x01 0x23 ∷ []) (slots (framed 11 []))) (0x06 ∷ 0x09 ∷ 0x1B ∷ []) ≡ 0x01 ∷ 0x88 ∷ 0x1A ∷ []
  -- a request is chosen; with CHER 1 it is not, and channel 1, a link to it, is
  pub request_offered : sees (offered 0x3B 0x08) (0x04 ∷ 0x05 ∷ []) ≡ 0x02 ∷ 0x00 ∷ []
  pub request_in_error : sees (offered 0x3B 0x0C) (0x04 ∷ 0x05 ∷ []) ≡ 0x02 ∷ 0x01 ∷ []
  -- a waiting request ends where its channel stores a reply
  pub fulfilled : sees (heard_by (Write 0x19 0x3B ∷ Write 0x01 0x23 ∷ Write 0x1F 0x00 ∷ []) (slots lower)) (0x04 ∷ 0x09 ∷ 0x18 ∷ 0x19 ∷ 0x1B ∷ []) ≡ 0x00 ∷ 0x81 ∷ 0xF2 ∷ 0x0B ∷ 0x19 ∷ []
  -- a reply that is lost leaves no mark; an error in it sets CHER and RE, not TE
  pub reply_failed : sees (heard_by (Write 0x19 0x3A ∷ Write 0x80 0xA5 ∷ Write 0x81 0x3C ∷ []) (take 31 (slots (framed 10 (0xA5 ∷ 0x3C ∷ []))) ++ (1 ∷ []))) (0x04 ∷ 0x05 ∷ 0x07 ∷ 0x09 ∷ 0x1B ∷ []) ≡ 0x00 ∷ 0x00 ∷ 0x02 ∷ 0x84 ∷ 0x1C ∷ []
  -- 1,0,1,0 of a lower channel that matches bars a reply
  pub reply_barred : pin (heard_by (Write 0x19 0x3A ∷ Write 0x1B 0x1A ∷ Write 0x20 0xF2 ∷ Write 0x21 0x3A ∷ Write 0x22 0x10 ∷ Write 0x23 0x18 ∷ Write 0x26 0xFF ∷ Write 0x27 0xF0 ∷ []) (take 28 (slots (framed 11 [])))) ≡ 1
  -- a channel with CHER 1 does not reply
  pub reply_in_error : pin (heard_by (Write 0x19 0x3A ∷ Write 0x1B 0x1C ∷ []) (take 28 (slots (framed 11 [])))) ≡ 1
  -- no reply to the model's own request
  pub reply_not_to_itself : pin (heard_by (Write 0x19 0x3B ∷ Write 0x01 0x23 ∷ Write 0x20 0xF2 ∷ Write 0x21 0x3A ∷ Write 0x22 0x10 ∷ Write 0x23 0x18 ∷ Write 0x26 0xFF ∷ Write 0x27 0xF0 ∷ []) (slots (framed 11 []))) ≡ 1
  -- the check of a reply is over the identifier and the RAK heard
  pub reply_as_heard : sees (heard_by (Write 0x19 0x3A ∷ Write 0x80 0xA5 ∷ Write 0x81 0x3C ∷ Write 0x1F 0x00 ∷ []) (slots (record { identifier = 0xF20; command = 14; bytes = 0xA5 ∷ 0x3C ∷ []; acknowledge = true }))) (0x09 ∷ 0x18 ∷ 0x19 ∷ 0x1B ∷ []) ≡ 0x88 ∷ 0xF2 ∷ 0x3A ∷ 0x1B ∷ []
  -- after an error it is not repeated; sent whole it is stored by no channel that listens
  pub reply_ends : pin (heard_by (Write 0x19 0x3A ∷ Write 0x80 0xA5 ∷ Write 0x81 0x3C ∷ []) (take 31 (slots (framed 10 (0xA5 ∷ 0x3C ∷ []))) ++ (1 ∷ []))) ≡ 1
  pub reply_not_stored : sees (heard_by (Write 0x19 0x3A ∷ Write 0x80 0xA5 ∷ Write 0x81 0x3C ∷ Write 0x20 0xF2 ∷ Write 0x21 0x3B ∷ Write 0x22 0x10 ∷ Write 0x23 0x1A ∷ Write 0x26 0xFF ∷ Write 0x27 0xF0 ∷ []) (slots (framed 10 (0xA5 ∷ 0x3C ∷ [])))) (0x09 ∷ 0x1B ∷ 0x23 ∷ 0x90 ∷ 0x91 ∷ []) ≡ 0x88 ∷ 0x1B ∷ 0x1A ∷ 0x00 ∷ 0x00 ∷ []
  -- a frame that the model itself sends is stored by no channel that listens
  pub own_not_stored : sees (listening ++ (set_up ++ (ones 12 ++ levels (slots sent)))) (0x09 ∷ 0x13 ∷ 0x1B ∷ 0xFF ∷ []) ≡ 0x88 ∷ 0x0A ∷ 0x18 ∷ 0x00 ∷ []
  -- the M_L of the last command slot decides, whatever the host writes later
  pub length_held : sees (listening ++ (room_for 5 ++ (ones 12 ++ (levels (take 60 (slots captured)) ++ (Write 0x1B 0x18 ∷ levels (drop 60 (slots captured))))))) (0x1B ∷ 0xFC ∷ 0xFF ∷ 0x80 ∷ []) ≡ 0x19 ∷ 0x82 ∷ 0x1F ∷ 0xF8 ∷ []
  -- a reply request leaves its check too
  pub request_check_kept : sees (heard_by (Write 0x19 0x3A ∷ Write 0x1B 0x1A ∷ []) (slots (framed 11 []))) (0x1B ∷ 0xFF ∷ 0x80 ∷ 0x81 ∷ 0x82 ∷ []) ≡ 0x1B ∷ 0x60 ∷ 0x26 ∷ 0x34 ∷ 0x00 ∷ []
  -- no byte of the mailbox where the frame does not fit
  pub overflow_leaves_none : drop 0x80 (ran fresh (heard_by (room_for 2) (slots captured))).memory ≡ replicate 128 0
  -- 02, Req 05. A cut DATA wire shows Sa, a cut DATA-bar wire Sb, both with Sc
  pub cut_data : sees (Write 0x02 0x0C ∷ Slot 2 ∷ Slot 7 ∷ Slot 2 ∷ Slot 7 ∷ []) (0x04 ∷ []) ≡ 0x34 ∷ []
  pub cut_data_bar : sees (Write 0x02 0x0C ∷ Slot 4 ∷ Slot 7 ∷ Slot 4 ∷ Slot 7 ∷ []) (0x04 ∷ []) ≡ 0x38 ∷ []
  -- the sample of the slot that finds it is that of the input selected as the slot begins; the next slot's is that of the wire that works
  pub sample_before_edges : (ran fresh (Write 0x02 0x0C ∷ Write 0x03 0x10 ∷ Slot 3 ∷ Write 0x02 0x1C ∷ Slot 7 ∷ Slot 3 ∷ Slot 7 ∷ Slot 3 ∷ [])).core.line.count ≡ 5
  pub sample_after_finding : (ran fresh (Write 0x02 0x0C ∷ Write 0x03 0x10 ∷ Slot 3 ∷ Write 0x02 0x1C ∷ Slot 7 ∷ Slot 3 ∷ Slot 7 ∷ Slot 3 ∷ Slot 3 ∷ [])).core.line.count ≡ 0
  -- other SDC bits start the counts anew, the same bits do not; MSDC does nothing with GRES or SLEEP; asleep nothing counts; a refused slot counts nothing
  pub divider_changed : sees (Write 0x02 0x0C ∷ Slot 2 ∷ Slot 7 ∷ Slot 2 ∷ Write 0x02 0x1C ∷ Slot 7 ∷ []) (0x04 ∷ []) ≡ 0x30 ∷ []
  pub divider_kept : sees (Write 0x02 0x0C ∷ Slot 2 ∷ Slot 7 ∷ Slot 2 ∷ Write 0x02 0x00 ∷ Slot 7 ∷ []) (0x04 ∷ []) ≡ 0x34 ∷ []
  pub pulse_with_reset : sees (Write 0x03 0x81 ∷ []) (0x04 ∷ []) ≡ 0x20 ∷ []
  pub pulse_with_sleep : line_status_of (ran fresh (Write 0x03 0x41 ∷ [])).core ≡ 0x40
  pub asleep_uncounted : (ran fresh (Write 0x03 0x40 ∷ Slot 0 ∷ [])).core.diagnosis.levels ≡ 7
  pub refused_uncounted : (ran fresh (Slot 8 ∷ [])).core.diagnosis.levels ≡ 7
  -- ETIP: the model's own start with RxD1 recessive, after three slots and after the fourth, the last dominant one
  pub own_turn : (sees (Write 0x02 0x02 ∷ (set_up ++ (ones 12 ++ (Slot 2 ∷ Slot 2 ∷ Slot 2 ∷ [])))) (0x04 ∷ []) ≡ 0x13 ∷ []) × (sees (Write 0x02 0x02 ∷ (set_up ++ (ones 12 ++ (Slot 2 ∷ Slot 2 ∷ Slot 2 ∷ Slot 2 ∷ [])))) (0x04 ∷ []) ≡ 0x17 ∷ [])
  -- a start that breaks is no RI: Sc stays; the levels are those after the receive inversion
  pub no_return : sees (Write 0x03 0x10 ∷ Slot 6 ∷ (ones 12 ++ (Slot 0 ∷ Slot 7 ∷ []))) (0x04 ∷ 0x07 ∷ []) ≡ 0x10 ∷ 0x02 ∷ []
  pub inverted_levels : (ran fresh (Write 0x00 0x01 ∷ Slot 2 ∷ [])).core.diagnosis.levels ≡ 5
