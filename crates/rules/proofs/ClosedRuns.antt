-- Closed runs, computed. What each shows is said at its statement.
use mathlib.Core.Bool.{true, false}
use mathlib.Core.List.{[], ◌∷◌, ◌++◌}
use mathlib.Core.Path.{◌≡◌, refl}
use lib.Dec.{leb}
use lib.ListN.{get_or, take, drop, replicate}
use Rattle.std.specs.Prelude.{Some}
use Rattle.line.specs.Bits.{bits}
use Rattle.line.specs.LineCode.{line_code}
use Rattle.line.specs.Frame.{byte_bits, slots, size}
use Rattle.rules.specs.Definitions.Registers.{either, bit, read_only, reset_values, retry_setting}
use Rattle.rules.specs.Definitions.Mailbox.{status_byte, rows_written, reset_memory}
use Rattle.rules.specs.Definitions.Channels.{receive_message, request_detection, transmit_message, deferred_reply, request_message, awaits_reply, immediate_reply, lowest, matches}
use Rattle.diagnosis.specs.Control.{rate, divider}
use Rattle.rules.specs.Definitions.State.{ranges}
use Rattle.rules.specs.Definitions.Slots.{drives}
use Rattle.rules.specs.Definitions.Host.{line_status_of, reset_all, interrupt_line}
use Rattle.rules.specs.Definitions.Run.{fresh, step}
use Rattle.rules.specs.Statements.Claims.{Courses}
use Rattle.rules.specs.Statements.Runs.{set_up, ones, levels, sent, overdriven, ran, listening, asking, last_answer, reads, sees, pin, again, sending_data, failures, overdriven_at, refuses, reads_from, writes_from, framed, heard_by, offered, types_from, types, flipped, beyond, largest_of, lower, captured, room_for}
use Rattle.rules.specs.declared.Mode.TheVariants.{Active}
use Rattle.rules.specs.declared.Event.TheVariants.{Reset, Slot, Write, Read}

pub lowest_of_many : lowest (leb 3) 14 0 ≡ Some 3
unfolding lowest
lowest_of_many = refl

pub masked : matches 0x524 0xFF0 0x527 ≡ true
unfolding matches
masked = refl

pub compared : matches 0x524 0xFF0 0x534 ≡ false
unfolding matches
compared = refl

pub refused : (step (ran fresh set_up) (Slot 9)).next.core.activity.mode ≡ Active
unfolding ran last_answer set_up step
refused = refl

pub frame_kept : drives (ran fresh (set_up ++ (ones 5 ++ (Write 0x10 0x02 ∷ (ones 7 ++ levels (take 10 (slots sent))))))).core ≡ 1
unfolding ran last_answer set_up ones levels sent drives
frame_kept = refl

pub setting_kept : (ran fresh (set_up ++ (ones 5 ++ (Write 0x01 0x03 ∷ (ones 7 ++ (Slot 7 ∷ [])))))).core.report.flags.te ≡ false
unfolding ran last_answer set_up ones
setting_kept = refl

pub loss_counted : (ran fresh (set_up ++ (ones 12 ++ overdriven))).core.service.effort.counters.slots.0 ≡ 11
unfolding ran last_answer set_up ones overdriven levels sent
loss_counted = refl

pub loss_no_error : (ran fresh (set_up ++ (ones 12 ++ overdriven))).core.service.effort.counters.errors.0 ≡ 0
unfolding ran last_answer set_up ones overdriven levels sent
loss_no_error = refl

pub third_error : (ran fresh (set_up ++ (ones 12 ++ (Slot 7 ∷ (ones 12 ++ (Slot 7 ∷ (ones 12 ++ (Slot 7 ∷ [])))))))).core.report.flags.te ≡ true
unfolding ran last_answer set_up ones
third_error = refl

pub given_up : (ran fresh (set_up ++ (ones 12 ++ (Slot 7 ∷ (ones 12 ++ (Slot 7 ∷ (ones 12 ++ (Slot 7 ∷ [])))))))).core.service.channel ≡ 1
unfolding ran last_answer set_up ones
given_up = refl

pub joined : drives (ran fresh (set_up ++ (Write 0x01 0x22 ∷ (ones 12 ++ levels (take 10 (slots sent)))))).core ≡ 1
unfolding ran last_answer set_up ones levels sent drives
joined = refl

pub aborted : get_or (ran fresh (set_up ++ (ones 12 ++ (Slot 0 ∷ Slot 0 ∷ Slot 0 ∷ Write 0x13 0x0C ∷ Slot 7 ∷ [])))).memory 0x13 0 ≡ 0x0E
unfolding ran last_answer set_up ones
aborted = refl

pub lost_in_data : pin (sending_data ++ (ones 12 ++ overdriven_at asking 30)) ≡ 1
unfolding last_answer ran pin sending_data ones overdriven_at asking levels
lost_in_data = refl

pub two_in_a_row : sees (listening ++ (ones 12 ++ (levels (slots asking) ++ (Write 0x1B 0x18 ∷ levels (slots again))))) (0x04 ∷ 0x1B ∷ 0xFF ∷ 0x80 ∷ 0x81 ∷ []) ≡ 0x00 ∷ 0x19 ∷ 0x82 ∷ 0x12 ∷ 0x34 ∷ []
unfolding last_answer ran sees reads listening ones levels asking again
two_in_a_row = refl

pub four_are_enough : pin (set_up ++ (ones 12 ++ (levels (slots sent) ++ ones 4))) ≡ 0
unfolding last_answer ran pin set_up ones levels sent
four_are_enough = refl

pub unmatched_fault : sees (listening ++ (ones 12 ++ (Slot 0 ∷ Slot 7 ∷ []))) (0x07 ∷ 0x09 ∷ 0x1B ∷ []) ≡ 0x02 ∷ 0x80 ∷ 0x18 ∷ []
unfolding last_answer ran sees reads listening ones
unmatched_fault = refl

pub spoilt : sees (listening ++ (ones 12 ++ overdriven_at asking 34)) (0x07 ∷ 0x09 ∷ 0x18 ∷ 0x19 ∷ 0x1A ∷ 0x1B ∷ 0x1E ∷ 0x1F ∷ []) ≡ 0x02 ∷ 0x84 ∷ 0xF2 ∷ 0x39 ∷ 0x7F ∷ 0x1C ∷ 0xFF ∷ 0xF0 ∷ []
unfolding last_answer ran sees reads listening ones overdriven_at asking levels
spoilt = refl

pub waiting : sees (set_up ++ ones 3) (0x04 ∷ 0x05 ∷ []) ≡ 0x02 ∷ 0x00 ∷ []
unfolding last_answer ran sees reads set_up ones
waiting = refl

pub nothing_to_send : sees (Write 0x03 0x10 ∷ ones 14) (0x04 ∷ 0x09 ∷ []) ≡ 0x00 ∷ 0x80 ∷ []
unfolding last_answer ran sees reads ones
nothing_to_send = refl

pub pin_starts : pin (set_up ++ ones 12) ≡ 0
unfolding last_answer ran pin set_up ones
pin_starts = refl

pub pin_inverted : pin (Write 0x00 0x02 ∷ (set_up ++ ones 12)) ≡ 1
unfolding last_answer ran pin set_up ones
pin_inverted = refl

pub cleared : sees (Write 0x0B 0x80 ∷ []) (0x09 ∷ []) ≡ 0x00 ∷ []
unfolding last_answer ran sees reads
cleared = refl

pub own_byte : sees (Write 0x0A 0x1F ∷ []) (0x0A ∷ 0x90 ∷ []) ≡ 0x1F ∷ 0x00 ∷ []
unfolding last_answer ran sees reads
own_byte = refl

pub reset_leaves : sees (Write 0x28 0x52 ∷ Write 0x90 0x55 ∷ Write 0x01 0xF3 ∷ Write 0x03 0x80 ∷ []) (0x01 ∷ 0x0A ∷ 0x28 ∷ 0x90 ∷ []) ≡ 0x02 ∷ 0x80 ∷ 0x52 ∷ 0x55 ∷ []
unfolding last_answer ran sees reads
reset_leaves = refl

pub reads_refused : refuses [] (reads_from 17 0x00) ≡ 0 ∷ 0 ∷ 0 ∷ 4 ∷ 0 ∷ 0 ∷ 0 ∷ 0 ∷ 4 ∷ 0 ∷ 0 ∷ 4 ∷ 4 ∷ 4 ∷ 4 ∷ 4 ∷ 0 ∷ []
unfolding last_answer ran refuses reads_from
reads_refused = refl

pub writes_refused : refuses [] (writes_from 17 0x00 0x02) ≡ 0 ∷ 0 ∷ 0 ∷ 8 ∷ 3 ∷ 3 ∷ 3 ∷ 3 ∷ 3 ∷ 3 ∷ 0 ∷ 0 ∷ 3 ∷ 3 ∷ 3 ∷ 3 ∷ 0 ∷ []
unfolding last_answer ran refuses writes_from
writes_refused = refl

pub fixed_bits : refuses [] (Write 0x01 0x00 ∷ Write 0x01 0x06 ∷ Write 0x01 0x0A ∷ Write 0x03 0x02 ∷ Write 0x03 0x04 ∷ Write 0x01 0xF3 ∷ []) ≡ 8 ∷ 8 ∷ 8 ∷ 8 ∷ 8 ∷ 0 ∷ []
unfolding last_answer ran refuses
fixed_bits = refl

pub asleep : refuses (Write 0x03 0x40 ∷ []) (Read 0x100 ∷ Write 0x100 0x100 ∷ Read 0x04 ∷ Slot 8 ∷ Reset ∷ []) ≡ 7 ∷ 7 ∷ 7 ∷ 5 ∷ 0 ∷ []
unfolding last_answer ran refuses
asleep = refl

pub rxd1 : pin (Write 0x02 0x08 ∷ (set_up ++ replicate 12 (Slot 2))) ≡ 0
unfolding last_answer ran pin set_up
rxd1 = refl

pub rxd2 : pin (Write 0x02 0x04 ∷ (set_up ++ replicate 12 (Slot 4))) ≡ 0
unfolding last_answer ran pin set_up
rxd2 = refl

pub automatic : pin (Write 0x02 0x0C ∷ (set_up ++ ones 12)) ≡ 0
unfolding last_answer ran pin set_up ones
automatic = refl

pub receive_inverted : pin (Write 0x00 0x01 ∷ (set_up ++ replicate 12 (Slot 0))) ≡ 0
unfolding last_answer ran pin set_up
receive_inverted = refl

pub rearbitrated : sees (set_up ++ (ones 3 ++ (Write 0x03 0x08 ∷ []))) (0x04 ∷ 0x13 ∷ []) ≡ 0x00 ∷ 0x08 ∷ []
unfolding last_answer ran sees reads set_up ones
rearbitrated = refl

pub msdc : sees (set_up ++ (ones 3 ++ (Write 0x03 0x01 ∷ []))) (0x04 ∷ 0x13 ∷ []) ≡ 0x0E ∷ 0x08 ∷ []
unfolding last_answer ran sees reads set_up ones
msdc = refl

pub overflow : sees (heard_by (Write 0x1B 0x10 ∷ []) (slots asking)) (0x07 ∷ 0x09 ∷ 0x1B ∷ 0xFF ∷ 0x80 ∷ []) ≡ 0x20 ∷ 0x84 ∷ 0x14 ∷ 0x00 ∷ 0x00 ∷ []
unfolding last_answer ran sees reads heard_by listening ones levels asking
overflow = refl

pub drak : pin (heard_by (Write 0x1A 0xFF ∷ []) (take 71 (slots asking))) ≡ 1
unfolding last_answer ran pin heard_by listening ones levels asking
drak = refl

pub spoilt_beside_chtx : sees (heard_by (Write 0x1B 0x1A ∷ []) (take 34 (slots asking) ++ (0 ∷ []))) (0x07 ∷ 0x09 ∷ 0x1B ∷ []) ≡ 0x02 ∷ 0x84 ∷ 0x1E ∷ []
unfolding last_answer ran sees reads heard_by listening ones levels asking
spoilt_beside_chtx = refl

pub sends_again : sees (offered 0x38 0x09) (0x04 ∷ 0x05 ∷ []) ≡ 0x02 ∷ 0x00 ∷ []
unfolding last_answer ran sees reads offered
sends_again = refl

pub deferred_reply_sent : sees (offered 0x3A 0x09) (0x04 ∷ 0x05 ∷ []) ≡ 0x02 ∷ 0x00 ∷ []
unfolding last_answer ran sees reads offered
deferred_reply_sent = refl

pub longest_sent : sees (offered 0x38 0xF8) (0x04 ∷ 0x05 ∷ []) ≡ 0x02 ∷ 0x00 ∷ []
unfolding last_answer ran sees reads offered
longest_sent = refl

pub no_reply_yet : sees (offered 0x3A 0x08) (0x04 ∷ 0x05 ∷ []) ≡ 0x02 ∷ 0x01 ∷ []
unfolding last_answer ran sees reads offered
no_reply_yet = refl

pub cher_1 : sees (offered 0x38 0x0C) (0x04 ∷ 0x05 ∷ []) ≡ 0x02 ∷ 0x01 ∷ []
unfolding last_answer ran sees reads offered
cher_1 = refl

pub no_request : sees (heard_by [] (slots (framed 3 (0xA5 ∷ [])))) (0x07 ∷ 0x09 ∷ 0x1B ∷ []) ≡ 0x00 ∷ 0x80 ∷ 0x18 ∷ []
unfolding last_answer ran sees reads heard_by listening ones levels framed
no_request = refl

pub sleeping : line_status_of (ran fresh (Write 0x03 0x40 ∷ [])).core ≡ 0x40
unfolding last_answer ran line_status_of
sleeping = refl

pub own_end_spoilt : sees (sending_data ++ (ones 12 ++ overdriven_at asking 72)) (0x05 ∷ 0x07 ∷ 0x09 ∷ []) ≡ 0x10 ∷ 0x02 ∷ 0x80 ∷ []
unfolding last_answer ran sees reads sending_data ones overdriven_at asking levels
own_end_spoilt = refl

pub own_start_spoilt : sees (set_up ++ failures 1) (0x05 ∷ 0x07 ∷ 0x09 ∷ []) ≡ 0x10 ∷ 0x02 ∷ 0x80 ∷ []
unfolding last_answer ran sees reads set_up failures ones
own_start_spoilt = refl

pub own_check_spoilt : sees (sending_data ++ (ones 12 ++ overdriven_at asking 53)) (0x05 ∷ 0x07 ∷ 0x09 ∷ []) ≡ 0x10 ∷ 0x08 ∷ 0x80 ∷ []
unfolding last_answer ran sees reads sending_data ones overdriven_at asking levels
own_check_spoilt = refl

pub own_acknowledge_spoilt : sees (sending_data ++ (ones 12 ++ overdriven_at asking 70)) (0x05 ∷ 0x07 ∷ 0x09 ∷ []) ≡ 0x10 ∷ 0x04 ∷ 0x80 ∷ []
unfolding last_answer ran sees reads sending_data ones overdriven_at asking levels
own_acknowledge_spoilt = refl

pub no_channel_14 : sees (Write 0x13 0x0A ∷ Write 0x1A 0x0E ∷ Write 0x03 0x10 ∷ Slot 7 ∷ []) (0x04 ∷ 0x05 ∷ []) ≡ 0x02 ∷ 0x02 ∷ []
unfolding last_answer ran sees reads
no_channel_14 = refl

pub cher_listens : sees (heard_by (Write 0x1B 0x1C ∷ []) (slots (framed 8 []))) (0x09 ∷ 0x1B ∷ []) ≡ 0x81 ∷ 0x1D ∷ []
unfolding last_answer ran heard_by listening ones levels framed sees reads
cher_listens = refl

pub channel_ext_0 : sees (heard_by (Write 0x19 0x31 ∷ []) (slots (framed 8 []))) (0x09 ∷ 0x19 ∷ 0x1B ∷ []) ≡ 0x81 ∷ 0x31 ∷ 0x19 ∷ []
unfolding last_answer ran heard_by listening ones levels framed sees reads
channel_ext_0 = refl

pub types_sent : types (λ b. either (transmit_message b) (either (deferred_reply b) (request_message b))) ≡ 1 ∷ 1 ∷ 0 ∷ 0 ∷ 0 ∷ 0 ∷ 0 ∷ 0 ∷ 0 ∷ 1 ∷ 0 ∷ 0 ∷ 1 ∷ 0 ∷ 0 ∷ 0 ∷ []
unfolding transmit_message deferred_reply request_message types types_from bit
types_sent = refl

pub types_of_data : types receive_message ≡ 0 ∷ 0 ∷ 0 ∷ 0 ∷ 1 ∷ 0 ∷ 1 ∷ 0 ∷ 0 ∷ 0 ∷ 0 ∷ 0 ∷ 0 ∷ 0 ∷ 0 ∷ 0 ∷ []
unfolding receive_message types types_from bit
types_of_data = refl

pub types_of_requests : types request_detection ≡ 0 ∷ 0 ∷ 0 ∷ 0 ∷ 0 ∷ 0 ∷ 0 ∷ 0 ∷ 0 ∷ 0 ∷ 1 ∷ 0 ∷ 0 ∷ 0 ∷ 0 ∷ 0 ∷ []
unfolding request_detection types types_from bit
types_of_requests = refl

pub types_of_replies : types awaits_reply ≡ 0 ∷ 0 ∷ 0 ∷ 0 ∷ 0 ∷ 0 ∷ 0 ∷ 0 ∷ 0 ∷ 0 ∷ 0 ∷ 0 ∷ 1 ∷ 0 ∷ 1 ∷ 0 ∷ []
unfolding awaits_reply types types_from bit
types_of_replies = refl

pub types_of_repliers : types immediate_reply ≡ 0 ∷ 0 ∷ 0 ∷ 0 ∷ 0 ∷ 0 ∷ 0 ∷ 0 ∷ 1 ∷ 0 ∷ 0 ∷ 0 ∷ 0 ∷ 0 ∷ 0 ∷ 0 ∷ []
unfolding immediate_reply types types_from bit
types_of_repliers = refl

pub link_high_bits : sees (heard_by (Write 0x1A 0x1D ∷ Write 0x1B 0x00 ∷ Write 0x7A 0xA0 ∷ Write 0x7B 0x22 ∷ []) (slots asking)) (0x09 ∷ 0x1B ∷ 0xA0 ∷ 0xA3 ∷ []) ≡ 0x82 ∷ 0x01 ∷ 0x82 ∷ 0x00 ∷ []
unfolding last_answer ran heard_by listening ones levels asking sees reads
link_high_bits = refl

pub linked_drak : pin (heard_by (Write 0x1A 0x1D ∷ Write 0x1B 0x00 ∷ Write 0x7A 0xA0 ∷ Write 0x7B 0x1A ∷ []) (take 71 (slots asking))) ≡ 0
unfolding last_answer ran heard_by listening ones levels asking pin
linked_drak = refl

pub link_to_link : sees (heard_by (Write 0x1A 0x0D ∷ Write 0x1B 0x00 ∷ Write 0x7A 0x0C ∷ Write 0x7B 0x02 ∷ Write 0x72 0x20 ∷ Write 0x73 0x1A ∷ []) (slots asking)) (0x09 ∷ 0x1B ∷ []) ≡ 0x80 ∷ 0x00 ∷ []
unfolding last_answer ran heard_by listening ones levels asking sees reads
link_to_link = refl

pub still_acknowledges : pin (heard_by [] (take 70 (slots asking) ++ (0 ∷ []))) ≡ 0
unfolding last_answer ran heard_by listening ones levels asking pin
still_acknowledges = refl

pub request_before_check : sees (heard_by (Write 0x19 0x3A ∷ Write 0x1B 0x1A ∷ []) (take 43 (slots (framed 11 (0xA5 ∷ []))) ++ (flipped (take 2 (drop 43 (slots (framed 11 (0xA5 ∷ []))))) ++ drop 45 (slots (framed 11 (0xA5 ∷ [])))))) (0x07 ∷ []) ≡ 0x02 ∷ []
unfolding last_answer ran heard_by listening ones levels framed flipped sees reads
request_before_check = refl

pub nibble_68 : sees (heard_by [] (take 30 (slots (framed 8 [])) ++ take 320 (line_code (byte_bits (replicate 32 0xA5))))) (0x04 ∷ 0x07 ∷ 0x09 ∷ 0x1B ∷ []) ≡ 0x00 ∷ 0x02 ∷ 0x84 ∷ 0x1C ∷ []
unfolding last_answer ran heard_by listening ones levels framed sees reads line_code byte_bits bits
nibble_68 = refl

pub values_after_reset : sees (Write 0x00 0xFB ∷ Write 0x02 0xFF ∷ Write 0x01 0xF3 ∷ Write 0x0A 0x1F ∷ Write 0x13 0x1F ∷ Write 0x14 0x55 ∷ Write 0x15 0x55 ∷ Write 0x03 0x80 ∷ []) (0x00 ∷ 0x01 ∷ 0x02 ∷ 0x04 ∷ 0x05 ∷ 0x06 ∷ 0x07 ∷ 0x09 ∷ 0x0A ∷ 0x13 ∷ 0x14 ∷ 0x15 ∷ []) ≡ 0x00 ∷ 0x02 ∷ 0x00 ∷ 0x20 ∷ 0x00 ∷ 0x00 ∷ 0x00 ∷ 0x80 ∷ 0x80 ∷ 0x1F ∷ 0x55 ∷ 0x55 ∷ []
unfolding last_answer ran sees reads
values_after_reset = refl

pub fresh_zero : drop 0x10 fresh.memory ≡ replicate 240 0
unfolding fresh reset_all reset_memory rows_written reset_values read_only
fresh_zero = refl

pub kept_as_written : refuses [] (Write 0x00 0x04 ∷ Write 0x0A 0x60 ∷ Write 0x0B 0x60 ∷ Write 0x14 0x01 ∷ Write 0x15 0x01 ∷ Write 0x17 0x01 ∷ []) ≡ replicate 6 0
unfolding last_answer ran refuses
kept_as_written = refl

pub out_of_range : (last_answer (record { refused = 0; value = 0; next = beyond }) (Read 0x04 ∷ [])).refused ≡ 6
unfolding last_answer beyond
out_of_range = refl

pub largest_values : largest_of (ranges 0x3F fresh.core) ≡ 15 ∷ 13 ∷ 15 ∷ 13 ∷ 32 ∷ 12 ∷ 9 ∷ 67 ∷ 15 ∷ 13 ∷ 127 ∷ 31 ∷ 13 ∷ 30 ∷ 15 ∷ 359 ∷ 15 ∷ 13 ∷ 359 ∷ 30 ∷ 7 ∷ 8 ∷ 511 ∷ 4 ∷ 4 ∷ 4 ∷ []
unfolding largest_of ranges size divider rate
largest_values = refl

pub input_by_two_bits : pin (Write 0x02 0xFB ∷ (set_up ++ replicate 12 (Slot 2))) ≡ 0
unfolding last_answer ran set_up pin
input_by_two_bits = refl

pub inverted_rxd1 : pin (Write 0x00 0x09 ∷ Write 0x02 0x08 ∷ (set_up ++ replicate 12 (Slot 5))) ≡ 0
unfolding last_answer ran set_up pin
inverted_rxd1 = refl

pub ext_0_sent : pin (Write 0x10 0xF2 ∷ Write 0x11 0x30 ∷ Write 0x13 0x08 ∷ Write 0x01 0x23 ∷ Write 0x03 0x10 ∷ (ones 12 ++ levels (take 25 (slots (framed 0 []))))) ≡ 0
unfolding last_answer ran framed ones levels pin
ext_0_sent = refl

pub answered : sees (heard_by (Write 0x19 0x3B ∷ Write 0x01 0x23 ∷ []) (slots (framed 10 (0xA5 ∷ 0x3C ∷ [])))) (0x06 ∷ 0x09 ∷ 0x1B ∷ 0xFF ∷ 0x80 ∷ 0x81 ∷ []) ≡ 0x01 ∷ 0x89 ∷ 0x1B ∷ 0x42 ∷ 0xA5 ∷ 0x3C ∷ []
unfolding last_answer ran heard_by listening ones levels framed sees reads
answered = refl

pub answer_untaken : sees (listening ++ (Write 0x19 0x3B ∷ Write 0x01 0x23 ∷ (ones 12 ++ (levels (take 20 (slots (framed 10 (0xA5 ∷ 0x3C ∷ [])))) ++ (Write 0x1B 0x19 ∷ levels (drop 20 (slots (framed 10 (0xA5 ∷ 0x3C ∷ []))))))))) (0x05 ∷ 0x07 ∷ 0x09 ∷ 0x1B ∷ []) ≡ 0x11 ∷ 0x02 ∷ 0x80 ∷ 0x19 ∷ []
unfolding last_answer ran framed listening ones levels sees reads
answer_untaken = refl

pub unanswered : sees (heard_by (Write 0x19 0x3B ∷ Write 0x01 0x23 ∷ []) (slots (framed 11 []))) (0x06 ∷ 0x09 ∷ 0x1B ∷ []) ≡ 0x01 ∷ 0x88 ∷ 0x1A ∷ []
unfolding last_answer ran heard_by listening ones levels framed sees reads
unanswered = refl

pub request_offered : sees (offered 0x3B 0x08) (0x04 ∷ 0x05 ∷ []) ≡ 0x02 ∷ 0x00 ∷ []
unfolding last_answer ran offered sees reads
request_offered = refl

pub request_in_error : sees (offered 0x3B 0x0C) (0x04 ∷ 0x05 ∷ []) ≡ 0x02 ∷ 0x01 ∷ []
unfolding last_answer ran offered sees reads
request_in_error = refl

pub fulfilled : sees (heard_by (Write 0x19 0x3B ∷ Write 0x01 0x23 ∷ Write 0x1F 0x00 ∷ []) (slots lower)) (0x04 ∷ 0x09 ∷ 0x18 ∷ 0x19 ∷ 0x1B ∷ []) ≡ 0x00 ∷ 0x81 ∷ 0xF2 ∷ 0x0B ∷ 0x19 ∷ []
unfolding last_answer ran heard_by listening ones levels lower sees reads
fulfilled = refl

pub reply_failed : sees (heard_by (Write 0x19 0x3A ∷ Write 0x80 0xA5 ∷ Write 0x81 0x3C ∷ []) (take 31 (slots (framed 10 (0xA5 ∷ 0x3C ∷ []))) ++ (1 ∷ []))) (0x04 ∷ 0x05 ∷ 0x07 ∷ 0x09 ∷ 0x1B ∷ []) ≡ 0x00 ∷ 0x00 ∷ 0x02 ∷ 0x84 ∷ 0x1C ∷ []
unfolding last_answer ran heard_by listening ones levels framed sees reads
reply_failed = refl

pub reply_barred : pin (heard_by (Write 0x19 0x3A ∷ Write 0x1B 0x1A ∷ Write 0x20 0xF2 ∷ Write 0x21 0x3A ∷ Write 0x22 0x10 ∷ Write 0x23 0x18 ∷ Write 0x26 0xFF ∷ Write 0x27 0xF0 ∷ []) (take 28 (slots (framed 11 [])))) ≡ 1
unfolding last_answer ran heard_by listening ones levels framed pin
reply_barred = refl

pub reply_in_error : pin (heard_by (Write 0x19 0x3A ∷ Write 0x1B 0x1C ∷ []) (take 28 (slots (framed 11 [])))) ≡ 1
unfolding last_answer ran heard_by listening ones levels framed pin
reply_in_error = refl

pub reply_not_to_itself : pin (heard_by (Write 0x19 0x3B ∷ Write 0x01 0x23 ∷ Write 0x20 0xF2 ∷ Write 0x21 0x3A ∷ Write 0x22 0x10 ∷ Write 0x23 0x18 ∷ Write 0x26 0xFF ∷ Write 0x27 0xF0 ∷ []) (slots (framed 11 []))) ≡ 1
unfolding last_answer ran heard_by listening ones levels framed pin
reply_not_to_itself = refl

pub reply_as_heard : sees (heard_by (Write 0x19 0x3A ∷ Write 0x80 0xA5 ∷ Write 0x81 0x3C ∷ Write 0x1F 0x00 ∷ []) (slots (record { identifier = 0xF20; command = 14; bytes = 0xA5 ∷ 0x3C ∷ []; acknowledge = true }))) (0x09 ∷ 0x18 ∷ 0x19 ∷ 0x1B ∷ []) ≡ 0x88 ∷ 0xF2 ∷ 0x3A ∷ 0x1B ∷ []
unfolding last_answer ran heard_by listening ones levels framed sees reads
reply_as_heard = refl

pub reply_ends : pin (heard_by (Write 0x19 0x3A ∷ Write 0x80 0xA5 ∷ Write 0x81 0x3C ∷ []) (take 31 (slots (framed 10 (0xA5 ∷ 0x3C ∷ []))) ++ (1 ∷ []))) ≡ 1
unfolding last_answer ran heard_by listening ones levels framed pin
reply_ends = refl

pub reply_not_stored : sees (heard_by (Write 0x19 0x3A ∷ Write 0x80 0xA5 ∷ Write 0x81 0x3C ∷ Write 0x20 0xF2 ∷ Write 0x21 0x3B ∷ Write 0x22 0x10 ∷ Write 0x23 0x1A ∷ Write 0x26 0xFF ∷ Write 0x27 0xF0 ∷ []) (slots (framed 10 (0xA5 ∷ 0x3C ∷ [])))) (0x09 ∷ 0x1B ∷ 0x23 ∷ 0x90 ∷ 0x91 ∷ []) ≡ 0x88 ∷ 0x1B ∷ 0x1A ∷ 0x00 ∷ 0x00 ∷ []
unfolding last_answer ran heard_by listening ones levels framed sees reads
reply_not_stored = refl

pub count_of_thirty : status_byte 0 30 ≡ 30
unfolding status_byte
count_of_thirty = refl

pub setting_of_fifteen : retry_setting 0xF3 ≡ 15
unfolding retry_setting
setting_of_fifteen = refl

pub line_asserted : interrupt_line (ran fresh []) ≡ true
unfolding interrupt_line ran last_answer
line_asserted = refl

pub line_quiet : interrupt_line (ran fresh (Write 0x0B 0x80 ∷ [])) ≡ false
unfolding interrupt_line ran last_answer
line_quiet = refl

pub own_not_stored : sees (listening ++ (set_up ++ (ones 12 ++ levels (slots sent)))) (0x09 ∷ 0x13 ∷ 0x1B ∷ 0xFF ∷ []) ≡ 0x88 ∷ 0x0A ∷ 0x18 ∷ 0x00 ∷ []
unfolding sees reads ran last_answer listening set_up ones levels sent
own_not_stored = refl

pub length_held : sees (listening ++ (room_for 5 ++ (ones 12 ++ (levels (take 60 (slots captured)) ++ (Write 0x1B 0x18 ∷ levels (drop 60 (slots captured))))))) (0x1B ∷ 0xFC ∷ 0xFF ∷ 0x80 ∷ []) ≡ 0x19 ∷ 0x82 ∷ 0x1F ∷ 0xF8 ∷ []
unfolding last_answer ran listening ones levels sees reads captured room_for
length_held = refl

pub request_check_kept : sees (heard_by (Write 0x19 0x3A ∷ Write 0x1B 0x1A ∷ []) (slots (framed 11 []))) (0x1B ∷ 0xFF ∷ 0x80 ∷ 0x81 ∷ 0x82 ∷ []) ≡ 0x1B ∷ 0x60 ∷ 0x26 ∷ 0x34 ∷ 0x00 ∷ []
unfolding last_answer ran heard_by listening ones levels sees reads framed
request_check_kept = refl

pub overflow_leaves_none : drop 0x80 (ran fresh (heard_by (room_for 2) (slots captured))).memory ≡ replicate 128 0
unfolding last_answer ran heard_by listening ones levels captured room_for
overflow_leaves_none = refl

pub cut_data : sees (Write 0x02 0x0C ∷ Slot 2 ∷ Slot 7 ∷ Slot 2 ∷ Slot 7 ∷ []) (0x04 ∷ []) ≡ 0x34 ∷ []
unfolding last_answer ran sees reads
cut_data = refl

pub cut_data_bar : sees (Write 0x02 0x0C ∷ Slot 4 ∷ Slot 7 ∷ Slot 4 ∷ Slot 7 ∷ []) (0x04 ∷ []) ≡ 0x38 ∷ []
unfolding last_answer ran sees reads
cut_data_bar = refl

pub sample_before_edges : (ran fresh (Write 0x02 0x0C ∷ Write 0x03 0x10 ∷ Slot 3 ∷ Write 0x02 0x1C ∷ Slot 7 ∷ Slot 3 ∷ Slot 7 ∷ Slot 3 ∷ [])).core.line.count ≡ 5
unfolding ran last_answer
sample_before_edges = refl

pub sample_after_finding : (ran fresh (Write 0x02 0x0C ∷ Write 0x03 0x10 ∷ Slot 3 ∷ Write 0x02 0x1C ∷ Slot 7 ∷ Slot 3 ∷ Slot 7 ∷ Slot 3 ∷ Slot 3 ∷ [])).core.line.count ≡ 0
unfolding ran last_answer
sample_after_finding = refl

pub divider_changed : sees (Write 0x02 0x0C ∷ Slot 2 ∷ Slot 7 ∷ Slot 2 ∷ Write 0x02 0x1C ∷ Slot 7 ∷ []) (0x04 ∷ []) ≡ 0x30 ∷ []
unfolding last_answer ran sees reads
divider_changed = refl

pub divider_kept : sees (Write 0x02 0x0C ∷ Slot 2 ∷ Slot 7 ∷ Slot 2 ∷ Write 0x02 0x00 ∷ Slot 7 ∷ []) (0x04 ∷ []) ≡ 0x34 ∷ []
unfolding last_answer ran sees reads
divider_kept = refl

pub pulse_with_reset : sees (Write 0x03 0x81 ∷ []) (0x04 ∷ []) ≡ 0x20 ∷ []
unfolding last_answer ran sees reads
pulse_with_reset = refl

pub pulse_with_sleep : line_status_of (ran fresh (Write 0x03 0x41 ∷ [])).core ≡ 0x40
unfolding last_answer ran
pulse_with_sleep = refl

pub asleep_uncounted : (ran fresh (Write 0x03 0x40 ∷ Slot 0 ∷ [])).core.diagnosis.levels ≡ 7
unfolding ran last_answer
asleep_uncounted = refl

pub refused_uncounted : (ran fresh (Slot 8 ∷ [])).core.diagnosis.levels ≡ 7
unfolding ran last_answer
refused_uncounted = refl

pub own_turn : (sees (Write 0x02 0x02 ∷ (set_up ++ (ones 12 ++ (Slot 2 ∷ Slot 2 ∷ Slot 2 ∷ [])))) (0x04 ∷ []) ≡ 0x13 ∷ []) × (sees (Write 0x02 0x02 ∷ (set_up ++ (ones 12 ++ (Slot 2 ∷ Slot 2 ∷ Slot 2 ∷ Slot 2 ∷ [])))) (0x04 ∷ []) ≡ 0x17 ∷ [])
unfolding last_answer ran sees reads set_up ones
own_turn = (refl, refl)

pub no_return : sees (Write 0x03 0x10 ∷ Slot 6 ∷ (ones 12 ++ (Slot 0 ∷ Slot 7 ∷ []))) (0x04 ∷ 0x07 ∷ []) ≡ 0x10 ∷ 0x02 ∷ []
unfolding last_answer ran sees reads ones
no_return = refl

pub inverted_levels : (ran fresh (Write 0x00 0x01 ∷ Slot 2 ∷ [])).core.diagnosis.levels ≡ 5
unfolding ran last_answer
inverted_levels = refl

pub courses : Courses
courses =
    record {
      frame_kept = frame_kept;
      setting_kept = setting_kept;
      loss_counted = loss_counted;
      loss_no_error = loss_no_error;
      third_error = third_error;
      given_up = given_up;
      joined = joined;
      aborted = aborted;
      refused = refused;
      lost_in_data = lost_in_data;
      two_in_a_row = two_in_a_row;
      four_are_enough = four_are_enough;
      unmatched_fault = unmatched_fault;
      spoilt = spoilt;
      waiting = waiting;
      nothing_to_send = nothing_to_send;
      pin_starts = pin_starts;
      pin_inverted = pin_inverted;
      cleared = cleared;
      own_byte = own_byte;
      reset_leaves = reset_leaves;
      reads_refused = reads_refused;
      writes_refused = writes_refused;
      fixed_bits = fixed_bits;
      asleep = asleep;
      rxd1 = rxd1;
      rxd2 = rxd2;
      automatic = automatic;
      receive_inverted = receive_inverted;
      rearbitrated = rearbitrated;
      msdc = msdc;
      overflow = overflow;
      drak = drak;
      spoilt_beside_chtx = spoilt_beside_chtx;
      sends_again = sends_again;
      deferred_reply_sent = deferred_reply_sent;
      longest_sent = longest_sent;
      no_reply_yet = no_reply_yet;
      cher_1 = cher_1;
      no_request = no_request;
      count_of_thirty = count_of_thirty;
      setting_of_fifteen = setting_of_fifteen;
      sleeping = sleeping;
      line_asserted = line_asserted;
      line_quiet = line_quiet;
      own_end_spoilt = own_end_spoilt;
      own_start_spoilt = own_start_spoilt;
      own_check_spoilt = own_check_spoilt;
      own_acknowledge_spoilt = own_acknowledge_spoilt;
      no_channel_14 = no_channel_14;
      cher_listens = cher_listens;
      channel_ext_0 = channel_ext_0;
      types_sent = types_sent;
      types_of_data = types_of_data;
      types_of_requests = types_of_requests;
      types_of_replies = types_of_replies;
      types_of_repliers = types_of_repliers;
      link_high_bits = link_high_bits;
      linked_drak = linked_drak;
      link_to_link = link_to_link;
      still_acknowledges = still_acknowledges;
      request_before_check = request_before_check;
      nibble_68 = nibble_68;
      reset_values = values_after_reset;
      fresh_zero = fresh_zero;
      kept_as_written = kept_as_written;
      out_of_range = out_of_range;
      largest_values = largest_values;
      input_by_two_bits = input_by_two_bits;
      inverted_rxd1 = inverted_rxd1;
      ext_0_sent = ext_0_sent;
      answered = answered;
      answer_untaken = answer_untaken;
      unanswered = unanswered;
      request_offered = request_offered;
      request_in_error = request_in_error;
      fulfilled = fulfilled;
      reply_failed = reply_failed;
      reply_barred = reply_barred;
      reply_in_error = reply_in_error;
      reply_not_to_itself = reply_not_to_itself;
      reply_as_heard = reply_as_heard;
      reply_ends = reply_ends;
      reply_not_stored = reply_not_stored;
      own_not_stored = own_not_stored;
      length_held = length_held;
      request_check_kept = request_check_kept;
      overflow_leaves_none = overflow_leaves_none;
      cut_data = cut_data;
      cut_data_bar = cut_data_bar;
      sample_before_edges = sample_before_edges;
      sample_after_finding = sample_after_finding;
      divider_changed = divider_changed;
      divider_kept = divider_kept;
      pulse_with_reset = pulse_with_reset;
      pulse_with_sleep = pulse_with_sleep;
      asleep_uncounted = asleep_uncounted;
      refused_uncounted = refused_uncounted;
      own_turn = own_turn;
      no_return = no_return;
      inverted_levels = inverted_levels;
    }
