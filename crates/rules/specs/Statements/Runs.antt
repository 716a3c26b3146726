-- Closed runs: what they are made of, here and in crates/closed_runs.
--   ran == the controller after a run
--   sees, pin == what a host reads after a run, and the level at the pin
--   set_up, listening == what the host writes first        ones, levels == slots
use Rattle.diagnosis.specs.Control as dcontrol
use Rattle.diagnosis.specs.Rules as drules
use Rattle.line.specs.Bits as lbits
use Rattle.line.specs.LineCode as llinecode
use Rattle.line.specs.Check as lcheck
use Rattle.line.specs.Frame as lframe
use Rattle.line.specs.Layout as llayout
use Rattle.rules.specs.Definitions.Registers as rregisters
use Rattle.rules.specs.Definitions.Channels as rchannels
use Rattle.rules.specs.Definitions.Mailbox as rmailbox
use Rattle.rules.specs.Definitions.Reception as rreception
use Rattle.rules.specs.Definitions.Hearing as rhearing
use Rattle.rules.specs.Definitions.Delivery as rdelivery
use Rattle.rules.specs.Definitions.Attempt as rattempt
use Rattle.rules.specs.Definitions.Service as rservice
use Rattle.rules.specs.Definitions.State as rstate
use Rattle.rules.specs.Definitions.Slots as rslots
use Rattle.rules.specs.Definitions.Answers as ranswers
use Rattle.rules.specs.Definitions.Host as rhost
use Rattle.rules.specs.Definitions.Run as rrun
use Rattle.std.specs.Prelude.{ℕ, zero, suc, ◌-◌, ◌*◌, Bool, true, false, List, [], ◌∷◌, ◌++◌, ◌≡◌, get_or, replicate, take}
use Rattle.line.specs.Frame.{Frame, slots}
use Rattle.rules.specs.Definitions.Setters.{with_line}
use Rattle.rules.specs.Definitions.Registers.{bit}
use Rattle.rules.specs.Definitions.Run.{fresh, step}
use Rattle.rules.specs.declared.Controller.{Controller}
use Rattle.rules.specs.declared.Answer.{Answer}
use Rattle.rules.specs.declared.Event.{Event}
use Rattle.rules.specs.declared.Event.TheVariants.{Write, Read, Slot}

-- channel 0: tag 0xF23, EXT, no data, RAK 0; R = 2, MT 1; active
unfoldable pub set_up : List Event
set_up = Write 0x10 0xF2 ∷ Write 0x11 0x38 ∷ Write 0x13 0x08 ∷ Write 0x01 0x23 ∷ Write 0x03 0x10 ∷ []

-- slots with the same level on all three inputs: 7 where it is recessive
unfoldable pub ones : ℕ → List Event
ones n = replicate n (Slot 7)

-- channel 0's frame: its slots
unfoldable pub sent : Frame
sent = record { identifier = 0xF23; command = 8; bytes = []; acknowledge = false }

unfoldable pub levels : List ℕ → List Event
levels [] = []
levels (v ∷ vs) = Slot (7 * v) ∷ levels vs

-- the frame sampled as it is driven, but for its last slot
unfoldable pub echoed : List Event
echoed = levels (take 59 (slots sent))

-- recessive driven in the identifier's first slot, dominant sampled; four more dominant slots end the other module's frame in a fault
unfoldable pub overdriven : List Event
overdriven = levels (take 10 (slots sent)) ++ (Slot 0 ∷ Slot 0 ∷ Slot 0 ∷ Slot 0 ∷ Slot 0 ∷ [])

-- the answer to the last event of a list; it unfolds every definition of the rules, so that a run computes
unfoldable pub last_answer : Answer → List Event → Answer
unfolding dcontrol.rate dcontrol.divider dcontrol.selection dcontrol.automatic dcontrol.compares_transmission dcontrol.divider_runs drules.new_period drules.undiagnosed drules.input_level drules.edge drules.differ drules.counted drules.automatic_input drules.connected drules.edges_counted drules.dominant_run drules.watched drules.asynchronous drules.transmission drules.protocol drules.or_else drules.found drules.speaks drules.condition_found drules.is_major drules.noted drules.condition_pulsed drules.renewed drules.pulse drules.turned drules.pulsed drules.completes drules.ticked drules.returns drules.returned drules.judged drules.clocked drules.diagnosed drules.fault_on_data drules.fault_on_data_bar lbits.bits lbits.bits_value_from lbits.bits_value llinecode.line_code llinecode.pattern lcheck.polynomial lcheck.check_bit lcheck.remainder lcheck.all_ones lcheck.check lframe.byte_bits lframe.covered lframe.carried lframe.start lframe.end_of_data lframe.acknowledge_slots lframe.end_of_frame lframe.slots lframe.size llayout.part_of llayout.in_five llayout.half_of llayout.bit_of llayout.coded_level llayout.level_in llayout.level_of rregisters.read_only rregisters.write_only rregisters.reserved rregisters.row_at rregisters.reset_values rregisters.reset_value rregisters.reserved_rows rregisters.reserved_bits rregisters.fixed_bits rregisters.inverts_receive rregisters.inverts_transmit rregisters.retry_setting rregisters.autonomous rregisters.asks_reset rregisters.asks_sleep rregisters.asks_idle rregisters.asks_activation rregisters.asks_rearbitration rregisters.asks_pulse rregisters.reset_report rregisters.bit rregisters.line_status rregisters.retries_byte rregisters.interrupt_status rregisters.unless rregisters.cleared rregisters.asserted rregisters.inverted rregisters.received rregisters.transmitted rchannels.extension rchannels.acknowledge_asked rchannels.reads rchannels.remote rchannels.twelve rchannels.base rchannels.channel_at rchannels.length_of rchannels.cher rchannels.with_cher rchannels.with_chtx rchannels.with_chrx rchannels.drak rchannels.no_buffer rchannels.own_buffer rchannels.linked_buffer rchannels.buffer_of rchannels.status_bits rchannels.receive_message rchannels.request_detection rchannels.transmit_message rchannels.deferred_reply rchannels.request_message rchannels.awaits_reply rchannels.immediate_reply rchannels.matches rchannels.listens rchannels.takes rchannels.nobody rchannels.winner_of rchannels.lowest rchannels.lowest_listening rchannels.won rchannels.winner_for rchannels.asks_to_send rchannels.sendable rchannels.ready rchannels.lowest_ready rchannels.settles_reply rchannels.if_replies rchannels.replier_for rmailbox.mailbox_at rmailbox.status_byte rmailbox.laid_from rmailbox.places_filled rmailbox.stored rmailbox.mailbox_bytes rmailbox.data_in rmailbox.frame_with rmailbox.asks_reply rmailbox.sent_frame rmailbox.reply_frame rmailbox.coded_bytes rmailbox.coded rmailbox.retagged rmailbox.marked_cher rmailbox.marked_chtx rmailbox.marked_chrx rmailbox.rows_written rmailbox.reset_memory rreception.unsettled rreception.after_good rreception.free rreception.takes_start rreception.counted rreception.at_place rreception.quiet rreception.is_under_way rreception.under_way rreception.is_body rreception.in_body rreception.behind rreception.start_ended rreception.command_ended rreception.reads_asked rreception.reply_low rreception.moved rreception.entered rreception.bit_taken rreception.with_nibble rreception.more_nibbles rreception.bits_laid rreception.nibble_taken rreception.data_ended rreception.begun rreception.follow_start rreception.follow_body rreception.follow_acknowledge rreception.follow_end rreception.follow_in rreception.followed rreception.winner_taken rreception.data_count rhearing.line_after rhearing.reception_after rhearing.whole rhearing.reply_request rhearing.check_received rhearing.check_due rhearing.hear_end_of_data rhearing.hear_second_half rhearing.hear_body rhearing.hear_start rhearing.fits rhearing.acknowledges rhearing.acknowledge_wrong rhearing.hear_acknowledge rhearing.hear_end rhearing.hear_in rhearing.hear_frame rhearing.hear_quiet rhearing.ends_well rhearing.acknowledge_level rhearing.receiver_in rhearing.receiver_level rdelivery.delivered rdelivery.delivery_to rdelivery.delivery_of rdelivery.memory_stored rdelivery.memory_delivered rdelivery.receive_error rdelivery.report_stored rdelivery.report_heard rdelivery.report_delivered rattempt.more_slots rattempt.more_attempts rattempt.no_counts rattempt.at_stage rattempt.is_serving rattempt.in_service rattempt.is_between rattempt.between_attempts rattempt.is_waiting rattempt.waits rattempt.is_driving rattempt.drives_frame rattempt.is_answering rattempt.is_answered rattempt.is_request rattempt.sent_slots rattempt.level_at rattempt.due rattempt.open_half rattempt.arbitrated rattempt.in_check rattempt.in_acknowledge rattempt.difference_in rattempt.difference rattempt.judge_slot rattempt.slot_spent rattempt.lost_spent rattempt.error_spent rattempt.advance rattempt.exhausted rservice.role_of rservice.own_frame rservice.resting rservice.stopped rservice.ending_of rservice.settled rservice.memory_ended rservice.retries_of rservice.report_sending rservice.report_judged rservice.report_ended rservice.good_for rservice.answered_as rservice.fulfils rservice.no_reply rservice.judge_reply rservice.reply_moved rservice.replied rservice.memory_replied rservice.report_replied rservice.reply_by rservice.reply_taken rservice.chosen rservice.choice_of rservice.choose rservice.opened rservice.started rservice.abort_asked rservice.rear_asked rservice.aborts rservice.hear_own rstate.is_active rstate.is_asleep rstate.is_idle rstate.in_mode rstate.serving rstate.ranges rstate.within rstate.in_range rstate.reset_core rstate.idled rstate.idle_due rstate.slept rstate.idle_asked rstate.activated rslots.reply_verdict rslots.verdict_as rslots.verdict rslots.reply_after rslots.heard_as rslots.heard rslots.delivers rslots.service_judged rslots.ending rslots.reception_judged rslots.report_after rslots.memory_judged rslots.core_judged rslots.chooses rslots.choice_made rslots.start_made rslots.follows_on rslots.drives_as rslots.drives rslots.levels_of rslots.sample_of rslots.judged_slot rslots.sampled_slot rslots.turns rslots.diagnosis_after rslots.diagnosed_slot rslots.ended rslots.active_slot rslots.resting_slot ranswers.number ranswers.refused_by ranswers.value_of ranswers.lent ranswers.done rhost.reset_all rhost.resets rhost.sleeps rhost.mode_commanded rhost.rear_commanded rhost.kept_byte rhost.flags_cleared rhost.core_written rhost.service_asked rhost.stopped_core rhost.diagnosis_written rhost.byte_written rhost.host_written rhost.line_status_of rhost.status_read rhost.byte_read rhost.access_refusals rhost.write_refusals rhost.read_refusals rhost.interrupt_line rrun.fresh rrun.refuse rrun.accept rrun.unless_refused rrun.first_due rrun.pin_reset rrun.host_write rrun.host_read rrun.answered rrun.rested_slot rrun.slot rrun.step rrun.next rrun.after
last_answer a [] = a
last_answer a (x ∷ xs) = last_answer (step a.next x) xs

unfoldable pub ran : Controller → List Event → Controller
ran c es = (last_answer (record { refused = 0; value = 0; next = c }) es).next

-- from a fresh controller: what a host then reads at some addresses, and the level that the last slot answered
unfoldable pub reads : Controller → List ℕ → List ℕ
reads c [] = []
reads c (a ∷ addresses) = (last_answer (record { refused = 0; value = 0; next = c }) (Read a ∷ [])).value ∷ reads c addresses

unfoldable pub sees : List Event → List ℕ → List ℕ
sees es addresses = reads (ran fresh es) addresses

unfoldable pub pin : List Event → ℕ
pin es = (last_answer (record { refused = 0; value = 0; next = fresh }) es).value

-- channel 1 listens: tag 0xF23, mask all ones, pointer 0x7F, M_L 3; active
unfoldable pub listening : List Event
listening = Write 0x18 0xF2 ∷ Write 0x19 0x39 ∷ Write 0x1A 0x7F ∷ Write 0x1B 0x18 ∷ Write 0x1E 0xFF ∷ Write 0x1F 0xF0 ∷ Write 0x03 0x10 ∷ []

-- a frame that asks for an acknowledge and gets it
unfoldable pub asking : Frame
asking = record { identifier = 0xF23; command = 12; bytes = 0xA5 ∷ 0x3C ∷ []; acknowledge = true }

-- behind the last slot the status byte stands at 0xFF, the data from 0x80 on, nothing behind them, and CHRx is set
abbrev pub Stored : List ℕ → Type 0
Stored m = (get_or m 0xFF 0 ≡ 0x82) × (get_or m 0x80 0 ≡ 0xA5) × (get_or m 0x81 0 ≡ 0x3C) × (get_or m 0x82 0 ≡ 0) × (get_or m 0x1B 0 ≡ 0x19)

-- the same identifier, other data
unfoldable pub again : Frame
again = record { identifier = 0xF23; command = 12; bytes = 0x12 ∷ 0x34 ∷ []; acknowledge = true }

-- channel 0 sends the frame `asking`: data at 0xFF and 0x80, RAK 1; R = 2, MT 1; active
unfoldable pub sending_data : List Event
sending_data =
    Write 0x10 0xF2 ∷ Write 0x11 0x3C ∷ Write 0x12 0x7E ∷ Write 0x13 0x18 ∷ Write 0xFF 0xA5 ∷ Write 0x80 0x3C ∷ Write 0x01 0x23 ∷ Write 0x03 0x10 ∷ []

-- n attempts on a free line, each failing in its first slot
unfoldable pub failures : ℕ → List Event
failures zero = []
failures (suc n) = ones 12 ++ (Slot 7 ∷ failures n)

-- the first k slots of a frame as they are driven, and then a dominant one
unfoldable pub overdriven_at : Frame → ℕ → List Event
overdriven_at f k = levels (take k (slots f)) ++ (Slot 0 ∷ [])

-- from a fresh controller: after a run, the number with which each of some events is refused, 0 for one that is accepted
unfoldable pub refuses : List Event → List Event → List ℕ
refuses es [] = []
refuses es (x ∷ xs) = (last_answer (record { refused = 0; value = 0; next = ran fresh es }) (x ∷ [])).refused ∷ refuses es xs

-- a read, and a write of one value, at each of n addresses from a on
unfoldable pub reads_from : ℕ → ℕ → List Event
reads_from zero a = []
reads_from (suc n) a = Read a ∷ reads_from n (suc a)

unfoldable pub writes_from : ℕ → ℕ → ℕ → List Event
writes_from zero a v = []
writes_from (suc n) a v = Write a v ∷ writes_from n (suc a) v

-- identifier 0xF23 with a command and data, and no acknowledge
unfoldable pub framed : ℕ → List ℕ → Frame
framed command bytes = record { identifier = 0xF23; command = command; bytes = bytes; acknowledge = false }

-- channel 1 listens, with some of its bytes written anew; then a free line, and some levels
unfoldable pub heard_by : List Event → List ℕ → List Event
heard_by writes vs = listening ++ (writes ++ (ones 12 ++ levels vs))

-- channel 0 with a command byte and a status byte; active, one slot
unfoldable pub offered : ℕ → ℕ → List Event
offered low status = Write 0x11 low ∷ Write 0x13 status ∷ Write 0x03 0x10 ∷ Slot 7 ∷ []

-- whether each of the values 0 to 15 of RNW, RTR, CHTx and CHRx is of a type
unfoldable pub types_from : (ℕ → Bool) → ℕ → ℕ → List ℕ
types_from is zero bits = []
types_from is (suc n) bits = bit (is bits) ∷ types_from is n (suc bits)

unfoldable pub types : (ℕ → Bool) → List ℕ
types is = types_from is 16 0

-- opposite levels
unfoldable pub flipped : List ℕ → List ℕ
flipped [] = []
flipped (v ∷ vs) = (1 - v) ∷ flipped vs

-- a state that no run reaches: thirteen recessive slots counted
unfoldable pub beyond : Controller
beyond = record { memory = fresh.memory; core = with_line fresh.core (record { good = false; count = 13 }) }

unfoldable pub largest_of : List (ℕ × ℕ) → List ℕ
largest_of [] = []
largest_of (r ∷ rs) = r.1 ∷ largest_of rs

-- a lower identifier, R/W 1 and RTR 0: what a module sends that replies later
unfoldable pub lower : Frame
lower = record { identifier = 0xF20; command = 10; bytes = 0xA5 ∷ 0x3C ∷ []; acknowledge = false }

-- a frame captured on a real bus, with its acknowledge; its check, followed by a zero bit, is 1F F8
unfoldable pub captured : Frame
captured = record { identifier = 0x5E4; command = 12; bytes = 0x00 ∷ 0xFF ∷ []; acknowledge = true }

-- channel 1 takes it, from 0xFC on, with so long an M_L
unfoldable pub room_for : ℕ → List Event
room_for length = Write 0x18 0x5E ∷ Write 0x19 0x49 ∷ Write 0x1A 0x7C ∷ Write 0x1B (8 * length) ∷ []
