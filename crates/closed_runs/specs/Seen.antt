-- The tally at the end of a closed run.
--   seen_over == the tally once the sample of a run's last event is judged        Counts == its C, errors and slots
use Rattle.diagnosis.specs.Control as dcontrol
use Rattle.diagnosis.specs.Rules as drules
use Rattle.line.specs.Bits as lbits
use Rattle.line.specs.LineCode as llinecode
use Rattle.line.specs.Check as lcheck
use Rattle.line.specs.Frame as lframe
use Rattle.line.specs.Layout as llayout
use Rattle.rules.specs.Definitions.Registers as rregisters
use Rattle.rules.specs.Definitions.Channels as rchannels
use Rattle.rules.specs.Definitions.Mailbox as rmailbox
use Rattle.rules.specs.Definitions.Reception as rreception
use Rattle.rules.specs.Definitions.Hearing as rhearing
use Rattle.rules.specs.Definitions.Delivery as rdelivery
use Rattle.rules.specs.Definitions.Attempt as rattempt
use Rattle.rules.specs.Definitions.Service as rservice
use Rattle.rules.specs.Definitions.State as rstate
use Rattle.rules.specs.Definitions.Slots as rslots
use Rattle.rules.specs.Definitions.Answers as ranswers
use Rattle.rules.specs.Definitions.Host as rhost
use Rattle.rules.specs.Definitions.Run as rrun
use Rattle.every_run.specs.Tally as rtally
use Rattle.every_run.specs.Observer as robserver
use Rattle.std.specs.Prelude.{ℕ, List, [], ◌∷◌, ◌≡◌}
use Rattle.rules.specs.Definitions.Run.{next}
use Rattle.every_run.specs.Tally.{Tally}
use Rattle.every_run.specs.Observer.{Observer, seen_o, next_o}
use Rattle.rules.specs.declared.Controller.{Controller}
use Rattle.rules.specs.declared.Event.{Event}

-- it unfolds every definition of the rules, so that a run computes
unfoldable pub seen_over : Controller → Observer → List Event → Event → Tally
unfolding dcontrol.rate dcontrol.divider dcontrol.selection dcontrol.automatic dcontrol.compares_transmission dcontrol.divider_runs drules.new_period drules.undiagnosed drules.input_level drules.edge drules.differ drules.counted drules.automatic_input drules.connected drules.edges_counted drules.dominant_run drules.watched drules.asynchronous drules.transmission drules.protocol drules.or_else drules.found drules.speaks drules.condition_found drules.is_major drules.noted drules.condition_pulsed drules.renewed drules.pulse drules.turned drules.pulsed drules.completes drules.ticked drules.returns drules.returned drules.judged drules.clocked drules.diagnosed drules.fault_on_data drules.fault_on_data_bar lbits.bits lbits.bits_value_from lbits.bits_value llinecode.line_code llinecode.pattern lcheck.polynomial lcheck.check_bit lcheck.remainder lcheck.all_ones lcheck.check lframe.byte_bits lframe.covered lframe.carried lframe.start lframe.end_of_data lframe.acknowledge_slots lframe.end_of_frame lframe.slots lframe.size llayout.part_of llayout.in_five llayout.half_of llayout.bit_of llayout.coded_level llayout.level_in llayout.level_of rregisters.read_only rregisters.write_only rregisters.reserved rregisters.row_at rregisters.reset_values rregisters.reset_value rregisters.reserved_rows rregisters.reserved_bits rregisters.fixed_bits rregisters.inverts_receive rregisters.inverts_transmit rregisters.retry_setting rregisters.autonomous rregisters.asks_reset rregisters.asks_sleep rregisters.asks_idle rregisters.asks_activation rregisters.asks_rearbitration rregisters.asks_pulse rregisters.reset_report rregisters.bit rregisters.line_status rregisters.retries_byte rregisters.interrupt_status rregisters.unless rregisters.cleared rregisters.asserted rregisters.inverted rregisters.received rregisters.transmitted rchannels.extension rchannels.acknowledge_asked rchannels.reads rchannels.remote rchannels.twelve rchannels.base rchannels.channel_at rchannels.length_of rchannels.cher rchannels.with_cher rchannels.with_chtx rchannels.with_chrx rchannels.drak rchannels.no_buffer rchannels.own_buffer rchannels.linked_buffer rchannels.buffer_of rchannels.status_bits rchannels.receive_message rchannels.request_detection rchannels.transmit_message rchannels.deferred_reply rchannels.request_message rchannels.awaits_reply rchannels.immediate_reply rchannels.matches rchannels.listens rchannels.takes rchannels.nobody rchannels.winner_of rchannels.lowest rchannels.lowest_listening rchannels.won rchannels.winner_for rchannels.asks_to_send rchannels.sendable rchannels.ready rchannels.lowest_ready rchannels.settles_reply rchannels.if_replies rchannels.replier_for rmailbox.mailbox_at rmailbox.status_byte rmailbox.laid_from rmailbox.places_filled rmailbox.stored rmailbox.mailbox_bytes rmailbox.data_in rmailbox.frame_with rmailbox.asks_reply rmailbox.sent_frame rmailbox.reply_frame rmailbox.coded_bytes rmailbox.coded rmailbox.retagged rmailbox.marked_cher rmailbox.marked_chtx rmailbox.marked_chrx rmailbox.rows_written rmailbox.reset_memory rreception.unsettled rreception.after_good rreception.free rreception.takes_start rreception.counted rreception.at_place rreception.quiet rreception.is_under_way rreception.under_way rreception.is_body rreception.in_body rreception.behind rreception.start_ended rreception.command_ended rreception.reads_asked rreception.reply_low rreception.moved rreception.entered rreception.bit_taken rreception.with_nibble rreception.more_nibbles rreception.bits_laid rreception.nibble_taken rreception.data_ended rreception.begun rreception.follow_start rreception.follow_body rreception.follow_acknowledge rreception.follow_end rreception.follow_in rreception.followed rreception.winner_taken rreception.data_count rhearing.line_after rhearing.reception_after rhearing.whole rhearing.reply_request rhearing.check_received rhearing.check_due rhearing.hear_end_of_data rhearing.hear_second_half rhearing.hear_body rhearing.hear_start rhearing.fits rhearing.acknowledges rhearing.acknowledge_wrong rhearing.hear_acknowledge rhearing.hear_end rhearing.hear_in rhearing.hear_frame rhearing.hear_quiet rhearing.ends_well rhearing.acknowledge_level rhearing.receiver_in rhearing.receiver_level rdelivery.delivered rdelivery.delivery_to rdelivery.delivery_of rdelivery.memory_stored rdelivery.memory_delivered rdelivery.receive_error rdelivery.report_stored rdelivery.report_heard rdelivery.report_delivered rattempt.more_slots rattempt.more_attempts rattempt.no_counts rattempt.at_stage rattempt.is_serving rattempt.in_service rattempt.is_between rattempt.between_attempts rattempt.is_waiting rattempt.waits rattempt.is_driving rattempt.drives_frame rattempt.is_answering rattempt.is_answered rattempt.is_request rattempt.sent_slots rattempt.level_at rattempt.due rattempt.open_half rattempt.arbitrated rattempt.in_check rattempt.in_acknowledge rattempt.difference_in rattempt.difference rattempt.judge_slot rattempt.slot_spent rattempt.lost_spent rattempt.error_spent rattempt.advance rattempt.exhausted rservice.role_of rservice.own_frame rservice.resting rservice.stopped rservice.ending_of rservice.settled rservice.memory_ended rservice.retries_of rservice.report_sending rservice.report_judged rservice.report_ended rservice.good_for rservice.answered_as rservice.fulfils rservice.no_reply rservice.judge_reply rservice.reply_moved rservice.replied rservice.memory_replied rservice.report_replied rservice.reply_by rservice.reply_taken rservice.chosen rservice.choice_of rservice.choose rservice.opened rservice.started rservice.abort_asked rservice.rear_asked rservice.aborts rservice.hear_own rstate.is_active rstate.is_asleep rstate.is_idle rstate.in_mode rstate.serving rstate.ranges rstate.within rstate.in_range rstate.reset_core rstate.idled rstate.idle_due rstate.slept rstate.idle_asked rstate.activated rslots.reply_verdict rslots.verdict_as rslots.verdict rslots.reply_after rslots.heard_as rslots.heard rslots.delivers rslots.service_judged rslots.ending rslots.reception_judged rslots.report_after rslots.memory_judged rslots.core_judged rslots.chooses rslots.choice_made rslots.start_made rslots.follows_on rslots.drives_as rslots.drives rslots.levels_of rslots.sample_of rslots.judged_slot rslots.sampled_slot rslots.turns rslots.diagnosis_after rslots.diagnosed_slot rslots.ended rslots.active_slot rslots.resting_slot ranswers.number ranswers.refused_by ranswers.value_of ranswers.lent ranswers.done rhost.reset_all rhost.resets rhost.sleeps rhost.mode_commanded rhost.rear_commanded rhost.kept_byte rhost.flags_cleared rhost.core_written rhost.service_asked rhost.stopped_core rhost.diagnosis_written rhost.byte_written rhost.host_written rhost.line_status_of rhost.status_read rhost.byte_read rhost.access_refusals rhost.write_refusals rhost.read_refusals rhost.interrupt_line rrun.fresh rrun.refuse rrun.accept rrun.unless_refused rrun.first_due rrun.pin_reset rrun.host_write rrun.host_read rrun.answered rrun.rested_slot rrun.slot rrun.step rrun.next rrun.after rtally.no_frame rtally.none rtally.asks_acknowledge rtally.due_level rtally.open_half_t rtally.arbitrated_t rtally.request_t rtally.verdict rtally.replied_as rtally.spent_t rtally.judged_as rtally.counted_in rtally.counted_t rtally.given_up rtally.ended_in rtally.ended_t rtally.chosen_t rtally.choice_t rtally.choose_in rtally.choose_t rtally.start_in rtally.start_t rtally.is_away rtally.asks rtally.asked_in rtally.asked_t robserver.recessive robserver.free_o robserver.starts_o robserver.anew robserver.at_reset robserver.code_t robserver.hears_own robserver.hears_other robserver.hears_apart robserver.fitting robserver.heard_delivery robserver.delivered_apart robserver.delivered_in robserver.is_stored robserver.answer_in robserver.answer_o robserver.pausing robserver.waits robserver.fulfilled_t robserver.is_replying robserver.fulfilled_o robserver.reply_on robserver.reply_from robserver.reply_apart robserver.reply_in robserver.own_in robserver.turns_o robserver.ended_o robserver.diagnosis_o robserver.sample_o robserver.hears_in robserver.hears_o robserver.line_o robserver.sampled_o robserver.idle_o robserver.goes_on_o robserver.activated_o robserver.idle_asked_o robserver.commanded_o robserver.written_o robserver.accepted robserver.seen_in robserver.seen_o robserver.follow_o robserver.next_o
seen_over c o [] e = seen_o c o e
seen_over c o (x ∷ xs) e = seen_over (next c x) (next_o c o x) xs e

abbrev pub Counts : Tally → ℕ → ℕ → ℕ → Type 0
Counts t lost errors slots = (t.lost ≡ lost) × (t.errors ≡ errors) × (t.slots ≡ slots)
