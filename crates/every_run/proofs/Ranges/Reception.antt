-- What a sample does to the frame under way, the line, the registers and the memory map of a fine state.
--   Received == the frame under way between events: judged_received        line_small == the line
--   Heard == what a sample may be for the line: frame_heard, quiet_heard        heard_report, delivered_report, delivered_below == registers and memory map
use Prim.Native.Nat.{ℕ, ◌+◌, ◌/◌, ◌%◌, ◌≤◌, ◌<◌}
use mathlib.Core.List.{List}
use native.Mathlib.Omega.{arith}
use borrow.Author.Tests.{ltb-true, eqb-true}
use lib.Dec.{eqb, ltb}
use lib.ListN.{get_or}
use Rattle.line.specs.Bits.{Below}
use Rattle.line.specs.Frame.{start}
use Rattle.line.proofs.Laws.{picked}
use Rattle.rules.specs.Definitions.Registers.{both, FV, CV, FCSE}
use Rattle.rules.specs.Definitions.Channels.{acknowledge_asked}
use Rattle.rules.specs.Definitions.Reception.{unsettled, after_good, takes_start, counted, quiet, begun, at_place, moved, entered, bit_taken, more_nibbles, bits_laid, data_ended, nibble_taken, follow_start, follow_body, follow_acknowledge, follow_end, follow_in, followed, command_ended, winner_taken, data_count}
use Rattle.every_run.proofs.Ranges.Limits.{ReceptionLimits, ReportLimits}
use Rattle.every_run.proofs.Receiving.Rows.{nibble_below}
use Rattle.every_run.proofs.Ranges.Bytes.{at_below, zeros_below, stored_below, retagged_below, cher_below, chrx_below, nobody_limits, winner_limits}
use Rattle.rules.specs.Definitions.Hearing.{line_after, reception_after, whole, reply_request, check_received, check_due, hear_end_of_data, hear_second_half, hear_body, hear_start, acknowledges, acknowledge_wrong, hear_acknowledge, hear_end, hear_in, hear_frame, hear_quiet}
use Rattle.rules.specs.Definitions.Delivery.{memory_stored, memory_delivered, receive_error, report_stored, report_heard, report_delivered}
use Rattle.rules.specs.Definitions.Longest.{capacity, most_nibbles}
use Rattle.rules.specs.Definitions.Slots.{reception_judged}
use Rattle.rules.specs.declared.Report.{Report}
use Rattle.rules.specs.declared.Line.{Line}
use Rattle.rules.specs.declared.Phase.{Phase}
use Rattle.rules.specs.declared.Phase.TheVariants.{Quiet, Start, Body, Acknowledge, End}
use Rattle.rules.specs.declared.Reception.{Reception}
use Rattle.rules.specs.declared.Hearing.{Hearing}
use Rattle.rules.specs.declared.Hearing.TheVariants.{Silent, Follows, Fault, Good}
use Rattle.rules.specs.declared.Delivery.{Delivery}
use Rattle.rules.specs.declared.Delivery.TheVariants.{Nothing, Stored, Overflowed, Spoiled}

-- ---- the frame under way

pub record Received (r : Reception) : Type 0 where
  pub limits : ReceptionLimits r
  pub bytes : Below 256 r.bytes

pub quiet_received : Received quiet
unfolding quiet at_place
quiet_received =
    record {
      limits = record { at = omega arith; nibbles = omega arith; bits = omega arith; winner = nobody_limits };
      bytes = zeros_below (capacity + 4);
    }

begun_received : Received begun
unfolding begun at_place
begun_received =
    let q = quiet_received in
    record { limits = record { at = omega arith; nibbles = q.limits.nibbles; bits = omega arith; winner = q.limits.winner }; bytes = q.bytes }

moved_received : (r : Reception) → Received r → r.place.at < 9 → Received (moved r)
unfolding moved at_place
moved_received r f h =
    record { limits = record { at = omega arith; nibbles = f.limits.nibbles; bits = f.limits.bits; winner = f.limits.winner }; bytes = f.bytes }

entered_received : (r : Reception) (p : Phase) → Received r → Received (entered r p)
unfolding entered at_place
entered_received r p f =
    record { limits = record { at = omega arith; nibbles = f.limits.nibbles; bits = omega arith; winner = f.limits.winner }; bytes = f.bytes }

bit_received : (r : Reception) (v : ℕ) → Received r → r.place.at < 9 → Received (bit_taken r v)
unfolding bit_taken moved at_place
bit_received r v f h =
    record { limits = record { at = omega arith; nibbles = f.limits.nibbles; bits = omega arith; winner = f.limits.winner }; bytes = f.bytes }

ended_received : (r : Reception) → Received r → Received (data_ended r)
unfolding data_ended bits_laid entered at_place
ended_received r f =
    record {
      limits = record { at = omega arith; nibbles = f.limits.nibbles; bits = omega arith; winner = f.limits.winner };
      bytes = nibble_below f.bytes r.nibbles r.bits;
    }

nibbles_most : (n : ℕ) → more_nibbles n ≤ most_nibbles capacity
unfolding more_nibbles
nibbles_most n = picked (λ x. x ≤ most_nibbles capacity) (ltb n (most_nibbles capacity)) (n + 1) (most_nibbles capacity) (λ e. omega (arith, ltb-true)) (λ e. omega arith)

nibble_received : (r : Reception) → Received r → Received (nibble_taken r)
unfolding nibble_taken bits_laid entered at_place
nibble_received r f =
    record {
      limits = record { at = omega arith; nibbles = nibbles_most r.nibbles; bits = omega arith; winner = f.limits.winner };
      bytes = nibble_below f.bytes r.nibbles r.bits;
    }

follow_received : (p : Phase) (r : Reception) (v : ℕ) → Received r → Received (follow_in p r v)
unfolding follow_in follow_start follow_body follow_acknowledge follow_end
follow_received Quiet r v f = begun_received
follow_received Start r v f =
    picked Received (ltb r.place.at 9) (moved r) (entered r Body) (λ e. moved_received r f (omega (arith, ltb-true))) (λ e. entered_received r Body f)
follow_received Body r v f =
    picked Received (ltb r.place.at 4) (bit_taken r v) _ (λ e. bit_received r v f (omega (arith, ltb-true)))
    (λ e. picked Received (eqb v (r.bits % 2)) (data_ended r) (nibble_taken r) (λ d. ended_received r f) (λ d. nibble_received r f))
follow_received Acknowledge r v f =
    picked Received (eqb r.place.at 0) (bit_taken r v) (entered r End) (λ e. bit_received r v f (omega (arith, eqb-true))) (λ e. entered_received r End f)
follow_received End r v f =
    picked Received (ltb r.place.at 7) (moved r) r (λ e. moved_received r f (omega (arith, ltb-true))) (λ e. f)

followed_received : (r : Reception) (v : ℕ) → Received r → Received (followed r v)
unfolding followed
followed_received r v f = follow_received r.place.phase r v f

named_received : (r : Reception) {m : List ℕ} → Below 256 m → Received r → Received (winner_taken r m)
unfolding winner_taken
named_received r b f =
    record {
      limits = record { at = f.limits.at; nibbles = f.limits.nibbles; bits = f.limits.bits; winner = winner_limits b _ _ };
      bytes = f.bytes;
    }

after_received : (h : Hearing) (r : Reception) (v : ℕ) → Received r → Received (reception_after h r v)
unfolding reception_after
after_received Silent r v f = f
after_received Follows r v f = followed_received r v f
after_received (Fault code) r v f = quiet_received
after_received Good r v f = quiet_received

pub judged_received : {m : List ℕ} → Below 256 m → (h : Hearing) (r : Reception) (v : ℕ) → Received r → Received (reception_judged m h r v)
unfolding reception_judged
judged_received {m} b h r v f =
    let a = after_received h r v f in
    picked Received (command_ended (reception_after h r v)) (winner_taken (reception_after h r v) m) (reception_after h r v) (λ e. named_received _ b a) (λ e. a)

-- ---- the line

counted_small : (l : Line) (v : ℕ) → l.count ≤ 12 → (counted l v).count ≤ 12
unfolding counted
counted_small l v h =
    picked (λ (x : Line). x.count ≤ 12) (eqb v 0) (record { good = l.good; count = 0 }) _ (λ e. omega arith)
    (λ e. picked (λ (x : Line). x.count ≤ 12) (ltb l.count 12) (record { good = l.good; count = l.count + 1 }) l (λ d. omega (arith, ltb-true)) (λ d. h))

pub line_small : (h : Hearing) (l : Line) (v : ℕ) → l.count ≤ 12 → (line_after h l v).count ≤ 12
unfolding line_after unsettled after_good
line_small Silent l v h = counted_small l v h
line_small Follows l v h = h
line_small (Fault code) l v h = omega arith
line_small Good l v h = omega arith

-- ---- what the receiver hears: the code of a fault fits the register

pub data Heard : Hearing → Type 0 where
  silent : Heard Silent
  follows : Heard Follows
  fault : (code : ℕ) → code ≤ 32 → Heard (Fault code)
  good : Heard Good

violation : Heard (Fault CV)
violation = fault CV (omega arith)

end_of_data_heard : (r : Reception) (longest : ℕ) → Heard (hear_end_of_data r longest)
unfolding hear_end_of_data
end_of_data_heard r longest =
    picked Heard (whole r.nibbles longest) _ (Fault CV)
    (λ e. picked Heard (both (reply_request (get_or r.bytes 1 0)) (ltb 0 (data_count r.nibbles))) (Fault CV) _ (λ d. violation)
    (λ d. picked Heard (eqb (check_received r.bytes (data_count r.nibbles) (r.bits / 2)) (check_due r.bytes (data_count r.nibbles))) Follows (Fault FCSE)
    (λ g. follows) (λ g. fault FCSE (omega arith))))
    (λ e. violation)

second_half_heard : (r : Reception) (longest v : ℕ) → Heard (hear_second_half r longest v)
unfolding hear_second_half
second_half_heard r longest v =
    picked Heard (eqb v (r.bits % 2)) _ _
    (λ e. picked Heard (eqb v 0) (hear_end_of_data r longest) (Fault CV) (λ d. end_of_data_heard r longest) (λ d. violation))
    (λ e. picked Heard (ltb r.nibbles (most_nibbles longest)) Follows (Fault CV) (λ d. follows) (λ d. violation))

in_heard : (p : Phase) (r : Reception) (longest v : ℕ) → Heard (hear_in p r longest v)
unfolding hear_in hear_start hear_body hear_acknowledge hear_end
in_heard Quiet r longest v = silent
in_heard Start r longest v = picked Heard (eqb v (get_or start r.place.at 1)) Follows (Fault CV) (λ e. follows) (λ e. violation)
in_heard Body r longest v = picked Heard (ltb r.place.at 4) Follows _ (λ e. follows) (λ e. second_half_heard r longest v)
in_heard Acknowledge r longest v =
    picked Heard (eqb r.place.at 0) Follows _ (λ e. follows)
    (λ e. picked Heard (acknowledge_wrong (acknowledge_asked (get_or r.bytes 1 0)) (acknowledges r) (r.bits % 2) v) (Fault FV) Follows (λ d. fault FV (omega arith)) (λ d. follows))
in_heard End r longest v =
    picked Heard (eqb v 0) (Fault CV) _ (λ e. violation) (λ e. picked Heard (ltb r.place.at 7) Follows Good (λ d. follows) (λ d. good))

pub frame_heard : (r : Reception) (longest v : ℕ) → Heard (hear_frame r longest v)
unfolding hear_frame
frame_heard r longest v = in_heard r.place.phase r longest v

pub quiet_heard : (l : Line) (v : ℕ) → Heard (hear_quiet l v)
unfolding hear_quiet
quiet_heard l v = picked Heard (eqb v 0) _ Silent (λ e. picked Heard (takes_start l) Follows Silent (λ d. follows) (λ d. silent)) (λ e. silent)

-- ---- the registers

pub heard_report : {h : Hearing} → Heard h → (x : Report) → ReportLimits x → ReportLimits (report_heard h x)
unfolding report_heard
heard_report silent x l = l
heard_report follows x l = l
heard_report (fault code h) x l = record { sending = l.sending; message = l.message; error = h }
heard_report good x l = l

pub delivered_report : (d : Delivery) (x : Report) (r : Reception) → ReportLimits x → Received r → ReportLimits (report_delivered d x r)
unfolding report_delivered report_stored receive_error
delivered_report Nothing x r l f = l
delivered_report Stored x r l f =
    record { sending = l.sending; message = record { count = omega arith; channel = f.limits.winner.channel }; error = l.error }
delivered_report Overflowed x r l f = record { sending = l.sending; message = l.message; error = omega arith }
delivered_report Spoiled x r l f = record { sending = l.sending; message = l.message; error = l.error }

-- ---- the memory map

pub delivered_below : (d : Delivery) {m : List ℕ} → Below 256 m → (r : Reception) → Received r → Below 256 (memory_delivered d m r)
unfolding memory_delivered memory_stored
delivered_below Nothing b r f = b
delivered_below Stored b r f =
    chrx_below
    (retagged_below (stored_below b f.bytes r.winner.pointer r.winner.length (data_count r.nibbles)) r.winner.channel _ _ (at_below f.bytes 0) (at_below f.bytes 1))
    r.winner.channel
delivered_below Overflowed b r f = cher_below b r.winner.channel
delivered_below Spoiled b r f = cher_below b r.winner.channel
