-- What another module's frame does to the channel that takes it, and to the registers (01, Receiving; 02, Req 04).
--   delivery_of == what it does        memory_delivered, report_heard, report_delivered == memory map and registers after it
use Rattle.std.specs.Prelude.{ℕ, Bool, true, List, get_or}
use Rattle.line.specs.Bits.{pick}
use Rattle.rules.specs.Definitions.Setters.{with_re, with_rok, with_rnok, with_message, with_error, with_flags}
use Rattle.rules.specs.Definitions.Registers.{BOV}
use Rattle.rules.specs.Definitions.Channels.{acknowledge_asked}
use Rattle.rules.specs.Definitions.Mailbox.{stored, retagged, marked_cher, marked_chrx}
use Rattle.rules.specs.Definitions.Reception.{data_count}
use Rattle.rules.specs.Definitions.Hearing.{fits}
use Rattle.rules.specs.declared.Report.{Report}
use Rattle.rules.specs.declared.Reception.{Reception}
use Rattle.rules.specs.declared.Hearing.{Hearing}
use Rattle.rules.specs.declared.Hearing.TheVariants.{Silent, Follows, Fault, Good}
use Rattle.rules.specs.declared.Delivery.{Delivery}
use Rattle.rules.specs.declared.Delivery.TheVariants.{Nothing, Stored, Overflowed, Spoiled}

-- "a valid, fitting frame" is stored; "If it is otherwise valid but doesn't fit": overflow
unfoldable pub delivered : Reception → Delivery
delivered r = pick (fits r.winner (data_count r.nibbles)) Stored Overflowed

-- to the channel that has matched
unfoldable pub delivery_to : Hearing → Reception → Delivery
delivery_to Silent r = Nothing
delivery_to Follows r = Nothing
delivery_to (Fault code) r = Spoiled
delivery_to Good r = delivered r

-- "CHER and RE only once a channel has matched"
unfoldable pub delivery_of : Hearing → Reception → Delivery
delivery_of h r = pick r.winner.matched (delivery_to h r) Nothing

-- ---- the memory map

-- status byte, data and, where M_L leaves two places, the check to the mailbox, the identifier to the tag, CHRx
unfoldable pub memory_stored : List ℕ → Reception → List ℕ
memory_stored m r =
    marked_chrx
    (retagged (stored m r.winner.pointer r.winner.length r.bytes (data_count r.nibbles)) r.winner.channel (get_or r.bytes 0 0) (get_or r.bytes 1 0))
    r.winner.channel

unfoldable pub memory_delivered : Delivery → List ℕ → Reception → List ℕ
memory_delivered Nothing m r = m
memory_delivered Stored m r = memory_stored m r
memory_delivered Overflowed m r = marked_cher m r.winner.channel
memory_delivered Spoiled m r = marked_cher m r.winner.channel

-- ---- the registers

unfoldable pub receive_error : Report → Report
receive_error x = with_flags x (with_re x.flags true)

-- "ROK if RAK is 1, else RNOK"; "0x06 is written on .. CHRx (retries 0)"
unfoldable pub report_stored : Report → Bool → ℕ → Report
report_stored x asked channel =
    with_flags (with_message x (record { count = 0; channel = channel })) (pick asked (with_rok x.flags true) (with_rnok x.flags true))

-- "Each error replaces 0x07 (house)"
unfoldable pub report_heard : Hearing → Report → Report
report_heard Silent x = x
report_heard Follows x = x
report_heard (Fault code) x = with_error x code
report_heard Good x = x

unfoldable pub report_delivered : Delivery → Report → Reception → Report
report_delivered Nothing x r = x
report_delivered Stored x r = report_stored x (acknowledge_asked (get_or r.bytes 1 0)) r.winner.channel
report_delivered Overflowed x r = receive_error (with_error x BOV)
report_delivered Spoiled x r = receive_error x
