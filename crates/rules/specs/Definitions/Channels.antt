-- Channels, masks and links; who takes a frame, who sends, who replies (01, Memory map, Receiving, Sending; 02, Req 01; 000, Channel Registers, Message Types).
--   base, channel_at == where channel c stands, and its bytes        buffer_of == pointer and length that a channel uses, its link resolved
--   receive_message, request_detection, transmit_message, deferred_reply, request_message, awaits_reply, immediate_reply == the message types of a channel
--   matches, listens, takes == whether a channel takes a frame        lowest_listening, winner_for == who takes it
--   asks_to_send, ready, lowest_ready == who sends        settles_reply, replier_for == who replies
-- `low` is byte 1 of a frame or of a channel: identifier or tag bits 3 to 0, EXT, RAK, R/W, RTR.
use Rattle.std.specs.Prelude.{ℕ, zero, suc, ◌+◌, ◌*◌, ◌/◌, ◌%◌, Bool, true, false, not, List, eqb, leb, get_or, Option, None, Some}
use Rattle.std.specs.Int.Bits.{bit_and, bit_xor}
use Rattle.line.specs.Bits.{pick}
use Rattle.rules.specs.Definitions.Registers.{both, either, has_bit}
use Rattle.rules.specs.declared.Channel.{Channel}
use Rattle.rules.specs.declared.Buffer.{Buffer}
use Rattle.rules.specs.declared.Winner.{Winner}

-- ---- the bits of byte 1: EXT, RAK, R/W, RTR in bits 3 to 0

unfoldable pub extension : ℕ → Bool
extension low = has_bit low 3

unfoldable pub acknowledge_asked : ℕ → Bool
acknowledge_asked low = has_bit low 2

unfoldable pub reads : ℕ → Bool
reads low = has_bit low 1

unfoldable pub remote : ℕ → Bool
remote low = has_bit low 0

-- the twelve bits of a tag, a mask or an identifier
unfoldable pub twelve : ℕ → ℕ → ℕ
twelve high low = high * 16 + low / 16

-- ---- a channel's bytes

abbrev pub channels : ℕ
channels = 14

-- "channel c (0 to 13) at 0x10 + 8c"; a channel number is 0 to 13, and `% channels` gives every other number an address too
unfoldable pub base : ℕ → ℕ
base c = 0x10 + 8 * (c % channels)

unfoldable pub channel_at : List ℕ → ℕ → Channel
channel_at m c =
    record {
      high = get_or m (base c) 0;
      low = get_or m (base c + 1) 0;
      pointer = get_or m (base c + 2) 0;
      status = get_or m (base c + 3) 0;
      mask_high = get_or m (base c + 6) 0;
      mask_low = get_or m (base c + 7) 0;
    }

-- "+3 length M_L (5 bits), CHER, CHTx, CHRx"
unfoldable pub length_of : ℕ → ℕ
length_of status = status / 8

unfoldable pub cher : ℕ → Bool
cher status = has_bit status 2

unfoldable pub with_cher : ℕ → ℕ
with_cher status = status / 8 * 8 + 4 + status % 4

unfoldable pub with_chtx : ℕ → ℕ
with_chtx status = status / 4 * 4 + 2 + status % 2

unfoldable pub with_chrx : ℕ → ℕ
with_chrx status = status / 2 * 2 + 1

-- "+2 no-acknowledge bit DRAK and 7-bit pointer"
unfoldable pub drak : ℕ → Bool
drak pointer = has_bit pointer 7

-- ---- links: "M_L 0 is a link: the low four pointer bits name the channel whose pointer and length are used"

unfoldable pub no_buffer : Buffer
no_buffer = record { legal = false; pointer = 0; length = 0 }

unfoldable pub own_buffer : Channel → Buffer
own_buffer x =
    pick (eqb (length_of x.status) 0) no_buffer
    (record { legal = true; pointer = x.pointer % 128; length = length_of x.status })

-- "a link to itself, to another link or above 13 makes the channel match nothing (house)"
unfoldable pub linked_buffer : List ℕ → ℕ → ℕ → Buffer
linked_buffer m c link = pick (leb channels link) no_buffer (pick (eqb link c) no_buffer (own_buffer (channel_at m link)))

unfoldable pub buffer_of : List ℕ → ℕ → Buffer
buffer_of m c =
    pick (eqb (length_of (channel_at m c).status) 0) (linked_buffer m c ((channel_at m c).pointer % 16)) (own_buffer (channel_at m c))

-- ---- channel status (RNW, RTR, CHTx, CHRx), "-" either; the message types are document 000's

unfoldable pub status_bits : Channel → ℕ
status_bits x = x.low % 4 * 4 + x.status % 4

-- "0,1,-,0"
unfoldable pub receive_message : ℕ → Bool
receive_message bits = either (eqb bits 0b0100) (eqb bits 0b0110)

-- "1,0,1,0"
unfoldable pub request_detection : ℕ → Bool
request_detection bits = eqb bits 0b1010

-- "0,0,0,-"
unfoldable pub transmit_message : ℕ → Bool
transmit_message bits = either (eqb bits 0b0000) (eqb bits 0b0001)

-- "1,0,0,1"
unfoldable pub deferred_reply : ℕ → Bool
deferred_reply bits = eqb bits 0b1001

-- "1,1,0,0": a reply request to be sent (02, Req 01)
unfoldable pub request_message : ℕ → Bool
request_message bits = eqb bits 0b1100

-- "1,1,-,0 listens for R/W 1 with RTR 0" (02, Req 01)
unfoldable pub awaits_reply : ℕ → Bool
awaits_reply bits = either (eqb bits 0b1100) (eqb bits 0b1110)

-- "1,0,0,0": an immediate reply (02, Req 01)
unfoldable pub immediate_reply : ℕ → Bool
immediate_reply bits = eqb bits 0b1000

-- ---- who takes a frame

-- "A frame matches when every tag bit under a mask one equals the identifier's."
unfoldable pub matches : ℕ → ℕ → ℕ → Bool
matches tag mask identifier = eqb (bit_and (bit_xor tag identifier) mask) 0

-- R/W and RTR are the frame's low two bits: "0,1,-,0 takes data frames (R/W 0, RTR 0). 1,0,1,0 takes reply requests (1,1)".
-- "EXT 0, or R/W 0 with RTR 1, is ignored without interrupt". "1,1,-,0 listens for R/W 1 with RTR 0" (02, Req 01).
unfoldable pub listens : Channel → ℕ → Bool
listens x low =
    both (extension low)
    (either (both (eqb (low % 4) 0b00) (receive_message (status_bits x)))
    (either (both (eqb (low % 4) 0b11) (request_detection (status_bits x))) (both (eqb (low % 4) 0b10) (awaits_reply (status_bits x)))))

unfoldable pub takes : List ℕ → ℕ → ℕ → ℕ → Bool
takes m c high low =
    both (listens (channel_at m c) low)
    (both (matches (twelve (channel_at m c).high (channel_at m c).low) (twelve (channel_at m c).mask_high (channel_at m c).mask_low) (twelve high low))
    (buffer_of m c).legal)

unfoldable pub nobody : Winner
nobody = record { matched = false; channel = 0; no_acknowledge = false; pointer = 0; length = 0 }

-- "The winner, its own DRAK, its pointer and length"
unfoldable pub winner_of : List ℕ → ℕ → Winner
winner_of m c =
    record {
      matched = true;
      channel = c;
      no_acknowledge = drak (channel_at m c).pointer;
      pointer = (buffer_of m c).pointer;
      length = (buffer_of m c).length;
    }

-- "Lowest channel number wins": the first of `left` channels from c on that passes
unfoldable pub lowest : (ℕ → Bool) → ℕ → ℕ → Option ℕ
lowest passes zero c = None
lowest passes (suc left) c = pick (passes c) (Some c) (lowest passes left (c + 1))

unfoldable pub lowest_listening : List ℕ → ℕ → ℕ → Option ℕ
lowest_listening m high low = lowest (λ c. takes m c high low) channels 0

unfoldable pub won : List ℕ → Option ℕ → Winner
won m None = nobody
won m (Some c) = winner_of m c

unfoldable pub winner_for : List ℕ → ℕ → ℕ → Winner
winner_for m high low = won m (lowest_listening m high low)

-- ---- who sends

-- "0,0,0,- or 1,0,0,1, CHER 0", and 1,1,0,0 (02, Req 01)
unfoldable pub asks_to_send : Channel → Bool
asks_to_send x =
    both (either (transmit_message (status_bits x)) (either (deferred_reply (status_bits x)) (request_message (status_bits x)))) (not (cher x.status))

-- "a legal M_L": status byte and at most `longest` data bytes
unfoldable pub sendable : Buffer → ℕ → Bool
sendable b longest = both b.legal (leb b.length (longest + 1))

unfoldable pub ready : List ℕ → ℕ → ℕ → Bool
ready m longest c = both (asks_to_send (channel_at m c)) (sendable (buffer_of m c) longest)

unfoldable pub lowest_ready : List ℕ → ℕ → Option ℕ
lowest_ready m longest = lowest (ready m longest) channels 0

-- ---- who replies (02, Req 01: "The replier is the lowest match with 1,0,0,0, CHER 0 and a legal M_L, if no lower 1,0,1,0 matches")

-- channel c settles who replies: it matches, and it is such a replier or 1,0,1,0 with a good link
unfoldable pub settles_reply : List ℕ → ℕ → ℕ → ℕ → ℕ → Bool
settles_reply m longest high low c =
    both (matches (twelve (channel_at m c).high (channel_at m c).low) (twelve (channel_at m c).mask_high (channel_at m c).mask_low) (twelve high low))
    (pick (request_detection (status_bits (channel_at m c))) (buffer_of m c).legal
    (both (immediate_reply (status_bits (channel_at m c))) (both (not (cher (channel_at m c).status)) (sendable (buffer_of m c) longest))))

unfoldable pub if_replies : List ℕ → Option ℕ → Option ℕ
if_replies m None = None
if_replies m (Some c) = pick (immediate_reply (status_bits (channel_at m c))) (Some c) None

unfoldable pub replier_for : List ℕ → ℕ → ℕ → ℕ → Option ℕ
replier_for m longest high low = if_replies m (lowest (settles_reply m longest high low) channels 0)
