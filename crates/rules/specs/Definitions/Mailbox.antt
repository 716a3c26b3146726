-- The mailbox and what the controller writes to the memory map (01, Receiving, Sending; 02, Req 01, Req 04; 000, Mailbox).
--   mailbox_at == an address in the mailbox        stored == a frame in the mailbox
--   sent_frame, reply_frame, coded == the frame that a channel sends, or replies with, and its bytes        retagged, marked.. == what is written to a channel
use Rattle.std.specs.Prelude.{ℕ, zero, suc, ◌+◌, ◌-◌, ◌*◌, ◌/◌, ◌%◌, Bool, false, List, [], ◌∷◌, ◌++◌, eqb, leb, length, get_or, set, take, drop, replicate}
use Rattle.line.specs.Bits.{pick}
use Rattle.line.specs.Check.{check}
use Rattle.line.specs.Frame.{Frame, covered}
use Rattle.rules.specs.Definitions.Longest.{capacity}
use Rattle.rules.specs.Definitions.Registers.{read_only, reset_values}
use Rattle.rules.specs.Definitions.Channels.{base, buffer_of, twelve, with_cher, with_chtx, with_chrx}
use Rattle.rules.specs.declared.Coded.{Coded}

-- "mailbox at 0x80 to 0xFF"; "0xFF is followed by 0x80"
unfoldable pub mailbox_at : ℕ → ℕ → ℕ
mailbox_at pointer k = 0x80 + (pointer + k) % 128

-- "the status byte (RAK, R/W, RTR, count n in five bits)"
unfoldable pub status_byte : ℕ → ℕ → ℕ
status_byte low n = low % 8 * 32 + n % 32

-- bytes laid into the mailbox from place k behind a pointer on
unfoldable pub laid_from : List ℕ → ℕ → ℕ → List ℕ → List ℕ
laid_from m pointer k [] = m
laid_from m pointer k (b ∷ bs) = laid_from (set m (mailbox_at pointer k) b) pointer (k + 1) bs

-- the places behind the status byte that a frame of n data bytes fills: the check has two "when M_L is at least n + 3", else "nothing extra is written" (02, Req 04)
unfoldable pub places_filled : ℕ → ℕ → ℕ
places_filled length n = pick (leb (n + 3) length) (n + 2) n

-- "writes the status byte .. at 0x80 + pointer and the n data bytes after it", the check behind them, "and no other mailbox byte". The bytes received hold the check behind
-- the data, "the 15 check bits followed by a zero bit" (`data_ended` in Reception); it is written "considering these bytes as normal DATA" (000 and 003, Message Data, note 1)
unfoldable pub stored : List ℕ → ℕ → ℕ → List ℕ → ℕ → List ℕ
stored m pointer length bytes n = laid_from m pointer 0 (status_byte (get_or bytes 1 0) n ∷ take (places_filled length n) (drop 2 bytes))

-- n bytes of the mailbox from place k behind a pointer on
unfoldable pub mailbox_bytes : List ℕ → ℕ → ℕ → ℕ → List ℕ
mailbox_bytes m pointer k zero = []
mailbox_bytes m pointer k (suc n) = get_or m (mailbox_at pointer k) 0 ∷ mailbox_bytes m pointer (k + 1) n

-- a length M_L holds the status byte and M_L - 1 data bytes; the remainder is there for numbers above the largest M_L only
unfoldable pub data_in : ℕ → ℕ
data_in length = pick (eqb length 0) 0 ((length - 1) % (capacity + 1))

-- a frame by its first two bytes, identifier and command, with n data bytes of channel c's; "both acknowledge slots recessive"
unfoldable pub frame_with : List ℕ → ℕ → ℕ → ℕ → ℕ → Frame
frame_with m c high low n =
    record {
      identifier = twelve high low;
      command = low % 16;
      bytes = mailbox_bytes m (buffer_of m c).pointer 1 n;
      acknowledge = false;
    }

-- R/W 1 and RTR 1
unfoldable pub asks_reply : ℕ → Bool
asks_reply low = eqb (low % 4) 3

-- "its frame has the channel's tag and command and M_L - 1 data bytes from pointer + 1"; "A request is sent with no data bytes, whatever its M_L" (02, Req 01)
unfoldable pub sent_frame : List ℕ → ℕ → Frame
sent_frame m c =
    frame_with m c (get_or m (base c) 0) (get_or m (base c + 1) 0) (pick (asks_reply (get_or m (base c + 1) 0)) 0 (data_in (buffer_of m c).length))

-- the frame that channel c replies with: identifier and command are given
unfoldable pub reply_frame : List ℕ → ℕ → ℕ → ℕ → Frame
reply_frame m c high low = frame_with m c high low (data_in (buffer_of m c).length)

-- a frame's check in two bytes: "the 15 check bits followed by a zero bit" (02, Req 04)
abbrev pub check_bytes : Frame → List ℕ
check_bytes f = (check (covered f) / 128) ∷ (check (covered f) % 128 * 2) ∷ []

-- identifier, command, data and check of a frame as bytes, and zeros up to the longest frame
unfoldable pub coded_bytes : Frame → List ℕ
coded_bytes f =
    (f.identifier / 16) ∷ (f.identifier % 16 * 16 + f.command) ∷ (f.bytes ++ (check_bytes f ++ replicate (capacity - length f.bytes) 0))

unfoldable pub coded : Frame → Coded
coded f = record { n = length f.bytes; bytes = coded_bytes f }

-- ---- what the controller writes to a channel

-- the tag rewritten with the identifier received; the command bits stay (000, Identifier Tag)
unfoldable pub retagged : List ℕ → ℕ → ℕ → ℕ → List ℕ
retagged m c high low = set (set m (base c) high) (base c + 1) (low / 16 * 16 + get_or m (base c + 1) 0 % 16)

unfoldable pub marked_cher : List ℕ → ℕ → List ℕ
marked_cher m c = set m (base c + 3) (with_cher (get_or m (base c + 3) 0))

unfoldable pub marked_chtx : List ℕ → ℕ → List ℕ
marked_chtx m c = set m (base c + 3) (with_chtx (get_or m (base c + 3) 0))

unfoldable pub marked_chrx : List ℕ → ℕ → List ℕ
marked_chrx m c = set m (base c + 3) (with_chrx (get_or m (base c + 3) 0))

-- ---- reset

-- the rows of a table (address, byte) written to the map, but for the registers that the controller writes: those are not kept there
unfoldable pub rows_written : List (ℕ × ℕ) → List ℕ → List ℕ
rows_written [] m = m
rows_written (row ∷ rows) m = rows_written rows (pick (read_only row.0) m (set m row.0 row.1))

-- "Reset, by pin or GRES, leaves both" channels and mailbox
unfoldable pub reset_memory : List ℕ → List ℕ
reset_memory m = rows_written reset_values m
