-- The control registers (01, Memory map; 000, Control and Status Registers).
--   line_control .. interrupt_reset == the registers' addresses        reset_values, reserved_bits == a byte for each address
--   read_only, write_only, reserved, fixed_bits == what a host may do
--   retry_setting, autonomous, .. == the fields of the registers that the host writes; those of 0x02 are in crates/diagnosis
--   line_status, retries_byte, interrupt_status == the bytes of the registers that the controller writes
--   asserted == the interrupt line        received, transmitted == levels after the inversions
use Rattle.std.specs.Prelude.{ℕ, ◌+◌, ◌-◌, ◌*◌, ◌/◌, ◌%◌, ◌^◌, Bool, true, false, not, List, [], ◌∷◌, eqb, leb}
use Rattle.std.specs.Int.Bits.{bit_and}
use Rattle.line.specs.Bits.{pick}
use Rattle.diagnosis.specs.Rules.{fault_on_data, fault_on_data_bar}
use Rattle.diagnosis.specs.declared.Diagnosis.{Diagnosis}
use Rattle.rules.specs.declared.Flags.{Flags}
use Rattle.rules.specs.declared.Retries.{Retries}
use Rattle.rules.specs.declared.Report.{Report}

abbrev pub both : Bool → Bool → Bool
both true b = b
both false b = false

abbrev pub either : Bool → Bool → Bool
either true b = true
either false b = b

-- bit k of a number is one; bit 0 is the lowest
abbrev pub has_bit : ℕ → ℕ → Bool
has_bit v k = eqb (v / 2 ^ k % 2) 1

-- ---- addresses

abbrev pub line_control : ℕ
line_control = 0x00

abbrev pub transmit_control : ℕ
transmit_control = 0x01

abbrev pub diagnosis_control : ℕ
diagnosis_control = 0x02

abbrev pub command : ℕ
command = 0x03

abbrev pub line_status_at : ℕ
line_status_at = 0x04

abbrev pub transmission_status : ℕ
transmission_status = 0x05

abbrev pub last_message_status : ℕ
last_message_status = 0x06

abbrev pub last_error_status : ℕ
last_error_status = 0x07

abbrev pub interrupt_status_at : ℕ
interrupt_status_at = 0x09

abbrev pub interrupt_enable : ℕ
interrupt_enable = 0x0A

abbrev pub interrupt_reset : ℕ
interrupt_reset = 0x0B

-- "Read only: 0x04 to 0x07, 0x09."
unfoldable pub read_only : ℕ → Bool
read_only a = either (both (leb line_status_at a) (leb a last_error_status)) (eqb a interrupt_status_at)

-- "Write only: 0x03, 0x0B."
unfoldable pub write_only : ℕ → Bool
write_only a = either (eqb a command) (eqb a interrupt_reset)

-- "Reserved: 0x08, 0x0C to 0x0F."
unfoldable pub reserved : ℕ → Bool
reserved a = either (eqb a 0x08) (both (leb 0x0C a) (leb a 0x0F))

-- ---- a byte for each address, as rows (address, byte)

-- the byte in the row of address a; 0 where it has no row
unfoldable pub row_at : List (ℕ × ℕ) → ℕ → ℕ
row_at [] a = 0
row_at (row ∷ rows) a = pick (eqb a row.0) row.1 (row_at rows a)

-- "Reset values: 0x01 is 0x02, 0x02 is 0x00, 0x04 is 0x20 (unfixed bits taken as 0). Others as document 000."
-- Document 000 gives 0x03 and 0x0B none: they are write only.
unfoldable pub reset_values : List (ℕ × ℕ)
reset_values =
    (line_control, 0x00)
    ∷ (transmit_control, 0x02)
    ∷ (diagnosis_control, 0x00)
    ∷ (line_status_at, 0x20)
    ∷ (transmission_status, 0x00)
    ∷ (last_message_status, 0x00)
    ∷ (last_error_status, 0x00)
    ∷ (interrupt_status_at, 0x80)
    ∷ (interrupt_enable, 0x80)
    ∷ []

unfoldable pub reset_value : ℕ → ℕ
reset_value a = row_at reset_values a

-- the bits that document 000 reserves or marks X, and the version of 0x01; 0x02, 0x05 and 0x06 have none
unfoldable pub reserved_rows : List (ℕ × ℕ)
reserved_rows =
    (line_control, 0b00000100)
    ∷ (transmit_control, 0b00001110)
    ∷ (command, 0b00000110)
    ∷ (line_status_at, 0b10000000)
    ∷ (last_error_status, 0b10010000)
    ∷ (interrupt_status_at, 0b01100000)
    ∷ (interrupt_enable, 0b01100000)
    ∷ (interrupt_reset, 0b01100000)
    ∷ []

unfoldable pub reserved_bits : ℕ → ℕ
reserved_bits a = row_at reserved_rows a

-- "0x01: .. version 001 in bits 3 to 1"; "0x03: bits 2 and 1 must be zero. Other reserved bits are kept as written (house)."
unfoldable pub fixed_bits : ℕ → ℕ → Bool
fixed_bits a v =
    pick (eqb a transmit_control) (eqb (bit_and v (reserved_bits transmit_control)) 0b00000010)
    (pick (eqb a command) (eqb (bit_and v (reserved_bits command)) 0) true)

-- ---- the fields that the host writes

-- 0x00: IVRX in bit 0, IVTX in bit 1
unfoldable pub inverts_receive : ℕ → Bool
inverts_receive v = has_bit v 0

unfoldable pub inverts_transmit : ℕ → Bool
inverts_transmit v = has_bit v 1

-- 0x01: "retry setting MR in bits 7 to 4 .. module type MT in bit 0"
unfoldable pub retry_setting : ℕ → ℕ
retry_setting v = v / 16

unfoldable pub autonomous : ℕ → Bool
autonomous v = has_bit v 0

-- 0x03: GRES, SLEEP, IDLE, ACTI, REAR in bits 7 to 3, MSDC in bit 0
unfoldable pub asks_reset : ℕ → Bool
asks_reset v = has_bit v 7

unfoldable pub asks_sleep : ℕ → Bool
asks_sleep v = has_bit v 6

unfoldable pub asks_idle : ℕ → Bool
asks_idle v = has_bit v 5

unfoldable pub asks_activation : ℕ → Bool
asks_activation v = has_bit v 4

unfoldable pub asks_rearbitration : ℕ → Bool
asks_rearbitration v = has_bit v 3

unfoldable pub asks_pulse : ℕ → Bool
asks_pulse v = has_bit v 0

-- ---- the registers that the controller writes

-- the codes of 0x07
abbrev pub FV : ℕ
FV = 1

abbrev pub CV : ℕ
CV = 2

abbrev pub ACKE : ℕ
ACKE = 4

abbrev pub FCSE : ℕ
FCSE = 8

abbrev pub BOV : ℕ
BOV = 32

-- reset sets RST and clears the rest
unfoldable pub reset_report : Report
reset_report =
    record {
      sending = record { count = 0; channel = 0 };
      message = record { count = 0; channel = 0 };
      error = 0;
      flags = record { rst = true; te = false; tok = false; re = false; rok = false; rnok = false };
    }

unfoldable pub bit : Bool → ℕ
bit b = pick b 1 0

-- 0x04: SPG in bit 6, IDG in bit 5, Sc in bit 4, Sb in bit 3, Sa in bit 2, TXG in bit 1, RXG in bit 0
unfoldable pub line_status : Bool → Bool → Diagnosis → Bool → Bool → ℕ
line_status asleep idle x txg rxg =
    bit asleep * 64 + bit idle * 32 + bit x.sc * 16 + bit (fault_on_data_bar x.condition) * 8 + bit (fault_on_data x.condition) * 4 + bit txg * 2 + bit rxg

-- 0x05 and 0x06: retries in bits 7 to 4, channel in bits 3 to 0; a reached state has both below 16, `% 16` fits others into the byte
unfoldable pub retries_byte : Retries → ℕ
retries_byte r = r.count % 16 * 16 + r.channel % 16

-- 0x09: RST in bit 7, TE, TOK, RE, ROK, RNOK in bits 4 to 0
unfoldable pub interrupt_status : Flags → ℕ
interrupt_status f =
    bit f.rst * 128 + bit f.te * 16 + bit f.tok * 8 + bit f.re * 4 + bit f.rok * 2 + bit f.rnok

-- "A write to 0x0B clears the named status bits."
unfoldable pub unless : Bool → Bool → Bool
unless flag reset = pick reset false flag

unfoldable pub cleared : Flags → ℕ → Flags
cleared f v =
    record {
      rst = unless f.rst (has_bit v 7);
      te = unless f.te (has_bit v 4);
      tok = unless f.tok (has_bit v 3);
      re = unless f.re (has_bit v 2);
      rok = unless f.rok (has_bit v 1);
      rnok = unless f.rnok (has_bit v 0);
    }

-- "The interrupt line is asserted when status and enable share a one."
unfoldable pub asserted : Flags → ℕ → Bool
asserted f enable = not (eqb (bit_and (interrupt_status f) enable) 0)

-- ---- levels

-- a level is 0 or 1; `% 2` is there only to keep the difference from going below 0
unfoldable pub inverted : ℕ → Bool → ℕ
inverted level inverts = pick inverts (1 - level % 2) level

-- "after the receive inversion": the levels of the three inputs, by 0x00. They are at most 7; `% 8` is there only to keep the difference from going below 0
unfoldable pub received : ℕ → ℕ → ℕ
received control levels = pick (inverts_receive control) (7 - levels % 8) (levels % 8)

-- "the event's answer and listing give TXD after it", the transmit inversion
unfoldable pub transmitted : ℕ → ℕ → ℕ
transmitted control level = inverted level (inverts_transmit control)
