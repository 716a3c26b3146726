-- What the frame under way says of the samples taken since its start.
--   frame_held == the frame that the bytes hold        Invariant == the samples are what the reception has taken, by the phase that it is in
--   Whole == a good frame and its samples        Owed == the samples before an acknowledge that the model drives
use Prim.Native.Nat.{ℕ, ◌+◌, ◌*◌, ◌/◌, ◌%◌, ◌≤◌}
use mathlib.Core.Bool.{Bool, true}
use mathlib.Core.List.{List, [], ◌∷◌, ◌++◌}
use mathlib.Core.Path.{◌≡◌}
use lib.ListN.{length, get_or, take, drop, replicate}
use Rattle.line.specs.Bits.{bits, Below}
use Rattle.line.specs.LineCode.{line_code}
use Rattle.line.specs.Frame.{Frame, Fits, byte_bits, carried, start, end_of_data, acknowledge_slots, slots}
use Rattle.rules.specs.Definitions.Longest.{capacity, most_nibbles}
use Rattle.rules.specs.Definitions.Mailbox.{coded_bytes}
use Rattle.rules.specs.Definitions.Reception.{data_count}
use Rattle.rules.specs.Definitions.Hearing.{reply_request}
use Rattle.every_run.specs.Valid.{Valid, high, low, owes}
use Rattle.every_run.proofs.Receiving.Rows.{Padded}
use Rattle.rules.specs.declared.Phase.{Phase}
use Rattle.rules.specs.declared.Phase.TheVariants.{Quiet, Start, Body, Acknowledge, End}
use Rattle.rules.specs.declared.Reception.{Reception}

-- identifier and command in two bytes, then the data
unfoldable pub frame_held : Reception → Bool → Frame
frame_held r a =
    record {
      identifier = get_or r.bytes 0 0 * 16 + get_or r.bytes 1 0 / 16;
      command = get_or r.bytes 1 0 % 16;
      bytes = take (data_count r.nibbles) (drop 2 r.bytes);
      acknowledge = a;
    }

pub record InStart (longest : ℕ) (r : Reception) (s : List ℕ) : Type 0 where
  pub most : longest ≤ capacity
  pub some : 1 ≤ r.place.at
  pub within : r.place.at ≤ 9
  pub nibbles : r.nibbles ≡ 0
  pub bytes : r.bytes ≡ replicate (capacity + 4) 0
  pub samples : s ≡ take r.place.at start

-- whole nibbles, zeros behind them in the bytes, then the bits of the nibble under way
pub record InBody (longest : ℕ) (r : Reception) (s : List ℕ) : Type 0 where
  pub most : longest ≤ capacity
  pub within : r.place.at ≤ 4
  pub nibbles : r.nibbles ≤ most_nibbles longest
  pub long : length r.bytes ≡ capacity + 4
  pub below : Below 256 r.bytes
  pub padded : Padded (take (4 * r.nibbles) (byte_bits r.bytes)) (byte_bits r.bytes)
  pub samples : s ≡ start ++ (line_code (take (4 * r.nibbles) (byte_bits r.bytes)) ++ bits r.place.at r.bits)

-- a frame of n data bytes has been taken up to its end of data
pub record Carried (longest : ℕ) (r : Reception) : Type 0 where
  pub most : longest ≤ capacity
  pub fits : Fits longest (frame_held r true)
  pub long : length r.bytes ≡ capacity + 4
  pub below : Below 256 r.bytes
  pub count : data_count r.nibbles ≤ longest
  -- the bytes are those of the frame, check and zeros included
  pub coded : r.bytes ≡ coded_bytes (frame_held r true)
  pub request : reply_request (get_or r.bytes 1 0) ≡ true → data_count r.nibbles ≡ 0

pub record InAcknowledge (longest : ℕ) (r : Reception) (s : List ℕ) : Type 0 where
  pub within : r.place.at ≤ 1
  pub held : Carried longest r
  pub samples : s ≡ start ++ (line_code (carried (frame_held r true)) ++ (end_of_data ++ bits r.place.at r.bits))

pub record InEnd (longest : ℕ) (r : Reception) (s : List ℕ) : Type 0 where
  pub within : r.place.at ≤ 7
  pub held : Carried longest r
  pub acknowledged : Bool
  pub valid : Valid r.winner (frame_held r acknowledged)
  pub samples : s ≡ start ++ (line_code (carried (frame_held r true)) ++ (end_of_data ++ (acknowledge_slots acknowledged ++ replicate r.place.at 1)))

unfoldable pub InvariantIn : ℕ → Phase → Reception → List ℕ → Type 0
InvariantIn longest Quiet r s = ⊥
InvariantIn longest Start r s = InStart longest r s
InvariantIn longest Body r s = InBody longest r s
InvariantIn longest Acknowledge r s = InAcknowledge longest r s
InvariantIn longest End r s = InEnd longest r s

-- s holds the samples since the frame's start, its first slot included
pub record Invariant (longest : ℕ) (r : Reception) (s : List ℕ) : Type 0 where
  pub holds : InvariantIn longest r.place.phase r s

-- a good frame, with its last sample
pub record Whole (longest : ℕ) (r : Reception) (s : List ℕ) : Type 0 where
  pub frame : Frame
  pub fits : Fits longest frame
  pub slots_are : s ≡ slots frame
  pub valid : Valid r.winner frame
  pub high_is : get_or r.bytes 0 0 ≡ high frame
  pub low_is : get_or r.bytes 1 0 ≡ low frame
  pub count_is : data_count r.nibbles ≡ length frame.bytes
  pub coded_is : r.bytes ≡ coded_bytes frame

-- a valid frame with its acknowledge, of which the samples are all before the acknowledge and its first slot, whatever that was sampled as
pub record Owed (longest : ℕ) (r : Reception) (s : List ℕ) : Type 0 where
  pub frame : Frame
  pub fits : Fits longest frame
  pub valid : Valid r.winner frame
  pub owed : owes r.winner frame ≡ true
  pub high_is : get_or r.bytes 0 0 ≡ high frame
  pub low_is : get_or r.bytes 1 0 ≡ low frame
  pub first : ℕ
  pub samples : s ≡ take (50 + 10 * length frame.bytes) (slots frame) ++ (first ∷ [])
