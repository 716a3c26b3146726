-- The answers of codec and player as C takes them: a number, values written where the caller points, and the lent room.
-- 01, Numbers refused: "Each returns its number and zero elsewhere"; an accepted call's number is 0.
--   encoding, decoding, playing              == the answer of codec or player for the lent room
--   encode_number, decode_number               == its number; of playing it is the player's own, 0 or 13
--   slot_count, head, listing_length           == its values, zero where refused
--   room_encoded, room_decoded, room_played     == the lent room afterwards
use Rattle.std.specs.Prelude.{ℕ, Option, Some, None, Bool, true, false, List, [], ◌∷◌, Result, Ok, Err, length}
use Rattle.line.specs.Frame.{Frame, longest_data}
use Rattle.codec.specs.Answer.{number}
use Rattle.codec.specs.Encode.{encoded, encoded_room}
use Rattle.codec.specs.Decode.{reading, decoded, decoded_room}
use Rattle.codec.specs.declared.Refusal.{Refusal}
use Rattle.codec.specs.declared.Head.{Head}
use Rattle.bench_record.specs.Record.{listing_of, played, played_room}

-- ---- a frame to slots

abbrev pub encoding : List ℕ → Frame → Result ℕ Refusal
encoding room f = encoded longest_data (length room) f

abbrev pub room_encoded : List ℕ → Frame → List ℕ
room_encoded room f = encoded_room room f (encoding room f)

unfoldable pub encode_number : Result ℕ Refusal → ℕ
encode_number (Ok n) = 0
encode_number (Err r) = number r

unfoldable pub slot_count : Result ℕ Refusal → ℕ
slot_count (Ok n) = n
slot_count (Err r) = 0

-- ---- slots to a frame

abbrev pub decoding : List ℕ → List ℕ → Result Head Refusal
decoding room slots = decoded (length room) (reading longest_data slots)

abbrev pub room_decoded : List ℕ → List ℕ → List ℕ
room_decoded room slots = decoded_room room (reading longest_data slots)

unfoldable pub decode_number : Result Head Refusal → ℕ
decode_number (Ok h) = 0
decode_number (Err r) = number r

-- present is 1, absent 0
unfoldable pub flag : Bool → ℕ
flag true = 1
flag false = 0

-- identifier, command, data bytes, acknowledge
unfoldable pub head : Result Head Refusal → List ℕ
head (Ok h) = h.identifier ∷ h.command ∷ h.count ∷ flag h.acknowledge ∷ []
head (Err r) = 0 ∷ 0 ∷ 0 ∷ 0 ∷ []

-- ---- a session to its listing

abbrev pub playing : List ℕ → List ℕ → Option ℕ
playing room session = played (length room) (listing_of session)

abbrev pub room_played : List ℕ → List ℕ → List ℕ
room_played room session = played_room room (listing_of session)

unfoldable pub listing_length : Option ℕ → ℕ
listing_length (Some n) = n
listing_length None = 0
