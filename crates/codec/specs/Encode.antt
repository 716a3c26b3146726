-- Encoding a frame (01, Frames on the line; Numbers refused, "Encoding: 10 to 13 in order").
--   encoded      == the answer for a frame and the length of the lent room
--   encoded_room  == the lent room afterwards
use Rattle.std.specs.Prelude.{ℕ, Bool, List, Result, Ok, Err, ltb, length}
use Rattle.line.specs.Bits.{pick}
use Rattle.line.specs.Frame.{Frame, slots, size}
use Rattle.codec.specs.Answer.{laid}
use Rattle.codec.specs.declared.Refusal.{Refusal}
use Rattle.codec.specs.declared.Refusal.TheVariants.{Identifier, Command, Bytes, Room}

-- the frame that the arguments are
abbrev pub given : ℕ → ℕ → List ℕ → Bool → Frame
given identifier command bytes acknowledge =
    record { identifier = identifier; command = command; bytes = bytes; acknowledge = acknowledge }

unfoldable pub encoded : ℕ → ℕ → Frame → Result ℕ Refusal
encoded longest room f =
    pick (ltb 4095 f.identifier) (Err Identifier)
    (pick (ltb 15 f.command) (Err Command)
    (pick (ltb longest (length f.bytes)) (Err Bytes)
    (pick (ltb room (size (length f.bytes))) (Err Room) (Ok (size (length f.bytes))))))

unfoldable pub encoded_room : List ℕ → Frame → Result ℕ Refusal → List ℕ
encoded_room room f (Ok n) = laid (slots f) room
encoded_room room f (Err r) = room
