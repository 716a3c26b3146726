-- What encoding and decoding answer (01, Numbers refused).
--   number       == 01's number of a refusal
--   laid         == what is answered, laid over lent room: "Lent room past an answer keeps its bytes"
use Rattle.std.specs.Prelude.{ℕ, List, ◌++◌, length, drop}
use Rattle.codec.specs.declared.Refusal.{Refusal}
use Rattle.codec.specs.declared.Refusal.TheVariants.{Level, Identifier, Command, Bytes, Room, Start, Pair, Length, Check, Acknowledge, EndOfFrame, CutShort, LeftOver}

unfoldable pub number : Refusal → ℕ
number Level = 5
number Identifier = 10
number Command = 11
number Bytes = 12
number Room = 13
number Start = 20
number Pair = 21
number Length = 22
number Check = 23
number Acknowledge = 24
number EndOfFrame = 25
number CutShort = 26
number LeftOver = 27

unfoldable pub laid : List ℕ → List ℕ → List ℕ
laid answer room = answer ++ drop (length answer) room
