-- Where slot k of a frame of n data bytes stands, and its level (01, Frames on the line, the table of parts). Slots count from 0.
--   part_of   == the part of the frame that slot k belongs to
--   half_of   == whether it is plain, or the first or second half of a pair
--   level_of  == its level
use Rattle.std.specs.Prelude.{ℕ, ◌+◌, ◌-◌, ◌*◌, ◌/◌, ◌%◌, min, ltb, eqb, length, get_or}
use Rattle.line.specs.declared.Part.{Part}
use Rattle.line.specs.declared.Part.TheVariants.{Start, Identifier, Command, Data, Check, EndOfData, Acknowledge, EndOfFrame, After}
use Rattle.line.specs.declared.Half.{Half}
use Rattle.line.specs.declared.Half.TheVariants.{Plain, First, Second}
use Rattle.line.specs.Bits.{pick}
use Rattle.line.specs.Frame.{Frame, carried, start, acknowledge_slots}

-- the lengths 10, 15, 5, 10n, 18, 2, 2 and 8 of the table, added up
unfoldable pub part_of : ℕ → ℕ → Part
part_of n k =
    pick (ltb k 10) Start
    (pick (ltb k 25) Identifier
    (pick (ltb k 30) Command
    (pick (ltb k (30 + 10 * n)) Data
    (pick (ltb k (48 + 10 * n)) Check
    (pick (ltb k (50 + 10 * n)) EndOfData
    (pick (ltb k (52 + 10 * n)) Acknowledge
    (pick (ltb k (60 + 10 * n)) EndOfFrame After)))))))

-- the place of a slot in the five slots of its nibble: from the end of the start on
unfoldable pub in_five : ℕ → ℕ
in_five k = (k - 10) % 5

-- from identifier to end of data, which is "the pair 00 where a bit and its opposite were due"
unfoldable pub half_of : ℕ → ℕ → Half
half_of n k =
    pick (ltb k 10) Plain
    (pick (ltb k (50 + 10 * n)) (pick (ltb (in_five k) 3) Plain (pick (eqb (in_five k) 3) First Second)) Plain)

-- the place of the bit that a slot carries, among the bits of identifier, command, data and check
unfoldable pub bit_of : ℕ → ℕ
bit_of k = (k - 10) / 5 * 4 + min (in_five k) 3

unfoldable pub coded_level : Frame → ℕ → ℕ
coded_level f k =
    pick (eqb (in_five k) 4) (1 - get_or (carried f) (bit_of k) 0) (get_or (carried f) (bit_of k) 0)

unfoldable pub level_in : Frame → ℕ → Part → ℕ
level_in f k Start = get_or start k 1
level_in f k Identifier = coded_level f k
level_in f k Command = coded_level f k
level_in f k Data = coded_level f k
level_in f k Check = coded_level f k
level_in f k EndOfData = 0
level_in f k Acknowledge = get_or (acknowledge_slots f.acknowledge) (k - (50 + 10 * length f.bytes)) 1
level_in f k EndOfFrame = 1
level_in f k After = 1

unfoldable pub level_of : Frame → ℕ → ℕ
level_of f k = level_in f k (part_of (length f.bytes) k)
