-- How long the data of a frame may be (01, Frames on the line: data, "n bytes, 0 to 30").
--   capacity == the most data bytes of a frame that the state has room for        longest_of == the most that a controller takes and sends
--   most_nibbles == the whole nibbles before the check's last three bits, for so many data bytes
use Rattle.std.specs.Prelude.{ℕ, ◌+◌, ◌*◌}
use Rattle.line.specs.Frame.{longest_data}
use Rattle.rules.specs.declared.Core.{Core}

abbrev pub capacity : ℕ
capacity = longest_data

-- every rule asks the state for it
abbrev pub longest_of : Core → ℕ
longest_of k = capacity

-- identifier, command and check have seven, a data byte two: "7 to 67"
abbrev pub most_nibbles : ℕ → ℕ
most_nibbles longest = 7 + 2 * longest
