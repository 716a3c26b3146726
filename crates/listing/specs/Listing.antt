-- 01, Session and listing: the lines of a listing, as bytes.
--   decimal, hexadecimal == numerals        line == the line of an event with its answer        events_line, bad_line, end_line == the other lines
use Rattle.std.specs.Prelude.{ℕ, zero, suc, ◌+◌, ◌/◌, ◌%◌, Bool, List, [], ◌∷◌, ◌++◌, ltb, leb, eqb, length}
use Rattle.std.proofs.lemmas.List.Edits.{sets}
use Rattle.leb128.specs.Leb128.{pick}
use Rattle.session.specs.declared.Event.{Event}
use Rattle.session.specs.declared.Event.TheVariants.{Reset, Write, Read, Slot, Mark}
use Rattle.listing.specs.declared.Edge.{Edge}
use Rattle.listing.specs.declared.Edge.TheVariants.{Count, Bad, End}

-- The digit of a number below 16: 0 to 9, A to F.
unfoldable pub digit : ℕ → ℕ
digit d = pick (ltb d 10) (48 + d) (55 + d)

-- "all other numbers are decimal". A number n has at most n digits, or is 0: `left` bounds the recursion only.
unfoldable pub decimal_in : ℕ → ℕ → List ℕ
decimal_in zero n = (48 + n % 10) ∷ []
decimal_in (suc left) n = pick (ltb n 10) ((48 + n) ∷ []) (decimal_in left (n / 10) ++ ((48 + n % 10) ∷ []))

unfoldable pub decimal : ℕ → List ℕ
decimal n = decimal_in n n

-- "Addresses and read bytes are in capital hexadecimal, two digits or more as needed".
unfoldable pub two_digits : ℕ → List ℕ
two_digits n = digit (n / 16 % 16) ∷ digit (n % 16) ∷ []

unfoldable pub hexadecimal_in : ℕ → ℕ → List ℕ
hexadecimal_in zero n = two_digits n
hexadecimal_in (suc left) n = pick (ltb n 256) (two_digits n) (hexadecimal_in left (n / 16) ++ (digit (n % 16) ∷ []))

unfoldable pub hexadecimal : ℕ → List ℕ
hexadecimal n = hexadecimal_in n n

-- The words of a listing.
abbrev pub newline : List ℕ  -- line feed
newline = 10 ∷ []

abbrev pub events_text : List ℕ  -- "events "
events_text = 101 ∷ 118 ∷ 101 ∷ 110 ∷ 116 ∷ 115 ∷ 32 ∷ []

abbrev pub end_text : List ℕ  -- "end "
end_text = 101 ∷ 110 ∷ 100 ∷ 32 ∷ []

abbrev pub bad_text : List ℕ  -- "bad "
bad_text = 98 ∷ 97 ∷ 100 ∷ 32 ∷ []

abbrev pub at_text : List ℕ  -- " at "
at_text = 32 ∷ 97 ∷ 116 ∷ 32 ∷ []

abbrev pub after_text : List ℕ  -- " after "
after_text = 32 ∷ 97 ∷ 102 ∷ 116 ∷ 101 ∷ 114 ∷ 32 ∷ []

abbrev pub reset_text : List ℕ  -- " reset"
reset_text = 32 ∷ 114 ∷ 101 ∷ 115 ∷ 101 ∷ 116 ∷ []

abbrev pub write_text : List ℕ  -- " write "
write_text = 32 ∷ 119 ∷ 114 ∷ 105 ∷ 116 ∷ 101 ∷ 32 ∷ []

abbrev pub read_text : List ℕ  -- " read "
read_text = 32 ∷ 114 ∷ 101 ∷ 97 ∷ 100 ∷ 32 ∷ []

abbrev pub slot_text : List ℕ  -- " slot "
slot_text = 32 ∷ 115 ∷ 108 ∷ 111 ∷ 116 ∷ 32 ∷ []

abbrev pub mark_text : List ℕ  -- " mark "
mark_text = 32 ∷ 109 ∷ 97 ∷ 114 ∷ 107 ∷ 32 ∷ []

abbrev pub ok_text : List ℕ  -- " ok"
ok_text = 32 ∷ 111 ∷ 107 ∷ []

abbrev pub drives_text : List ℕ  -- " drives "
drives_text = 32 ∷ 100 ∷ 114 ∷ 105 ∷ 118 ∷ 101 ∷ 115 ∷ 32 ∷ []

abbrev pub refused_text : List ℕ  -- " refused "
refused_text = 32 ∷ 114 ∷ 101 ∷ 102 ∷ 117 ∷ 115 ∷ 101 ∷ 100 ∷ 32 ∷ []

-- `N write 08 refused 3`: the refusal's number.
unfoldable pub refused_end : ℕ → List ℕ
refused_end number = refused_text ++ decimal number

-- What follows the event in its line, by the refusal's number or 0 and by the value: ` ok`; ` 20`, the byte read; ` drives 1`, the level.
unfoldable pub ok_end : ℕ → List ℕ
ok_end refused = pick (eqb refused 0) ok_text (refused_end refused)

unfoldable pub byte_end : ℕ → ℕ → List ℕ
byte_end refused value = pick (eqb refused 0) (32 ∷ hexadecimal value) (refused_end refused)

unfoldable pub level_end : ℕ → ℕ → List ℕ
level_end refused value = pick (eqb refused 0) (drives_text ++ decimal value) (refused_end refused)

-- `reset ok`, `write 80 ok`, `read 04 20`, `slot 7 drives 1`, `mark 9`.
unfoldable pub event_text : Event → ℕ → ℕ → List ℕ
event_text Reset refused value = reset_text ++ ok_end refused
event_text (Write address v) refused value = (write_text ++ hexadecimal address) ++ ok_end refused
event_text (Read address) refused value = (read_text ++ hexadecimal address) ++ byte_end refused value
event_text (Slot levels) refused value = (slot_text ++ decimal levels) ++ level_end refused value
event_text (Mark n) refused value = mark_text ++ decimal n

-- The line of event number `index`.
unfoldable pub line : ℕ → Event → ℕ → ℕ → List ℕ
line index e refused value = (decimal index ++ event_text e refused value) ++ newline

-- `events 3`, `end 3`; `bad 31 at P`, and 02, Req 02: "the `bad` line gains ` after K`".
unfoldable pub events_line : ℕ → List ℕ
events_line count = (events_text ++ decimal count) ++ newline

unfoldable pub end_line : ℕ → List ℕ
end_line count = (end_text ++ decimal count) ++ newline

unfoldable pub bad_line : ℕ → ℕ → ℕ → List ℕ
bad_line number place looked = (((bad_text ++ decimal number) ++ (at_text ++ decimal place)) ++ (after_text ++ decimal looked)) ++ newline

abbrev pub edge_line : Edge → List ℕ
edge_line (Count count) = events_line count
edge_line (Bad number place looked) = bad_line number place looked
edge_line (End count) = end_line count

-- ---- a line in lent room

-- No line is longer.
abbrev pub longest_line : ℕ
longest_line = 80

-- A line is written where the longest one would fit; else it is refused and nothing is written.
unfoldable pub holds : ℕ → ℕ → Bool
holds room at = leb (at + longest_line) room

-- The room with a line laid at a place, and the place behind it.
unfoldable pub line_room : List ℕ → ℕ → List ℕ → List ℕ
line_room room at text = pick (holds (length room) at) (sets room at text) room

unfoldable pub line_place : ℕ → ℕ → List ℕ → ℕ
line_place room at text = pick (holds room at) (at + length text) at
