-- Texts in lent room, for the contracts of the functions that write them.
--   Laid == a text laid at a place of the room        words == a line around the events, without its line feed        last_two == the last two decimal digits
use Rattle.std.specs.Prelude.{ℕ, ◌+◌, ◌/◌, ◌%◌, List, [], ◌∷◌, ◌++◌, ◌≡◌, length}
use Rattle.std.proofs.lemmas.List.Edits.{sets}
use Rattle.listing.specs.declared.Edge.{Edge}
use Rattle.listing.specs.declared.Edge.TheVariants.{Count, Bad, End}
use Rattle.listing.specs.Listing.{decimal, events_text, end_text, bad_text, at_text, after_text}

-- The text laid at a place of the room before gives the room after, and the place behind it.
pub record Laid (before : List ℕ) (at : ℕ) (text : List ℕ) (after : List ℕ) (place : ℕ) : Type 0 where
  pub room : after ≡ sets before at text
  pub behind : place ≡ at + length text

abbrev pub words : Edge → List ℕ
words (Count count) = events_text ++ decimal count
words (Bad number place looked) = ((bad_text ++ decimal number) ++ (at_text ++ decimal place)) ++ (after_text ++ decimal looked)
words (End count) = end_text ++ decimal count

-- The last two digits of a decimal number: tens and units.
unfoldable pub last_two : ℕ → List ℕ
last_two n = (48 + n / 10 % 10) ∷ (48 + n % 10) ∷ []
