-- What is claimed of a listing's first lines, and of its line `bad`.
use Rattle.std.specs.Prelude.{ℕ, ◌≤◌, List, [], ◌∷◌, ◌++◌, ◌≡◌, length, take}
use Rattle.leb128.specs.Leb128.{Bytes, uleb128}
use Rattle.session.specs.Reading.{fault_number, most_events, Events, NoHeader, Counted, session, bad}
use Rattle.session.specs.Writing.{events_bytes, AllFit}
use Rattle.session.specs.declared.Fault.{Fault}
use Rattle.session.specs.declared.Event.{Event}
use Rattle.rules.specs.Definitions.Run.{fresh}
use Rattle.listing.specs.Listing.{events_line, bad_line}
use Rattle.bench_record.specs.Record.{lines, listing_of}

-- A listing begins with the lines of a count and of events.
abbrev pub BeginsWith : ℕ → List Event → List ℕ → Type 0
BeginsWith count es text = (more : List ℕ) × (text ≡ (events_line count ++ lines fresh 0 es) ++ more)

-- the lines of the first events are the same whatever follows their bytes
abbrev pub FirstLines : Type 0
FirstLines = (count : ℕ) (es : List Event) → count ≤ most_events → length es ≤ count → AllFit es → (t : List ℕ) → BeginsWith count es (listing_of (uleb128 1 ++ uleb128 count ++ events_bytes es ++ t))

-- "session events before a bad one stand": the lines before a `bad` are the same whatever follows its place
abbrev pub LinesStand : Type 0
LinesStand =
    (s : List ℕ) → Bytes s → (count : ℕ) (r : Events) → session most_events s ≡ Counted count r → (f : Fault) (p k : ℕ) → r.end ≡ bad f p k → (t : List ℕ)
    → BeginsWith count r.events (listing_of (take p s ++ t))

-- 02, Req 02: "the `bad` line gains ` after K`". It is the only line, or the last one behind those of the events read.
pub record BadLines : Type 0 where
  pub header : (s : List ℕ) (f : Fault) (p k : ℕ) → session most_events s ≡ NoHeader f p k → listing_of s ≡ bad_line (fault_number f) p k
  pub events : (s : List ℕ) (count : ℕ) (r : Events) (f : Fault) (p k : ℕ) → session most_events s ≡ Counted count r → r.end ≡ bad f p k
      → listing_of s ≡ (events_line count ++ lines fresh 0 r.events) ++ bad_line (fault_number f) p k
  -- closed lines, in bytes: one of each fault, and one with a long place
  -- "bad 30 at 0 after 0"
  pub empty : listing_of [] ≡ 98 ∷ 97 ∷ 100 ∷ 32 ∷ 51 ∷ 48 ∷ 32 ∷ 97 ∷ 116 ∷ 32 ∷ 48 ∷ 32 ∷ 97 ∷ 102 ∷ 116 ∷ 101 ∷ 114 ∷ 32 ∷ 48 ∷ 10 ∷ []
  -- "bad 30 at 1 after 1"
  pub cut : listing_of (0x01 ∷ 0x81 ∷ []) ≡ 98 ∷ 97 ∷ 100 ∷ 32 ∷ 51 ∷ 48 ∷ 32 ∷ 97 ∷ 116 ∷ 32 ∷ 49 ∷ 32 ∷ 97 ∷ 102 ∷ 116 ∷ 101 ∷ 114 ∷ 32 ∷ 49 ∷ 10 ∷ []
  -- "bad 31 at 0 after 2"
  pub not_shortest : listing_of (0x83 ∷ 0x00 ∷ []) ≡ 98 ∷ 97 ∷ 100 ∷ 32 ∷ 51 ∷ 49 ∷ 32 ∷ 97 ∷ 116 ∷ 32 ∷ 48 ∷ 32 ∷ 97 ∷ 102 ∷ 116 ∷ 101 ∷ 114 ∷ 32 ∷ 50 ∷ 10 ∷ []
  -- "bad 32 at 0 after 3"
  pub too_large : listing_of (0x80 ∷ 0x80 ∷ 0x80 ∷ []) ≡ 98 ∷ 97 ∷ 100 ∷ 32 ∷ 51 ∷ 50 ∷ 32 ∷ 97 ∷ 116 ∷ 32 ∷ 48 ∷ 32 ∷ 97 ∷ 102 ∷ 116 ∷ 101 ∷ 114 ∷ 32 ∷ 51 ∷ 10 ∷ []
  -- "bad 33 at 0 after 1"
  pub version : listing_of (0x02 ∷ []) ≡ 98 ∷ 97 ∷ 100 ∷ 32 ∷ 51 ∷ 51 ∷ 32 ∷ 97 ∷ 116 ∷ 32 ∷ 48 ∷ 32 ∷ 97 ∷ 102 ∷ 116 ∷ 101 ∷ 114 ∷ 32 ∷ 49 ∷ 10 ∷ []
  -- "bad 34 at 1 after 2"
  pub count_4097 : listing_of (0x01 ∷ 0x81 ∷ 0x20 ∷ []) ≡ 98 ∷ 97 ∷ 100 ∷ 32 ∷ 51 ∷ 52 ∷ 32 ∷ 97 ∷ 116 ∷ 32 ∷ 49 ∷ 32 ∷ 97 ∷ 102 ∷ 116 ∷ 101 ∷ 114 ∷ 32 ∷ 50 ∷ 10 ∷ []
  -- "bad 35 at 2 after 1"
  pub kind : listing_of (0x01 ∷ 0x01 ∷ 0x05 ∷ []) ≡ events_line 1 ++ (98 ∷ 97 ∷ 100 ∷ 32 ∷ 51 ∷ 53 ∷ 32 ∷ 97 ∷ 116 ∷ 32 ∷ 50 ∷ 32 ∷ 97 ∷ 102 ∷ 116 ∷ 101 ∷ 114 ∷ 32 ∷ 49 ∷ 10 ∷ [])
  -- "bad 36 at 2 after 0"
  pub left_over : listing_of (0x01 ∷ 0x00 ∷ 0x07 ∷ []) ≡ events_line 0 ++ (98 ∷ 97 ∷ 100 ∷ 32 ∷ 51 ∷ 54 ∷ 32 ∷ 97 ∷ 116 ∷ 32 ∷ 50 ∷ 32 ∷ 97 ∷ 102 ∷ 116 ∷ 101 ∷ 114 ∷ 32 ∷ 48 ∷ 10 ∷ [])
  -- "bad 36 at 28675 after 0"
  pub long_place : bad_line 36 28675 0 ≡ 98 ∷ 97 ∷ 100 ∷ 32 ∷ 51 ∷ 54 ∷ 32 ∷ 97 ∷ 116 ∷ 32 ∷ 50 ∷ 56 ∷ 54 ∷ 55 ∷ 53 ∷ 32 ∷ 97 ∷ 102 ∷ 116 ∷ 101 ∷ 114 ∷ 32 ∷ 48 ∷ 10 ∷ []
