-- 01, Session and listing: "A session is lent bytes and a reading place moving over them".
--   first == where the reading begins        here == what stands at the reading place        Moves == what a reader answers, and where it leaves the place
use Rattle.std.specs.Prelude.{ℕ, ◌≡◌, Result, Ok, Err}
use Rattle.session.specs.declared.Bad.{Bad}
use Rattle.session.specs.Reading.{Item, event_at}
use Rattle.reading_place.specs.declared.Session.{Session}

-- The first byte.
abbrev pub first : ℕ
first = 0

-- An event and the place behind it, or a fault.
abbrev pub here : Session → Item
here r = event_at r.src.now r.at

-- What a reader answers that moves the place behind what it read; at a fault the place stays.
abbrev pub Moves : {A : Type 0} → Result A Bad → Session → Session → Result (A × ℕ) Bad → Type 0
Moves (Ok x) old new read = (read ≡ Ok (x, new.at)) × (new.src ≡ old.src)
Moves (Err bad) old new read = (read ≡ Err bad) × (new ≡ old)
