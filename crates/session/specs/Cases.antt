-- 01, Session and listing, and Marked cases (also run): the session of the listing, and the empty one. Beside them readings at a place that is not the first, or is
-- past the end. The fault of a number that is refused has the refusal's number.
use Rattle.std.specs.Prelude.{[], ◌∷◌, ◌≡◌}
use Rattle.leb128.specs.Leb128.{refusal_number}
use Rattle.leb128.specs.declared.Refusal.{Refusal}
use Rattle.session.specs.declared.Fault.TheVariants.{Cut, Version, Kind, LeftOver}
use Rattle.session.specs.declared.Event.TheVariants.{Reset, Write, Read}
use Rattle.session.specs.Reading.{fault_number, refusal, most_events, header_at, event_at, end_at, NoHeader, Counted, session, bad, Clean}

pub record Cases : Type 0 where
  pub empty : session most_events [] ≡ NoHeader Cut 0 0
  pub cut : fault_number Cut ≡ 30
  pub refused : (why : Refusal) → fault_number (refusal why) ≡ refusal_number why
  pub listing : session most_events (0x01 ∷ 0x03 ∷ 0x00 ∷ 0x02 ∷ 0x04 ∷ 0x01 ∷ 0x80 ∷ 0x01 ∷ 0x05 ∷ [])
      ≡ Counted 3 (record { events = Reset ∷ Read 4 ∷ Write 128 5 ∷ []; end = Clean })
  pub header_behind : header_at most_events (0x00 ∷ 0x82 ∷ 0x01 ∷ []) 1 ≡ bad Version 1 2
  pub header_past : header_at most_events (0x01 ∷ []) 5 ≡ bad Cut 1 0
  pub event_behind : event_at (0x00 ∷ 0x85 ∷ 0x01 ∷ []) 1 ≡ bad Kind 1 2
  pub event_past : event_at (0x00 ∷ []) 5 ≡ bad Cut 1 0
  pub end_behind : end_at (0x00 ∷ 0x00 ∷ []) 1 ≡ bad LeftOver 1 0
  pub end_past : end_at (0x00 ∷ []) 5 ≡ Clean
