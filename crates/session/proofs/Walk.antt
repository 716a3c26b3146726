-- Laws: the readers of a header, an event and the end walk the session, one step each.
use Prim.Native.Nat.{ℕ, suc}
use mathlib.Core.List.{List, [], ◌∷◌}
use mathlib.Core.Path.{◌≡◌, refl}
use Rattle.session.specs.declared.Fault.{Fault}
use Rattle.session.specs.declared.Event.{Event}
use Rattle.session.specs.Reading.{header_at, event_at, end_at, follow, events_at, NoHeader, Counted, started, session, bad, Good, Next}

module _ (most : ℕ) (s : List ℕ) where
  pub no_header : {f : Fault} {p k : ℕ} → header_at most s 0 ≡ bad f p k → session most s ≡ NoHeader f p k
  unfolding session started
  no_header e = rw e

  pub counts : {count next : ℕ} → header_at most s 0 ≡ Good count next → session most s ≡ Counted count (events_at count s next)
  unfolding session started
  counts e = rw e

module _ (s : List ℕ) (at : ℕ) where
  pub none_due : events_at 0 s at ≡ record { events = []; end = end_at s at }
  unfolding events_at
  none_due = refl

  module _ (due : ℕ) where
    pub goes_on : {e : Event} {next : ℕ} → event_at s at ≡ Next e next
        → events_at (suc due) s at ≡ record { events = e ∷ (events_at due s next).events; end = (events_at due s next).end }
    unfolding events_at follow
    goes_on e = rw e
