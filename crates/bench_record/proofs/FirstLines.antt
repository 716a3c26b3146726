-- The lines of the events that were read do not depend on what follows those events.
use Prim.Native.Nat.{ℕ, ◌+◌, ◌-◌, ◌≤◌}
use mathlib.Core.List.{List, [], ◌∷◌, ◌++◌, append_assoc}
use mathlib.Core.Path.{◌≡◌, refl, ap, sym, ◌∙◌}
use native.Mathlib.Omega.{arith}
use lib.ListN.{length, take}
use Rattle.leb128.specs.Leb128.{Bytes, uleb128}
use Rattle.session.specs.declared.Fault.{Fault}
use Rattle.session.specs.declared.Event.{Event}
use Rattle.session.specs.Reading.{most_events, Events, Reading, NoHeader, Counted, session, events_at, bad}
use Rattle.session.specs.Writing.{events_bytes, AllFit}
use Rattle.session.proofs.Whole.{begins}
use Rattle.session.specs.Claims.{Begins}
use Rattle.session.proofs.Sessions.{prefix}
use Rattle.rules.specs.Definitions.Run.{fresh}
use Rattle.rules.specs.declared.Controller.{Controller}
use Rattle.listing.specs.Listing.{line}
use Rattle.bench_record.specs.Claims.{BeginsWith}
use Rattle.bench_record.specs.Record.{answer_to, lines, closing, body, listing, listing_of}

lines_begin : (c : Controller) (index : ℕ) (es fs : List Event) → (more : List ℕ) × (lines c index (es ++ fs) ≡ lines c index es ++ more)
unfolding lines
lines_begin c index [] fs = (lines c index fs, refl)
lines_begin c index (e ∷ es) fs =
    let r = lines_begin (answer_to c e).next (index + 1) es fs in
    let l = line index e (answer_to c e).refused (answer_to c e).value in
    (r.0, ap (λ (x : List ℕ). l ++ x) r.1 ∙ sym (append_assoc l (lines (answer_to c e).next (index + 1) es) r.0))

listing_begins : (count : ℕ) (es : List Event) (r : Events) (fs : List Event) → r.events ≡ es ++ fs → BeginsWith count es (listing (Counted count r))
unfolding listing body
listing_begins count es r fs e =
    let b = lines_begin fresh 0 es fs in
    let x = closing count r.end in
    (b.0 ++ x, rw (e, b.1) (simp append_assoc))

-- Sessions that agree on the bytes of their count and first events have the same lines for these.
pub first_events : (count : ℕ) (es : List Event) → count ≤ most_events → length es ≤ count → AllFit es
    → (t : List ℕ) → BeginsWith count es (listing_of (uleb128 1 ++ uleb128 count ++ events_bytes es ++ t))
unfolding listing_of
first_events count es h n fit t =
    let s = uleb128 1 ++ uleb128 count ++ events_bytes es ++ t in
    let b = begins most_events count s t es h (omega arith) fit n refl in
    let r = events_at (count - length es) s (length (uleb128 1 ++ uleb128 count ++ events_bytes es)) in
    rw b (listing_begins count es (record { events = es ++ r.events; end = r.end }) r.events refl)

begun_so : (count : ℕ) (es : List Event) (q : Reading) → Begins count es q → BeginsWith count es (listing q)
unfolding Begins
begun_so count es (NoHeader f p k) b = absurd b
begun_so count es (Counted d r) b = rw b.0 (listing_begins count es r b.1.0 b.1.1)

-- The lines before a `bad` are the same whatever follows its place.
pub before_a_fault : (s : List ℕ) → Bytes s → (count : ℕ) (r : Events) → session most_events s ≡ Counted count r → (f : Fault) (p k : ℕ) → r.end ≡ bad f p k
    → (t : List ℕ) → BeginsWith count r.events (listing_of (take p s ++ t))
unfolding listing_of
before_a_fault s b count r e f p k i t = begun_so count r.events (session most_events (take p s ++ t)) (prefix most_events s b count r e f p k i t)
