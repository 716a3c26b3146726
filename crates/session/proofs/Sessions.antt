-- A session is read up to its first fault, the events before the fault do not depend on what follows it, and a good session is its events.
use Rattle.std.specs.Prelude.{Err}
use Prim.Native.Nat.{ℕ, ◌+◌, ◌-◌, ◌*◌, ◌≤◌}
use mathlib.Core.List.{List, [], ◌++◌, append-nil}
use mathlib.Core.Path.{◌≡◌, refl, ap, sym, ◌∙◌}
use native.Mathlib.Omega.{arith}
use native.Mathlib.Nat.{zero-add}
use lib.ListN.{length, take, drop}
use lib.Seq.{take-append_seam}
use Rattle.leb128.specs.Leb128.{Bytes, uleb128, groups_of}
use Rattle.session.specs.declared.Fault.{Fault}
use Rattle.session.specs.declared.Event.{Event}
use Rattle.session.specs.Reading.{most_events, Events, Reading, NoHeader, Counted, session, bad, End, Clean}
use Rattle.session.specs.Claims as claims
use Rattle.session.specs.Claims.{InHeader, InEvents, Ended, Answered, Begins, Settled, Good}
use Rattle.session.specs.Writing.{events_bytes, session_bytes, AllFit}
use Rattle.session.proofs.Walk.{none_due}
use Rattle.session.proofs.Stands.{session_stands}
use Rattle.session.proofs.Form as form
use Rattle.session.proofs.Form.{Form, onward, HeaderFault}
use Rattle.session.proofs.Whole.{EndFault, in_event, left_over, EndIs, SessionIs, session_is, whole, prepend, begins, stays, all, bound, at_end}

-- Which number is at the place of a fault, by the bytes before it.
front : {s : List ℕ} {w : List ℕ} {p : ℕ} → Form s 0 w p → take p s ≡ w
front {s} {w} {p} f = let e : p ≡ length w = f.place ∙ zero-add (length w) in ap (λ (n : ℕ). take n s) e ∙ ap (take (length w)) f.bytes ∙ take-append_seam w (drop p s)

in_header : {s : List ℕ} {p : ℕ} {f : Fault} → HeaderFault s 0 p f → InHeader s p f
in_header (form.version e) = claims.version e
in_header (form.count g) = claims.count (front g)
in_header (form.version_refused r e) = claims.version_refused r e
in_header (form.count_refused r g) = claims.count_refused r (front g)

in_events : {s : List ℕ} {m p due n : ℕ} {before : List ℕ} {f : Fault} → Form s 0 before m → EndFault s m p due n f → InEvents s p due n before f
in_events {before = before} h (in_event l (form.kind g)) = claims.kind l (front (onward h g) ∙ append-nil before)
in_events h (in_event l (form.refused r begun b g)) = claims.refused r begun l b (front (onward h g))
in_events h (left_over l i) = claims.left_over l (rw i (front h))

ended_is : (most : ℕ) (s : List ℕ) (due m : ℕ) (es : List Event) (e : End) → Form s 0 ((uleb128 1 ++ uleb128 due) ++ events_bytes es) m → EndIs due s m (length es) e
    → Ended most s due es e
unfolding EndIs Ended
ended_is most s due m es Clean g h = h.0
ended_is most s due m es (Err err) g h = (h.1 most, in_events g h.0)

answered_is : (most : ℕ) (s : List ℕ) (q : Reading) → SessionIs most s q → Answered most s q
unfolding SessionIs Answered
answered_is most s (NoHeader f p k) h = (h.0, in_header h.1)
answered_is most s (Counted c r) h = (h.most_due, h.read.fit, ended_is most s c h.read.last r.events r.end (onward h.header h.read.form) h.read.ends)

pub total : (most : ℕ) (s : List ℕ) → Bytes s → Answered most s (session most s)
total most s b = answered_is most s (session most s) (session_is most s b)

begins_with : (c : ℕ) (es : List Event) (r : Events) (q : Reading) → q ≡ Counted c (prepend es r) → Begins c es q
unfolding Begins
begins_with c es r q e = rw e (refl, (r.events, refl))

pub prefix : (most : ℕ) (s : List ℕ) → Bytes s → (c : ℕ) (r : Events) → session most s ≡ Counted c r → (f : Fault) (p k : ℕ) → r.end ≡ bad f p k
    → (t : List ℕ) → Begins c r.events (session most (take p s ++ t))
prefix most s b c r e f p k i t = begins_with c r.events _ (session most (take p s ++ t)) (stays most s b c r e f p k i t)

-- And so is the fault, unless the input was cut there: nothing behind the input changes what was found.
pub stands : (most : ℕ) (s t : List ℕ) → Bytes s → Settled (session most s) → session most (s ++ t) ≡ session most s
stands most s t b i = session_stands most s t b i

-- It is good exactly if it is the written form of at most `most` events whose numbers fit.
pub sound : (most : ℕ) (s : List ℕ) → Bytes s → (es : List Event) → Good most s es → (length es ≤ most) × AllFit es × (s ≡ session_bytes es)
unfolding session_bytes
sound most s b es e =
    let w = whole most s b (length es) (record { events = es; end = Clean }) e in
    (w.most_due, w.read.fit, all most s b (length es) (record { events = es; end = Clean }) e refl)

pub complete : (most : ℕ) (es : List Event) → length es ≤ most → length es ≤ 65535 → AllFit es → Good most (session_bytes es) es
unfolding session_bytes
complete most es h k fit =
    let z : length es - length es ≡ 0 = omega arith in
    begins most (length es) (session_bytes es) [] es h k fit (omega arith) (sym (append-nil _))
    ∙ ap (Counted (length es)) (rw (z, none_due, append-nil, at_end))

-- It has at most so many bytes.
pub size : (most : ℕ) (s : List ℕ) → Bytes s → (es : List Event) → Good most s es → length s ≤ 1 + length (uleb128 most) + 7 * most
size most s b es e = let d = sound most s b es e in rw d.2 (bound most es d.0)

pub largest_size : 1 + length (uleb128 most_events) + 7 * most_events ≡ 28675
unfolding uleb128 groups_of
largest_size = refl
