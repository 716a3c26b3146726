-- The lines of what the iterator yields are those of the reading, and they are laid one behind another.
use Rattle.std.proofs.Common.{◌≡◌, ℕ, zero, suc, ◌+◌, ◌*◌, ◌≤◌, List, [], ◌∷◌, ◌++◌, Result, Ok, Err, arith, refl, ap, sym, ◌∙◌}
use mathlib.Core.List.{append_assoc}
use Rattle.session.specs.declared.Bad.{Bad}
use Rattle.session.specs.declared.Event.{Event}
use Rattle.session.specs.Reading as reading
use Rattle.session.specs.Reading.{End, Item, Clean, Next, Good, fault_number, most_events, header_at, event_at, end_at, follow, events_at}
use Rattle.rules.specs.declared.Controller.{Controller}
use Rattle.rules.specs.Definitions.Run.{fresh}
use Rattle.listing.specs.Listing.{line, events_line, end_line, bad_line}
use Rattle.listing.specs.Laid.{Laid}
use Rattle.bench_record.specs.Record.{answer_to, lines, closing, body, listing_of}
use Rattle.bench_record.proofs.Laws as laws
use Rattle.bench_record.proofs.Laws.{Goes, laid_on, laid_all}
use Rattle.reading_place.specs.Items.{ended, before, items}
use Rattle.player.specs.Rows.{rows, room_for}

rows_ended : (c : Controller) (index count : ℕ) (e : End) → rows c index count (ended e) ≡ closing count e
unfolding closing
rows_ended c index count Clean = refl
rows_ended c index count (Err bad) = refl

rows_before : (c : Controller) (index count : ℕ) (es : List Event) (e : End) → rows c index count (before es (ended e)) ≡ lines c index es ++ closing count e
unfolding lines
rows_before c index count [] e = rows_ended c index count e
rows_before c index count (v ∷ es) e =
    let l = line index v (answer_to c v).refused (answer_to c v).value in
    ap (λ (x : List ℕ). l ++ x) (rows_before (answer_to c v).next (index + 1) count es e) ∙ sym (append_assoc l (lines (answer_to c v).next (index + 1) es) (closing count e))

pub rows_items : (c : Controller) (index count : ℕ) (r : reading.Events) → rows c index count (items r) ≡ body c index count r
unfolding body
rows_items c index count r = rows_before c index count r.events r.end

-- room for them
room_ended : (e : End) → room_for (ended e) ≡ 80
room_ended Clean = refl
room_ended (Err bad) = refl

room_follow : (due : ℕ) (i : Item) (rest : ℕ → reading.Events) → ((next : ℕ) → room_for (items (rest next)) ≤ 80 * due + 80) → room_for (items (follow i rest)) ≤ 80 * suc due + 80
unfolding follow
room_follow due (Next e next) rest h = let l = h next in omega arith
room_follow due (Err bad) rest h = omega arith

pub rows_room : (due : ℕ) (s : List ℕ) (at : ℕ) → room_for (items (events_at due s at)) ≤ 80 * due + 80
unfolding events_at
rows_room zero s at = let e = room_ended (end_at s at) in omega arith
rows_room (suc due) s at = room_follow due (event_at s at) (λ next. events_at due s next) (rows_room due s)

-- the lines as the code lays them
pub one_more : {room now after : List ℕ} {text : List ℕ} {at place p : ℕ} (c c' : Controller) (index count : ℕ) (e : Event) (rest : List (Result Event Bad))
    → Goes room at text now place (rows c index count (Ok e ∷ rest)) → c' ≡ (answer_to c e).next
    → Laid now place (line index e (answer_to c e).refused (answer_to c e).value) after p
    → Goes room at text after p (rows c' (index + 1) count rest)
one_more c c' index count e rest g d l = rw d (laid_on g l)

pub fault_last : {room now after : List ℕ} {text : List ℕ} {at place p : ℕ} (c : Controller) (index count : ℕ) (bad : Bad) (rest : List (Result Event Bad))
    → Goes room at text now place (rows c index count (Err bad ∷ rest)) → Laid now place (bad_line (fault_number bad.why) bad.at bad.looked) after p → Laid room at text after p
fault_last c index count bad rest g l = laid_all g l

pub end_last : {room now after : List ℕ} {text : List ℕ} {at place p : ℕ} (c : Controller) (index count : ℕ)
    → Goes room at text now place (rows c index count []) → Laid now place (end_line count) after p → Laid room at text after p
end_last c index count g l = laid_all g l

pub header_bad : {room after : List ℕ} {r : ℕ} (s : List ℕ) (bad : Bad) → header_at most_events s 0 ≡ Err bad → Laid room 0 (bad_line (fault_number bad.why) bad.at bad.looked) after r
    → Laid room 0 (listing_of s) after r
header_bad s bad e l = laws.header_bad s e l

pub header_good : {room between after : List ℕ} {at r : ℕ} (s : List ℕ) (c next : ℕ) → header_at most_events s 0 ≡ Good c next → Laid room 0 (events_line c) between at
    → Laid between at (rows fresh 0 c (items (events_at c s next))) after r → Laid room 0 (listing_of s) after r
header_good s c next e k l = laws.header_good s c next e k (rw (rows_items fresh 0 c (events_at c s next)) at l)
