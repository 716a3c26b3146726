-- Laws: the listing line by line, and laid in lent room line by line.
use Rattle.std.specs.Prelude.{Option, Some, None, Err}
use Prim.Native.Nat.{ℕ, ◌+◌, ◌≤◌, ◌<◌}
use mathlib.Core.Bool.{Bool, true, false}
use mathlib.Core.List.{List, ◌++◌}
use mathlib.Core.Path.{◌≡◌, refl, sym, ◌∙◌}
use native.Mathlib.Nat.{zero-add}
use native.Mathlib.Omega.{arith}
use borrow.Author.Tests.{ltb-false, le-ltb, lt-ltb}
use lib.Dec.{ltb, eqb}
use lib.ListN.{length, take, drop, length-append}
use lib.Seq.{sets, sets-eq, take-append_seam}
use Rattle.line.proofs.Room.{sets_append}
use Rattle.leb128.specs.Leb128.{pick}
use Rattle.session.specs.declared.Fault.{Fault}
use Rattle.session.specs.declared.Fault.TheVariants.{Count, Version}
use Rattle.session.specs.Reading.{most_events, fault_number, varint_at, counted, versioned, header_at, events_at, bad, Varint, Header, Value, Good}
use Rattle.session.proofs.Walk.{no_header, counts}
use Rattle.rules.specs.Definitions.Run.{fresh}
use Rattle.listing.specs.Listing.{events_line, bad_line}
use Rattle.listing.specs.Laid.{Laid}
use Rattle.listing.proofs.Laws.{joined}
use Rattle.bench_record.specs.Record.{body, listing, listing_of, played, played_room}

-- ---- a text of which the rest is still to be laid

pub record Goes (room : List ℕ) (at : ℕ) (text : List ℕ) (now : List ℕ) (place : ℕ) (rest : List ℕ) : Type 0 where
  pub room_is : sets room at text ≡ sets now place rest
  pub place_is : at + length text ≡ place + length rest

pub begun : (room : List ℕ) (at : ℕ) (text : List ℕ) → Goes room at text room at text
begun room at text = record { room_is = refl; place_is = refl }

pub laid_on : {room text now rest after part : List ℕ} {at place p : ℕ} → Goes room at text now place (part ++ rest) → Laid now place part after p → Goes room at text after p rest
laid_on {now = now} {rest} {part = part} {place = place} g l =
    record {
      room_is = g.room_is ∙ sets_append now place part rest ∙ rw (← l.room, ← l.behind);
      place_is = let x = g.place_is in let y = l.behind in omega (arith, length-append part rest);
    }

pub laid_all : {room text now rest after : List ℕ} {at place p : ℕ} → Goes room at text now place rest → Laid now place rest after p → Laid room at text after p
laid_all g l = record { room = l.room ∙ sym g.room_is; behind = l.behind ∙ sym g.place_is }

-- ---- the whole listing, in room that holds it or not; a text made aside

pub listed : (room text after : List ℕ) (n : ℕ) → n ≤ length room → Laid room 0 text after n → (Some n ≡ played (length room) text) × (after ≡ played_room room text)
unfolding played played_room
listed room text after n h l =
    let e : n ≡ length text = l.behind ∙ zero-add (length text) in
    let f : ltb (length room) (length text) ≡ false = le-ltb (length room) (length text) (omega arith) in
    let g : sets room 0 text ≡ text ++ drop (length text) room = sets-eq text room 0 (omega arith) ∙ rw zero-add in
    (rw (f, e), rw f (l.room ∙ g))

pub unlisted : (room text : List ℕ) (n : ℕ) → length room < n → n ≡ length text → (None ≡ played (length room) text) × (room ≡ played_room room text)
unfolding played played_room
unlisted room text n h e =
    let f : ltb (length room) (length text) ≡ true = lt-ltb (length room) (length text) (omega arith) in
    (rw f, rw f)

pub copied : (room text aside after copy : List ℕ) (at n r : ℕ) → n ≤ length aside → Laid aside 0 text after n → Laid room at (take n after) copy r → Laid room at text copy r
copied room text aside after copy at n r h l c =
    let e : n ≡ length text = l.behind ∙ zero-add (length text) in
    let g : after ≡ text ++ drop (length text) aside = l.room ∙ sets-eq text aside 0 (omega arith) ∙ rw zero-add in
    let k : take n after ≡ text = rw (g, e) (take-append_seam text (drop (length text) aside)) in
    rw k at c

-- ---- no count is above the largest

abbrev pub count_of : Header → ℕ
count_of (Good c next) = c
count_of (Err err) = 0

counted_most : (most at : ℕ) (r : Varint) → count_of (counted most at r) ≤ most
unfolding counted
counted_most most at (Err err) = omega arith
counted_most most at (Value c next used) = go (ltb most c) (ltb-false most c)
  where
    go : (t : Bool) → (t ≡ false → c ≤ most) → count_of (pick t (bad Count at used) (Good c next)) ≤ most
    go true h = omega arith
    go false h = h refl

versioned_most : (most : ℕ) (s : List ℕ) (at : ℕ) (r : Varint) → count_of (versioned most s at r) ≤ most
unfolding versioned
versioned_most most s at (Err err) = omega arith
versioned_most most s at (Value v next used) = go (eqb v 1)
  where
    go : (t : Bool) → count_of (pick t (counted most next (varint_at s next)) (bad Version at used)) ≤ most
    go true = counted_most most next (varint_at s next)
    go false = omega arith

pub count_most : (most : ℕ) (s : List ℕ) (at c next : ℕ) → header_at most s at ≡ Good c next → c ≤ most
unfolding header_at
count_most most s at c next e = rw e at (versioned_most most s at (varint_at s at))

pub header_bad : {room after : List ℕ} {r : ℕ} (s : List ℕ) {p k : ℕ} {f : Fault} → header_at most_events s 0 ≡ bad f p k → Laid room 0 (bad_line (fault_number f) p k) after r
    → Laid room 0 (listing_of s) after r
unfolding listing_of listing
header_bad s e l = rw (no_header most_events s e) l

pub header_good : {room between after : List ℕ} {at r : ℕ} (s : List ℕ) (c next : ℕ) → header_at most_events s 0 ≡ Good c next → Laid room 0 (events_line c) between at → Laid between at (body fresh 0 c (events_at c s next)) after r
    → Laid room 0 (listing_of s) after r
unfolding listing_of listing
header_good s c next e k l = rw (counts most_events s e) (joined k l)

-- ---- what is listed lies in the room

abbrev length_of : Option ℕ → ℕ
length_of (Some n) = n
length_of None = 0

pub listed_fits : (room : ℕ) (text : List ℕ) (n : ℕ) → Some n ≡ played room text → n ≤ room
unfolding played
listed_fits room text n e = rw (← e) at (go (ltb room (length text)) (ltb-false room (length text)))
  where
    go : (t : Bool) → (t ≡ false → length text ≤ room) → length_of (pick t None (Some (length text))) ≤ room
    go true h = omega arith
    go false h = h refl
