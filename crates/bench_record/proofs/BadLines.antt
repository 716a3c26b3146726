-- The line of a fault, with its place and how many bytes were looked at.
use Prim.Native.Nat.{ℕ}
use mathlib.Core.List.{List, ◌++◌, append_assoc}
use mathlib.Core.Path.{◌≡◌, refl, sym}
use Rattle.leb128.specs.Leb128.{decode, groups, before}
use Rattle.session.specs.Reading.{fault_number, refusal, placed, varint_at, counted, versioned, header_at, valued, operands, kinded, event_at, end_at, follow, Events, events_at, NoHeader, Counted, started, session, most_events, bad}
use Rattle.session.specs.declared.Fault.{Fault}
use Rattle.rules.specs.Definitions.Run.{fresh}
use Rattle.listing.specs.Listing.{decimal_in, decimal, events_line, bad_line}
use Rattle.bench_record.specs.Claims.{BadLines}
use Rattle.bench_record.specs.Record.{lines, closing, body, listing, listing_of}

in_header : (s : List ℕ) (f : Fault) (p k : ℕ) → session most_events s ≡ NoHeader f p k → listing_of s ≡ bad_line (fault_number f) p k
unfolding listing_of listing
in_header s f p k e = rw e

behind_events : (s : List ℕ) (count : ℕ) (r : Events) (f : Fault) (p k : ℕ) → session most_events s ≡ Counted count r → r.end ≡ bad f p k
    → listing_of s ≡ (events_line count ++ lines fresh 0 r.events) ++ bad_line (fault_number f) p k
unfolding listing_of listing body closing
behind_events s count r f p k e i = rw (e, i) (sym (append_assoc (events_line count) (lines fresh 0 r.events) (bad_line (fault_number f) p k)))

pub bad_lines : BadLines
unfolding decode groups before fault_number refusal placed varint_at counted versioned header_at valued operands kinded event_at end_at follow events_at started session lines closing body listing listing_of bad_line decimal decimal_in
bad_lines =
    record {
      header = in_header;
      events = behind_events;
      empty = refl;
      cut = refl;
      not_shortest = refl;
      too_large = refl;
      version = refl;
      count_4097 = refl;
      kind = refl;
      left_over = refl;
      long_place = refl;
    }
