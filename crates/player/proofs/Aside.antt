-- A line that is made aside and copied.
use Prim.Native.Nat.{ℕ, ◌+◌, ◌≤◌}
use mathlib.Core.List.{List}
use mathlib.Core.Path.{◌≡◌}
use native.Mathlib.Omega.{arith}
use lib.ListN.{length, take}
use Rattle.listing.specs.Listing.{longest_line, line_room, line_place}
use Rattle.listing.specs.Laid.{Laid}
use Rattle.listing.proofs.Laws.{line_laid}
use Rattle.bench_record.proofs.Laws.{copied}

pub line_copied : (room text aside after copy : List ℕ) (at n r : ℕ) → longest_line ≤ length aside → n ≡ line_place (length aside) 0 text → after ≡ line_room aside 0 text → n ≤ longest_line
    → Laid room at (take n after) copy r → Laid room at text copy r × (r ≤ at + longest_line)
line_copied room text aside after copy at n r h p q b c =
    let l : Laid aside 0 text after n = line_laid {at = 0} h p q in
    let d : Laid room at text copy r = copied room text aside after copy at n r (omega arith) l c in
    let x = l.behind in
    let y = d.behind in
    (d, omega arith)
