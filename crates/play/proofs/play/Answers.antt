use Rattle.std.proofs.Common.{◌≤◌, length, sym, arith}
use Rattle.std.proofs.lemmas.List.{length-take-le}
use Rattle.bench_record.proofs.Laws.{listed_fits}
use Rattle.play.proofs.play.Goals as goal

pub slice_bounds-listing-end : goal.slice_bounds-listing-end
slice_bounds-listing-end g c =
    let h = listed_fits _ _ c.in-Some.n c.in-Some.ensures.answer in omega arith

pub slice_bounds-write_all-end : goal.slice_bounds-write_all-end
slice_bounds-write_all-end g c =
    let h = listed_fits _ _ c.in-Some.n c.in-Some.ensures.answer in
    let k : c.in-Some.n ≤ length c.play.new.room = omega arith in
    sym (length-take-le c.in-Some.n c.play.new.room k)
