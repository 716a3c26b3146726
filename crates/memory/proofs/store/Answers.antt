use Prim.Native.Nat.{◌-◌}
use borrow.Kind.Array.{e_int, good_length}
use mir.Syntax.{w8}
use Rattle.memory.proofs.Laying.{stored_is, all_taken}
use Rattle.memory.proofs.store.Goals as goal

pub returns : goal.returns
returns c =
    let x = c.args in
    stored_is _ x.bytes x.pointer x.length x.n _ _ c.places_filled.result (c.min-end.result - 2) _ c.mailbox_at-first.ensures.value c.status_byte.ensures c.places_filled.ensures.value
    (all_taken x.bytes c.places_filled.result c.min-end.result (good_length (e_int w8) 34 x.bytes _ c.well_formed.1.1.1.0) c.min-end.ensures)
    c.lay.ensures
