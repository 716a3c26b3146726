use Rattle.std.proofs.Common.{◌≡◌, ◌∷◌, Ok, ◌∙◌, arith}
use Rattle.reading_place.specs.Items.{rest_of}
use Rattle.player.proofs.Rows.{one_more}
use Rattle.player.proofs.Reached.{reached_next}
use Rattle.player.proofs.play_events.Goals as goal

pub loop-item-preserved : goal.loop-item-preserved
loop-item-preserved c =
    let i = c.loop-item.invariant in
    let e : rest_of c.loop-item.item-iterator ≡ Ok c.in-Ok.event ∷ rest_of c.next.new.self = c.in-Some.ensures.steps ∙ rw c.in-Ok.is in
    let room = rw e at i.2 in
    let bound = c.play_event-place.ensures.bound in
    (tt, tt, omega arith, omega arith, reached_next c.loop-item.c _ _ i.4 c.play_event-place.ensures.state, one_more _ _ _ _ c.in-Ok.event _ (rw e at i.5) c.play_event-place.ensures.state c.play_event-place.ensures.laid)
