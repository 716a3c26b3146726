use Rattle.player.proofs.Events.{event_laid}
use Rattle.player.proofs.play_event.Goals as goal

pub returns-clause-laid : goal.returns-clause-laid
returns-clause-laid c =
    let x = c.args in
    event_laid c.answer-a.result c.answer-a.new.c _ c.answer-a.ensures x.room.now x.at x.index x.e _ _ c.refused_by.ensures c.value_of.ensures _ _ c.lay_line.ensures.laid
