use Rattle.player.proofs.Rows.{header_bad, header_good}
use Rattle.player.proofs.put_listing.Goals as goal

pub returns-in-Err-clause-laid : goal.returns-in-Err-clause-laid
returns-in-Err-clause-laid c =
    header_bad c.args.s.now c.in-Err.bad (rw (c.new-session.ensures.0, c.new-session.ensures.1) at c.in-Err.ensures.0) c.lay_fault.ensures.laid

pub returns-in-Ok-clause-laid : goal.returns-in-Ok-clause-laid
returns-in-Ok-clause-laid c =
    let h = rw (c.new-session.ensures.0, c.new-session.ensures.1) at c.in-Ok.ensures.0 in
    let l = rw (c.events.ensures.items, c.in-Ok.ensures.1, c.new-session.ensures.0) at c.play_events.ensures.laid in
    header_good c.args.s.now c.in-Ok.count c.header.new.self.at h c.lay_edge-at.ensures.laid l
