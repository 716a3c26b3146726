use Rattle.attempt.specs.Following.{following}
use Rattle.slots.proofs.Short.{sent_as}
use Rattle.slots.proofs.send.Goals as goal

pub returns-clause-state : goal.returns-clause-state
unfolding following
returns-clause-state c =
    let x = c.args in sent_as x.m.now x.k.now x.v c.requires.goes _ _ c.take_frame.ensures (c.advance.ensures.ruled c.requires.room) c.requires.waits
