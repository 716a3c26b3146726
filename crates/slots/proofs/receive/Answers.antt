use native.Mathlib.Omega.{arith}
use Rattle.attempt.specs.Following.{following}
use Rattle.slots.proofs.Short.{received_as}
use Rattle.slots.proofs.receive.Goals as goal

pub returns-clause-state : goal.returns-clause-state
unfolding following
returns-clause-state c =
    let x = c.args in received_as x.m.now x.k.now x.v c.requires.goes _ _ c.take_frame.ensures (c.take_reply.ensures.ruled (omega arith)) c.requires.waits
