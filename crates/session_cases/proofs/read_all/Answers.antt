use Rattle.std.proofs.Common.{arith}
use Rattle.session_cases.proofs.read_all.Goals as goal

pub read_events-requires : goal.read_events-requires
read_events-requires c =
    let few = c.events.ensures.few in omega arith
