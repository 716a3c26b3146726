use native.Mathlib.Omega.{arith}
use Rattle.bench_record.proofs.Laws.{listed}
use Rattle.player.proofs.play.Goals as goal

pub returns-clause-answer : goal.returns-clause-answer
returns-clause-answer c =
    let together = listed c.args.room.now _ _ _ (let b = c.put_listing-n.ensures.bound in omega arith) c.put_listing-n.ensures.laid in together.0

pub returns-clause-room : goal.returns-clause-room
returns-clause-room c =
    let together = listed c.args.room.now _ _ _ (let b = c.put_listing-n.ensures.bound in omega arith) c.put_listing-n.ensures.laid in together.1
