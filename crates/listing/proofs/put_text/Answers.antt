use Rattle.std.proofs.Common.{arith}
use Rattle.listing.proofs.Puts.{text_put}
use Rattle.listing.proofs.put_text.Goals as goal

pub returns-clause-laid : goal.returns-clause-laid
returns-clause-laid c =
    let x = c.args in text_put x.room.now x.text.now c.copy_from_slice.new.self x.at (omega arith) c.copy_from_slice.ensures.after
