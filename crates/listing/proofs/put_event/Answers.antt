use Rattle.listing.proofs.Laws.{joined}
use Rattle.listing.specs.Listing.{event_text}
use Rattle.listing.proofs.put_event.Goals as goal

pub returns-in-Slot-clause-laid : goal.returns-in-Slot-clause-laid
unfolding event_text
returns-in-Slot-clause-laid c =
    rw c.in-Slot.is (joined c.put_number-p.ensures.laid c.put_level.ensures.laid)
