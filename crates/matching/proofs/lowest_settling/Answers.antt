use Rattle.std.proofs.Common.{rules, refl}
use Rattle.std.proofs.lemmas.Iterator.{YieldsList-from_range}
use Rattle.std.proofs.lemmas.Iterator.Search.{find_from_yields_List}
use borrow.Author.Tests.{tests}
use Rattle.rules.specs.Definitions.Channels.{settles_reply}
use Rattle.matching.proofs.Lowest.{lowest_found}
use Rattle.matching.proofs.lowest_settling.Goals as goal

pub returns : goal.returns
returns c =
    lowest_found (settles_reply c.args.m.now c.args.longest c.args.high c.args.low) c.find.result
    (find_from_yields_List (settles_reply c.args.m.now c.args.longest c.args.high c.args.low) _ _ c.find.result c.find.ensures.ran (YieldsList-from_range 0 14 14 refl refl) (λ x b q k. search (rules, tests)))
