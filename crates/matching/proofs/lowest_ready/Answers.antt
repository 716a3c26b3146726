use Rattle.std.proofs.Common.{rules, refl}
use Rattle.std.proofs.lemmas.Iterator.{YieldsList-from_range}
use Rattle.std.proofs.lemmas.Iterator.Search.{find_from_yields_List}
use borrow.Author.Tests.{tests}
use Rattle.rules.specs.Definitions.Channels.{ready, lowest_ready}
use Rattle.matching.proofs.Lowest.{lowest_found}
use Rattle.matching.proofs.lowest_ready.Goals as goal

pub returns : goal.returns
unfolding lowest_ready
returns c =
    lowest_found (ready c.args.m.now c.args.longest) c.find.result
    (find_from_yields_List (ready c.args.m.now c.args.longest) _ _ c.find.result c.find.ensures.ran (YieldsList-from_range 0 14 14 refl refl) (λ x b q k. search (rules, tests)))
