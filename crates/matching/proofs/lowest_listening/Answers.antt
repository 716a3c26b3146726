use Rattle.std.proofs.Common.{rules, refl}
use Rattle.std.proofs.lemmas.Iterator.{YieldsList-from_range}
use Rattle.std.proofs.lemmas.Iterator.Search.{find_from_yields_List}
use borrow.Author.Tests.{tests}
use Rattle.rules.specs.Definitions.Channels.{takes, lowest_listening}
use Rattle.matching.proofs.Lowest.{lowest_found}
use Rattle.matching.proofs.lowest_listening.Goals as goal

pub returns : goal.returns
unfolding lowest_listening
returns c =
    lowest_found (λ k. takes c.args.m.now k c.args.high c.args.low) c.find.result
    (find_from_yields_List (λ k. takes c.args.m.now k c.args.high c.args.low) _ _ c.find.result c.find.ensures.ran (YieldsList-from_range 0 14 14 refl refl) (λ x b q k. search (rules, tests)))
