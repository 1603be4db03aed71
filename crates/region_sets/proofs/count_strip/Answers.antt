use Rattle.region_sets.proofs.CountLemmas.{counts_on}
use Rattle.region_sets.proofs.count_strip.Goals as goal

pub returns-then-goes_on-clause-count : goal.returns-then-goes_on-clause-count
returns-then-goes_on-clause-count c = λ above row h h'.
    counts_on c.args.keep c.args.above_first.now c.args.above_second.now c.args.first.now c.args.second.now c.again-below_first.result c.again-below_second.result above row c.again-below_first.ensures c.again-below_second.ensures h h'
    (c.same_kept-goes_on.ensures.yes c.if-goes_on.true)
