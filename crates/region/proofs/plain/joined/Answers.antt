use Rattle.std.proofs.Common.{sym, ◌∙◌}
use Rattle.region.proofs.plain.joined.Goals as goal
use Rattle.region.proofs.PlainLemmas.{either_outer, either_turned}

pub returns-then-holds-clause-places : goal.returns-then-holds-clause-places
returns-then-holds-clause-places c = λ x y. either_outer c.args.second c.args.first x y (sym c.holds.ensures ∙ c.if-holds.true)

pub returns-then-holds-2-clause-places : goal.returns-then-holds-2-clause-places
returns-then-holds-2-clause-places c = λ x y. either_turned c.args.first c.args.second x y (sym c.holds-2.ensures ∙ c.if-holds-2.true)
