use Rattle.std.proofs.Common.{sym, ◌∙◌, ap}
use Rattle.std.specs.Prelude.{not}
use Rattle.region.proofs.plain.without.Goals as goal
use Rattle.region.proofs.PlainLemmas.{none_left, all_left}

pub returns-then-holds-clause-places : goal.returns-then-holds-clause-places
returns-then-holds-clause-places c = λ x y. none_left c.args.first c.args.second x y (sym c.holds.ensures ∙ c.if-holds.true)

pub returns-then-is_none-clause-places : goal.returns-then-is_none-clause-places
returns-then-is_none-clause-places c = λ x y. all_left c.args.first c.args.second c.shared.result x y c.shared.ensures.places (c.is_none.ensures ∙ ap not c.if-is_none.true)
