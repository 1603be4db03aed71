use Rattle.std.proofs.Common.{sym, ◌∙◌}
use Rattle.region_bands.proofs.InsertLemmas.{last_at, last_none}
use Rattle.region_bands.proofs.linked.last_before.Goals as goal

pub returns-in-Some : goal.returns-in-Some
returns-in-Some c = λ front back is leads. last_at c.args.spans.now c.args.list front back is c.in-Some.at (sym c.in-Some.is ∙ leads) c.prev.result c.prev.ensures

pub returns-in-None : goal.returns-in-None
returns-in-None c = λ front back is leads. c.last.ensures ∙ last_none c.args.spans.now c.args.list front back is (sym c.in-None.is ∙ leads)
