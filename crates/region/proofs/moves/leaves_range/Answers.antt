use Rattle.std.proofs.Common.{sym, ◌∙◌, ap}
use Rattle.std.specs.Prelude.{not}
use Rattle.region.proofs.moves.leaves_range.Goals as goal
use Rattle.region.proofs.RangeLemmas.{in_sides}

pub returns : goal.returns
returns c = ap not (c.sides_stay.ensures ∙ sym (in_sides c.args.by.dx c.args.by.dy c.args.rows c.args.columns))
