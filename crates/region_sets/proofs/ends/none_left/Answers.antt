use Rattle.std.proofs.Common.{◌∙◌, sym}
use Rattle.region_bands.specs.declared.Interval.{Interval}
use Rattle.region_sets.proofs.EndLemmas.{none_there}
use Rattle.region_sets.proofs.ends.none_left.Goals as goal

pub returns-in-None-clause-yes : goal.returns-in-None-clause-yes
returns-in-None-clause-yes c = λ _. none_there Interval c.args.bands.now.left (sym c.first_left.ensures ∙ c.in-None.is)
