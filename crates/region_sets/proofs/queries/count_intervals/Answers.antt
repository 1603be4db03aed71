use Rattle.std.proofs.Common.{◌∙◌}
use Rattle.region_sets.proofs.BandLemmas.{all_intervals}
use Rattle.region_sets.proofs.queries.count_intervals.Goals as goal

pub returns : goal.returns
returns c = c.count_all.ensures ∙ all_intervals c.args.bands.now.bands
