use Rattle.std.proofs.Common.{◌∙◌}
use Rattle.region_sets.proofs.BandLemmas.{all_nodes}
use Rattle.region_sets.proofs.queries.count_nodes.Goals as goal

pub returns : goal.returns
returns c = c.count_all.ensures ∙ all_nodes c.args.bands.now.bands
