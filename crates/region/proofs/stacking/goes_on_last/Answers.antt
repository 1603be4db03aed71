use Rattle.region_sets.specs.SetLemmas.{other_row}
use Rattle.region.proofs.stacking.goes_on_last.Goals as goal

pub returns-then-touches_last : goal.returns-then-touches_last
returns-then-touches_last c = λ h. other_row c.args.bands.now.above c.args.rows c.args.bands.now.row c.row_is_as_last.result c.row_is_as_last.ensures h
