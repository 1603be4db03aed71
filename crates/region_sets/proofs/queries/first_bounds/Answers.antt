use Rattle.region_sets.proofs.BandLemmas.{first_read}
use Rattle.region_sets.proofs.queries.first_bounds.Goals as goal

pub returns-clause-read : goal.returns-clause-read
returns-clause-read c = first_read c.args.bands.now c.left_columns.new.bands c.advance.new.self c.first_rows.result c.in_ok-rows.rows c.first_rows.ensures c.in_ok-rows.was c.left_columns.ensures.read c.advance.ensures
