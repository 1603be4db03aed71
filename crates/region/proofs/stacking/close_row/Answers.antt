use Rattle.region.proofs.StackLemmas.{closed}
use Rattle.region.proofs.stacking.close_row.Goals as goal

pub returns-clause-closed : goal.returns-clause-closed
returns-clause-closed c = λ yes. closed c.args.rows c.args.bands.now c.put_row.new.self c.requires.some c.requires.row c.requires.columns c.requires.are_bands c.requires.ends (c.goes_on_last.ensures c.if-goes_on_last.false) c.put_row.ensures.band
