use Rattle.region_rows.proofs.MakeLemmas.{skip_more, skip_done}
use Rattle.region_rows.proofs.skip_row.Goals as goal

pub row-smaller : goal.row-smaller
row-smaller c = (skip_more c.args.reader.now c.row.reader c.skip_left.new.self c.first_left.result c.is_some.result c.row.invariant c.first_left.ensures c.is_some.ensures c.row-test.true c.skip_left.ensures).1

pub row-preserved : goal.row-preserved
row-preserved c = (skip_more c.args.reader.now c.row.reader c.skip_left.new.self c.first_left.result c.is_some.result c.row.invariant c.first_left.ensures c.is_some.ensures c.row-test.true c.skip_left.ensures).0

pub returns : goal.returns
returns c = skip_done c.args.reader.now c.row.reader c.first_left.result c.is_some.result c.row.invariant c.first_left.ensures c.is_some.ensures c.row-test.false
