use Rattle.std.proofs.Common.{sym, ◌∙◌}
use Rattle.region.proofs.moves.some_leave_range.Goals as goal
use Rattle.region.proofs.RangeLemmas.{bands_on}

pub loop-rows-smaller : goal.loop-rows-smaller
loop-rows-smaller c = (bands_on c.args.by.dx c.args.by.dy c.args.bands.now c.loop-rows.bands c.row_leaves_range.new.bands c.advance.new.self c.loop-rows.invariant c.in-Some.rows c.first_rows.result c.first_rows.ensures c.in-Some.is (sym c.if-row_leaves_range.false ∙ c.row_leaves_range.ensures.leaves) c.row_leaves_range.ensures.read c.advance.ensures).1

pub loop-rows-preserved : goal.loop-rows-preserved
loop-rows-preserved c = (bands_on c.args.by.dx c.args.by.dy c.args.bands.now c.loop-rows.bands c.row_leaves_range.new.bands c.advance.new.self c.loop-rows.invariant c.in-Some.rows c.first_rows.result c.first_rows.ensures c.in-Some.is (sym c.if-row_leaves_range.false ∙ c.row_leaves_range.ensures.leaves) c.row_leaves_range.ensures.read c.advance.ensures).0
