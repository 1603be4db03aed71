use Rattle.std.proofs.Common.{sym, ◌∙◌}
use Rattle.region.proofs.moves.row_leaves_range.Goals as goal
use Rattle.region.proofs.RangeLemmas.{row_more, row_leaves, row_all}

pub returns-then-leaves_range-clause-leaves : goal.returns-then-leaves_range-clause-leaves
returns-then-leaves_range-clause-leaves c = row_leaves c.args.by.dx c.args.by.dy c.args.rows c.args.bands.now c.loop-columns.bands c.loop-columns.invariant c.in-Some.columns c.first_left.result c.first_left.ensures c.in-Some.is (sym c.leaves_range.ensures ∙ c.if-leaves_range.true)

pub loop-columns-smaller : goal.loop-columns-smaller
loop-columns-smaller c = (row_more c.args.by.dx c.args.by.dy c.args.rows c.args.bands.now c.loop-columns.bands c.skip_left.new.self c.loop-columns.invariant c.in-Some.columns c.first_left.result c.first_left.ensures c.in-Some.is (sym c.leaves_range.ensures ∙ c.if-leaves_range.false) c.skip_left.ensures).1

pub loop-columns-preserved : goal.loop-columns-preserved
loop-columns-preserved c = (row_more c.args.by.dx c.args.by.dy c.args.rows c.args.bands.now c.loop-columns.bands c.skip_left.new.self c.loop-columns.invariant c.in-Some.columns c.first_left.result c.first_left.ensures c.in-Some.is (sym c.leaves_range.ensures ∙ c.if-leaves_range.false) c.skip_left.ensures).0

pub returns-clause-leaves : goal.returns-clause-leaves
returns-clause-leaves c = row_all c.args.by.dx c.args.by.dy c.args.rows c.args.bands.now c.loop-columns.bands c.loop-columns.invariant c.first_left.result c.first_left.ensures c.in_default.is
