use Rattle.std.specs.Prelude.{length}
use Rattle.region.proofs.RangeLemmas.{RowStays}
use Rattle.region.proofs.moves.row_leaves_range.Given as goal

abbrev pub invariant-loop-columns : goal.invariant-loop-columns
invariant-loop-columns l = RowStays l.fn.by.dx l.fn.by.dy l.fn.rows l.fn.bands l.bands

abbrev pub decreases-loop-columns : goal.decreases-loop-columns
decreases-loop-columns l = length l.bands.left
