use Rattle.std.specs.Prelude.{length}
use Rattle.region.proofs.RangeLemmas.{BandsStay}
use Rattle.region.proofs.moves.some_leave_range.Given as goal

abbrev pub invariant-loop-rows : goal.invariant-loop-rows
invariant-loop-rows l = BandsStay l.fn.by.dx l.fn.by.dy l.fn.bands l.bands

abbrev pub decreases-loop-rows : goal.decreases-loop-rows
decreases-loop-rows l = length l.bands.bands
