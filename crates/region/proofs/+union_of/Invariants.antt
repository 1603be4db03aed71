use Rattle.std.proofs.Common.{length}
use Rattle.region.proofs.+union_of.Given as goal

abbrev pub decreases-union_of : goal.decreases-union_of
decreases-union_of l = length l.rects.now
