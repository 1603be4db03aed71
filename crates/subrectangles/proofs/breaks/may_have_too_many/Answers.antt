use Rattle.std.proofs.Common.{arith}
use Rattle.subrectangles.proofs.RowsAsPixels.{have_room}
use Rattle.subrectangles.proofs.breaks.may_have_too_many.Goals as goal

pub loop-k-init : goal.loop-k-init
loop-k-init c = have_room c.args.pixels.now 0 c.in_ok-rows.rows (omega arith) c.in_ok-rows.ensures
