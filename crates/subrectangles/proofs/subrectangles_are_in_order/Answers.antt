use Rattle.subrectangles.proofs.InOrder.{lists_in_order}
use Rattle.subrectangles.proofs.subrectangles_are_in_order.Goals as goal

pub returns : goal.returns
returns c = lists_in_order
