use Rattle.region.specs.CopyOrderLemmas.{copies-in-order}
use Rattle.copy_schedule.proofs.copies_are_in_order.Goals as goal

pub returns : goal.returns
returns c = copies-in-order
