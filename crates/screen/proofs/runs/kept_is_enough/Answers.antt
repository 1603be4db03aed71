use Rattle.screen.proofs.GoesOn.{kept_is_enough-by}
use Rattle.screen.proofs.runs.kept_is_enough.Goals as goal

pub returns : goal.returns
returns c = kept_is_enough-by c.accepted_is_enough.ensures c.accepted_happens_again.ensures
