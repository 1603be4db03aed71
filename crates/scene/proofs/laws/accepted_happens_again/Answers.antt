use Rattle.scene.proofs.Accepted.{accepted_happens_again-holds}
use Rattle.scene.proofs.laws.accepted_happens_again.Goals as goal

pub returns : goal.returns
returns c = accepted_happens_again-holds
