use Rattle.scene.proofs.Accepted.{accepted_is_enough-holds}
use Rattle.scene.proofs.laws.accepted_is_enough.Goals as goal

pub returns : goal.returns
returns c = accepted_is_enough-holds
