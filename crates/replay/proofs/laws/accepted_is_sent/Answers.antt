use Rattle.replay.proofs.ReadsAccepted.{accepted_sends}
use Rattle.replay.proofs.laws.accepted_is_sent.Goals as goal

pub returns : goal.returns
returns c = accepted_sends
