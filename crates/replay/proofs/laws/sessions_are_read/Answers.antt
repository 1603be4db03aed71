use Rattle.replay.proofs.ReadsLaws.{sessions_are_read-holds}
use Rattle.replay.proofs.laws.sessions_are_read.Goals as goal

pub returns : goal.returns
returns c = sessions_are_read-holds
