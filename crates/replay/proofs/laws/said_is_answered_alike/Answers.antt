use Rattle.replay.proofs.ReadsAlike.{said_is_answered_alike-holds}
use Rattle.replay.proofs.laws.said_is_answered_alike.Goals as goal

pub returns : goal.returns
returns c = said_is_answered_alike-holds
