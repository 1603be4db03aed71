use Rattle.replay.proofs.ReadsLaws.{beginnings_are_sessions-holds}
use Rattle.replay.proofs.laws.beginnings_are_sessions.Goals as goal

pub returns : goal.returns
returns c = beginnings_are_sessions-holds
