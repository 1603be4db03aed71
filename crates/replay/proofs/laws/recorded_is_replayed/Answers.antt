use Rattle.replay.proofs.ReadsReplayed.{recorded_is_replayed-holds}
use Rattle.replay.proofs.laws.recorded_is_replayed.Goals as goal

pub returns : goal.returns
returns c = recorded_is_replayed-holds
