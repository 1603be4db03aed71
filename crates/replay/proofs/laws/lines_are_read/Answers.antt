use Rattle.replay.proofs.ReadsLaws.{lines_are_read-holds}
use Rattle.replay.proofs.laws.lines_are_read.Goals as goal

pub returns : goal.returns
returns c = lines_are_read-holds
