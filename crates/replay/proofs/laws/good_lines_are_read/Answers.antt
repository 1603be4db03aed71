use Rattle.replay.proofs.GoodLines.{good_lines_are_read-holds}
use Rattle.replay.proofs.laws.good_lines_are_read.Goals as goal

pub returns : goal.returns
returns c = good_lines_are_read-holds
