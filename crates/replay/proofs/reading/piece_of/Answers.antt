use Rattle.std.proofs.Common.{arith}
use Rattle.replay.proofs.Feeds.{piece_found, piece_open}
use Rattle.replay.proofs.reading.piece_of.Goals as goal

pub returns-in-Some : goal.returns-in-Some
returns-in-Some c = piece_found _ _ c.in-Some.ensures

pub returns-else-count-eq0 : goal.returns-else-count-eq0
returns-else-count-eq0 c = piece_open _ c.in-None.ensures (omega (arith, c.if-count-eq0.false))
