use Rattle.std.proofs.Common.{◌+◌, ◌-◌, ◌^◌, length}
use Rattle.replay.proofs.Feeds.{HasLine}
use Rattle.replay.proofs.reading.read_line.Given as goal

-- what was read so far is the beginning of a line
abbrev pub invariant-loop-reader : goal.invariant-loop-reader
invariant-loop-reader g l = HasLine (g.R.Read.remaining l.fn.reader) (g.R.Read.remaining l.reader) l.line.items

abbrev pub decreases-loop-reader : goal.decreases-loop-reader
decreases-loop-reader g l = 2 ^ 27 + 1 - length l.line.items
