use Rattle.std.proofs.Common.{◌≡◌, length}
use Rattle.messages.specs.Steps.{IsShort, tells}
use Rattle.messages.specs.Partial.{unfinished_in, rest_in, reads}
use Rattle.messages.proofs.reading.Reading.read.Given as goal

abbrev pub invariant-loop-left : goal.invariant-loop-left
invariant-loop-left l =
    (reads l.reading.items.items l.reading.phase l.reading.partial l.left ≡ tells (rest_in l.fn.phase l.partial) l.piece)
    × IsShort l.reading.phase (unfinished_in l.reading.partial)

abbrev pub decreases-loop-left : goal.decreases-loop-left
decreases-loop-left l = length l.left
