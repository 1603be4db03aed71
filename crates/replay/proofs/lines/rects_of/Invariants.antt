use Rattle.std.proofs.Common.{◌≡◌, ◌++◌, length}
use Rattle.replay.specs.Lines.{rects_of, behind_rects}
use Rattle.replay.proofs.lines.rects_of.Given as goal

-- the rectangles so far, and those of what is left
abbrev pub invariant-loop-rest : goal.invariant-loop-rest
invariant-loop-rest l = record {
  rects : l.rects ++ rects_of l.rest ≡ rects_of l.numbers;
  behind : behind_rects l.rest ≡ behind_rects l.numbers;
}

abbrev pub decreases-loop-rest : goal.decreases-loop-rest
decreases-loop-rest l = length l.rest
