use Rattle.std.proofs.Common.{◌<◌, ◌*◌, ◌^◌, ℕ, get_or}
use Rattle.subrectangles.specs.Lines.{values_in}
use Rattle.encode_rre.proofs.are_low.Given as goal

-- no colour of the rows passed has a top byte
abbrev pub invariant-loop-y : goal.invariant-loop-y
invariant-loop-y l = (k : ℕ) → k < l.y * l.colours.width → get_or (values_in l.colours) k 0 < 2 ^ 24
