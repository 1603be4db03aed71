use Rattle.subrectangles.specs.Pixels.{HaveRoom}
use Rattle.subrectangles.proofs.breaks.may_have_too_many.Given as goal

-- there is room for two rows
abbrev pub invariant-loop-k : goal.invariant-loop-k
invariant-loop-k l = HaveRoom l.pixels l.rows
