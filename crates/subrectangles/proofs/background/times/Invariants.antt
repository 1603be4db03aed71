use Rattle.std.proofs.Common.{◌≡◌, ◌≤◌, take}
use Rattle.subrectangles.specs.Subrectangles.{times}
use Rattle.subrectangles.proofs.background.times.Given as goal

-- the pixels passed are counted
abbrev pub invariant-loop-other : goal.invariant-loop-other
invariant-loop-other l = record { counted : l.count ≡ times l.pixel (take l.other-index l.pixels); small : l.count ≤ l.other-index }
