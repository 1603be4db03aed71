use Rattle.std.proofs.Common.{◌≡◌, ℕ, ◌≤◌, ◌*◌, ◌-◌, take}
use Rattle.subrectangles.specs.Subrectangles.{times}
use Rattle.subrectangles.specs.Counted.{count_in, IsBestOf}
use Rattle.subrectangles.specs.Pixels.{pixels_in, HasRoom}
use Rattle.subrectangles.proofs.background.counted_background.Given as goal

-- the rows passed are counted, and best is the best of their pixels
abbrev pub invariant-loop-y : goal.invariant-loop-y
invariant-loop-y l = record {
  within : l.y ≤ l.pixels.colours.height;
  counted : (q : ℕ) → count_in l.counter q ≡ times q (take (l.y * l.pixels.colours.width) (pixels_in l.pixels));
  room : HasRoom l.pixels l.places.items;
  best : IsBestOf (count_in l.counter) l.counter.best l.counter.most;
}

abbrev pub decreases-loop-y : goal.decreases-loop-y
decreases-loop-y l = l.pixels.colours.height - l.y
