use Rattle.std.proofs.Common.{◌≡◌, ◌≤◌, ◌-◌, ◌*◌, take}
use Rattle.subrectangles.specs.Subrectangles.{times}
use Rattle.subrectangles.specs.Pixels.{pixels_in, HasRows}
use Rattle.subrectangles.proofs.background.times_until.Given as goal

-- the rows passed are counted
abbrev pub invariant-loop-y : goal.invariant-loop-y
invariant-loop-y l = record {
  within : l.y ≤ l.pixels.colours.height;
  counted : l.count ≡ times l.pixel (take (l.y * l.pixels.colours.width) (pixels_in l.pixels));
  rows : HasRows l.pixels (l.y - 1) l.rows;
  small : l.count ≤ l.y * l.pixels.colours.width;
}

abbrev pub decreases-loop-y : goal.decreases-loop-y
decreases-loop-y l = l.pixels.colours.height - l.y
