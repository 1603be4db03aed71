use Rattle.std.proofs.Common.{◌≡◌, ◌≤◌, ◌-◌, length, take, map}
use Rattle.pixel_translate.specs.Pixel.{pixel}
use Rattle.subrectangles.proofs.pixels.write_row.Given as goal

-- the colours passed are translated
abbrev pub invariant-loop-from : goal.invariant-loop-from
invariant-loop-from l = record {
  translated : take l.from l.places ≡ map (pixel l.table) (take l.from l.row);
  within : l.from ≤ length l.row;
  room : length l.places ≡ length l.row;
}

abbrev pub decreases-loop-from : goal.decreases-loop-from
decreases-loop-from l = length l.row - l.from
