use Rattle.std.proofs.Common.{◌≡◌, take, map}
use Rattle.pixel_translate.specs.Pixel.{pixel}
use Rattle.subrectangles.proofs.pixels.write_each.Given as goal

-- the colours passed are translated, and so is the last of them
abbrev pub invariant-loop-x : goal.invariant-loop-x
invariant-loop-x l = record {
  translated : take l.x l.places ≡ map (pixel l.table) (take l.x l.piece);
  again : l.pixel ≡ pixel l.table l.last;
}
