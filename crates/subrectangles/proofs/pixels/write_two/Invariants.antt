use Rattle.std.proofs.Common.{◌≡◌, ◌≤◌, take, map}
use Rattle.pixel_translate.specs.Pixel.{pixel}
use Rattle.subrectangles.proofs.pixels.write_two.Given as goal

-- where no place has a third colour, the colours passed are translated
abbrev pub invariant-loop-x : goal.invariant-loop-x
invariant-loop-x l = record {
  translated : l.strangers ≡ 0 → take l.x l.places ≡ map (pixel l.table) (take l.x l.piece);
  small : l.strangers ≤ l.x;
}
