use Rattle.std.proofs.Common.{◌≡◌, ◌++◌, take, drop, map}
use Rattle.pixel_translate.specs.Pixel.{pixel}
use Rattle.encode_hextile.proofs.cut.write_row.Given as goal

-- the first x pixels are written, and the pixel at hand is the last colour's
abbrev pub invariant-loop-x : goal.invariant-loop-x
invariant-loop-x l = record {
  written : l.places ≡ map (pixel l.table) (take l.x l.colours) ++ drop l.x l.fn.places;
  known : l.known ≡ pixel l.table l.last;
}
