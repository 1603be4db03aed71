use Rattle.std.proofs.Common.{◌≡◌, ◌++◌, take, drop, map}
use Rattle.pixel_translate.specs.Pixel.{pixel, server_format}
use Rattle.encode_hextile.proofs.cut.write_server_row.Given as goal

-- the first x pixels are written
abbrev pub invariant-loop-x : goal.invariant-loop-x
invariant-loop-x l = l.places ≡ map (pixel server_format) (take l.x l.colours) ++ drop l.x l.fn.places
