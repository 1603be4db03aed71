use Rattle.std.proofs.Common.{◌≡◌, map, take}
use Rattle.source_pixels.specs.Gathering.{piece_of}
use Rattle.source_pixels.proofs.pieces.find_differences.Given as goal

abbrev pub invariant-loop-band : goal.invariant-loop-band
invariant-loop-band g l = l.pieces ≡ map (piece_of l.source) (take l.band-index l.band-items)
