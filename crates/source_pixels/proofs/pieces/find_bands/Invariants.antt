use Rattle.source_pixels.specs.Gathering.{AreGathered}
use Rattle.source_pixels.proofs.pieces.find_bands.Given as goal

abbrev pub invariant-loop-y : goal.invariant-loop-y
invariant-loop-y g l = AreGathered l.source (g.B.Beside.part l.picture) l.top l.y l.bands.items l.places
