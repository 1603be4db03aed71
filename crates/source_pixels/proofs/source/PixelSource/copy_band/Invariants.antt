use Rattle.std.proofs.Common.{◌-◌}
use Rattle.source_pixels.proofs.PieceLemmas.{AreWritten}
use Rattle.source_pixels.proofs.source.PixelSource.copy_band.Given as goal

abbrev pub invariant-loop-row : goal.invariant-loop-row
invariant-loop-row l = AreWritten l.self l.band.from l.band.top l.columns (l.band.bottom - l.band.top) l.row l.colours
