use Rattle.std.proofs.Common.{◌≡◌, ℕ, ◌<◌, get_or}
use Rattle.pixel_translate.specs.Pixel.{pixel}
use Rattle.subrectangles.proofs.colour_runs.ColourRun.has_all.Given as goal

-- the colours passed have the run's pixel
abbrev pub invariant-loop-colour : goal.invariant-loop-colour
invariant-loop-colour l = (k : ℕ) → k < l.colour-index → pixel l.self.table.now (get_or l.colours k 0) ≡ l.self.run.pixel
