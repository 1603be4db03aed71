use Rattle.std.proofs.Common.{arith}
use Rattle.subrectangles.specs.Pixels.{pixels_in, some_pixels, whole}
use Rattle.subrectangles.specs.Counts.{majority}
use Rattle.subrectangles.proofs.background.background_of.Goals as goal

pub returns-then-half-count : goal.returns-then-half-count
returns-then-half-count c = majority (pixels_in c.args.pixels.now) c.likely-guess.result (some_pixels c.args.pixels.now) (omega (arith, whole c.args.pixels.now, c.if-half-count.true, c.in_ok-count.ensures.some))
