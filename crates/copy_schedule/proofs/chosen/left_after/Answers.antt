use Rattle.region.specs.PlaceLemmas.{all-in_range}
use Rattle.copy_schedule.proofs.chosen.left_after.Goals as goal

pub from_rects_in_range-requires : goal.from_rects_in_range-requires
from_rects_in_range-requires c = all-in_range c.args.copies.now c.requires.copies

pub from_rects_in_range-requires-2 : goal.from_rects_in_range-requires-2
from_rects_in_range-requires-2 c = all-in_range c.args.pixels.now c.requires.pixels
