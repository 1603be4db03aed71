use Rattle.region.specs.PlaceLemmas.{all-in_range}
use Rattle.test_parts_calls.proofs.tests.marks.region_on_screen.Goals as goal

pub from_rects_in_range-requires : goal.from_rects_in_range-requires
from_rects_in_range-requires c = all-in_range c.args.rects.now c.requires
