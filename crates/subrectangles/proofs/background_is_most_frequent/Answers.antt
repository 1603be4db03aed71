use Rattle.subrectangles.specs.MostFrequent.{finds_the_background}
use Rattle.subrectangles.proofs.background_is_most_frequent.Goals as goal

pub returns : goal.returns
returns c = finds_the_background
