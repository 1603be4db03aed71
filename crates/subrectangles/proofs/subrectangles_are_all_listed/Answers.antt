use Rattle.subrectangles.specs.Listed.{lists_the_subrectangles}
use Rattle.subrectangles.proofs.subrectangles_are_all_listed.Goals as goal

pub returns : goal.returns
returns c = lists_the_subrectangles
