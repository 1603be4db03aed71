use Rattle.server_reader.proofs.ReadingLemmas.{drawn_right}
use Rattle.server_reader.proofs.laws.steps_are_drawn.Goals as goal

pub returns : goal.returns
returns c = drawn_right
