use Rattle.connections.proofs.Everyone.{drawn-serves}
use Rattle.connections.proofs.laws.drawn_is_served.Goals as goal

pub returns : goal.returns
returns c = drawn-serves
