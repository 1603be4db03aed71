use Rattle.scene.proofs.Due.{kept-at}
use Rattle.scene.proofs.laws.held_as_alone.Goals as goal

pub returns : goal.returns
returns c = kept-at
