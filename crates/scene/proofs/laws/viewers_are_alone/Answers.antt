use Rattle.scene.proofs.Alike.{told_alike-holds}
use Rattle.scene.proofs.laws.viewers_are_alone.Goals as goal

pub returns : goal.returns
returns c = told_alike-holds
