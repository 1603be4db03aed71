use Rattle.scene.proofs.Due.{refused-as-due}
use Rattle.scene.proofs.laws.refusals_are_due.Goals as goal

pub returns : goal.returns
returns c = refused-as-due
