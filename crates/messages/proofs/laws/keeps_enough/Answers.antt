use Rattle.messages.proofs.Feeding.{keeps_enough}
use Rattle.messages.proofs.laws.keeps_enough.Goals as goal

pub returns : goal.returns
returns c = keeps_enough
