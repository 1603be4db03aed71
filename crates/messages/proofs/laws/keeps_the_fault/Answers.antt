use Rattle.messages.proofs.Feeding.{keeps_the_fault}
use Rattle.messages.proofs.laws.keeps_the_fault.Goals as goal

pub returns : goal.returns
returns c = keeps_the_fault
