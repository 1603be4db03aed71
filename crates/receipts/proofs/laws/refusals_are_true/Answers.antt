use Rattle.receipts.proofs.Means.{refusals_are_true-holds}
use Rattle.receipts.proofs.laws.refusals_are_true.Goals as goal

pub returns : goal.returns
returns c = refusals_are_true-holds
