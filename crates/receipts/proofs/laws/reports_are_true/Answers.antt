use Rattle.receipts.proofs.Means.{reports_are_true-holds}
use Rattle.receipts.proofs.laws.reports_are_true.Goals as goal

pub returns : goal.returns
returns c = reports_are_true-holds
