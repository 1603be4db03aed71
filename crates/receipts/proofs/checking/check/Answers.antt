use Rattle.receipts.proofs.Means.{means}
use Rattle.receipts.proofs.checking.check.Goals as goal

pub returns : goal.returns
returns c =
    let told = means c.args.config.now c.args.history.now c.args.drawn.now c.args.receipts.now c.judged.result c.reports_are_true.ensures c.refusals_are_true.ensures c.judged.ensures in
    record { checked = c.judged.ensures; report = told.0; refusal = told.1 }
