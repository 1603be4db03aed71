use Rattle.std.proofs.Common.{◌∙◌, rules}
use Rattle.demo_app.proofs.PrintedLemmas.{judged-of, prints-served, refused-or, widened}
use Rattle.demo_app.proofs.serve.serve.Goals as goal

pub returns-in-Err-clause-printed : goal.returns-in-Err-clause-printed
returns-in-Err-clause-printed g c = refused-or _ c.print_refusal.result c.print_refusal.ensures

pub returns-clause-status : goal.returns-clause-status
returns-clause-status g c = widened c.print_run.result c.print_run.ensures.either

pub returns-clause-judged : goal.returns-clause-judged
returns-clause-judged g c check =
    judged-of c.args.options.now.check c.in-Ok-receipts_of.receipts.items _ (g.W.Write.contents c.args.writer.now) (g.W.Write.contents c.print_run.new.writer) c.print_run.result check c.print_run.ensures.printed

pub returns-clause-printed : goal.returns-clause-printed
returns-clause-printed g c =
    prints-served c.args.options.now _ c.in-Ok-receipts_of.receipts.items _ _ (g.W.Write.contents c.args.writer.now) (g.W.Write.contents c.print_run.new.writer) c.print_run.result (c.in-Ok.ensures.shared ∙ c.in_ok-config_of.ensures) c.in-Ok-receipts_of.ensures c.print_run.ensures.printed
