use Rattle.demo_app.proofs.PrintedLemmas.{given-none, given-some}
use Rattle.demo_app.proofs.serve.receipts_of.Goals as goal

pub returns-then-not-besides : goal.returns-then-not-besides
returns-then-not-besides g c = given-some c.args.options.now.viewers _ _ c.serve_all.result c.if-not-besides.true c.serve_all.ensures

pub returns-in-Some : goal.returns-in-Some
returns-in-Some g c = given-none c.args.options.now.viewers _ _ c.serve_without_end.result c.if-not-besides.false c.serve_without_end.ensures

pub returns-in_ok-new-in-None : goal.returns-in_ok-new-in-None
returns-in_ok-new-in-None g c = given-none c.args.options.now.viewers _ _ c.serve_without_end-in-None.result c.if-not-besides.false c.serve_without_end-in-None.ensures
