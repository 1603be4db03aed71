use Rattle.demo_app.proofs.JudgedLemmas.{judged_here, told_here}
use Rattle.demo_app.proofs.serve.print_verdict.Goals as goal

pub returns-clause-judged : goal.returns-clause-judged
returns-clause-judged g c = judged_here (g.W.Write.contents c.args.writer.now) (g.W.Write.contents c.print_judgement.new.writer) c.print_judgement.result c.finish.result c.print_judgement.ensures.printed c.print_judgement.ensures.status

pub returns-clause-finished : goal.returns-clause-finished
returns-clause-finished g c = told_here _ (g.W.Write.contents c.args.writer.now) (g.W.Write.contents c.print_judgement.new.writer) c.print_judgement.result c.finish.result c.finish.ensures c.print_judgement.ensures.printed c.print_judgement.ensures.status
