use Rattle.demo_app.proofs.PrintedLemmas.{all-served}
use Rattle.demo_app.proofs.serve.serve_on.Goals as goal

pub returns-clause-printed : goal.returns-clause-printed
returns-clause-printed g c = λ is. all-served c.args.options.now (g.W.Write.contents c.args.writer.now) (g.W.Write.contents c.serve_by_threads.new.writer) c.serve_by_threads.result (c.serve_by_threads.ensures.printed is)
