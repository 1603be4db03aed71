use Rattle.demo_app.proofs.LoopLemmas.{ran-own}
use Rattle.demo_app.proofs.self_test_one_thread.run_in_scope.Goals as goal

pub returns-in_ok-shows-in-Ok-clause-served : goal.returns-in_ok-shows-in-Ok-clause-served
returns-in_ok-shows-in-Ok-clause-served g c =
    ran-own (λ s. s.drawn.items) (λ s. s.receipts.items) c.args.drawing c.run.new.application c.args.served c.run.new.self c.run.result _ c.in-Ok.is c.requires.drawn c.requires.receipts c.run.ensures.served
