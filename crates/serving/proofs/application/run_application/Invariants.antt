use Rattle.std.proofs.Common.{◌≡◌, List}
use Rattle.input_queue.specs.declared.Told.{Told}
use Rattle.serving.specs.Telling.{IsTold, Took}
use Rattle.serving.proofs.application.run_application.Given as goal

abbrev pub invariant-loop : goal.invariant-loop
invariant-loop g l =
    (l.taker.queue ≡ l.ends.queue)
    × (told : List Told) × Took told l.fn.taker l.taker × IsTold g.A.Application.stands told l.fn.application l.application
