use Rattle.std.proofs.Common.{ap}
use Rattle.input_queue.proofs.Moves.{opens}
use Rattle.input_queue.proofs.hub.InputHub.new.Goals as goal

pub another-taking-requires-clause-rule : goal.another-taking-requires-clause-rule
another-taking-requires-clause-rule c = let is = c.in_ok-queue.ensures.3 in opens _ _ (ap (λ v. v.makes) is) (ap (λ v. v.takes) is)
