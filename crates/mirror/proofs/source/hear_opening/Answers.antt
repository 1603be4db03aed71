use Rattle.std.proofs.Common.{rules}
use Rattle.mirror.proofs.Hearing.{ended_for_memory}
use Rattle.mirror.proofs.source.hear_opening.Goals as goal

pub returns-in_err-taken-clause-ended : goal.returns-in_err-taken-clause-ended
returns-in_err-taken-clause-ended c = ended_for_memory c.args.opening.now.said c.args.inbox.now c.from_residual.result (search rules)
