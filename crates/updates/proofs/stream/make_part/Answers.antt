use Rattle.std.proofs.Common.{arith}
use Rattle.updates.proofs.RemainingLemmas.{on_ok}
use Rattle.updates.proofs.stream.make_part.Goals as goal

pub returns-else-is_err-clause-more : goal.returns-else-is_err-clause-more
returns-else-is_err-clause-more c = on_ok c.put_part-done.result _ _ c.put_part-done.ensures.more (λ f some. omega (arith, f some))
