use Rattle.span_arena.proofs.CallLemmas.{same_held}
use Rattle.span_arena.proofs.Spans.reserve.Goals as goal

pub invariant_of-self : goal.invariant_of-self
invariant_of-self c = same_held c.self.inside.nodes c.reserve.new.self c.self.invariant c.reserve.ensures.rest_kept
