use Rattle.std.proofs.Common.{refl}
use Rattle.event_loop.proofs.Steps.{goes-same}
use Rattle.event_loop.proofs.viewers.Viewers.let_go_unopened.Goals as goal

pub returns-then-not-is_opening-clause-served : goal.returns-then-not-is_opening-clause-served
returns-then-not-is_opening-clause-served g c = goes-same _ _ refl
