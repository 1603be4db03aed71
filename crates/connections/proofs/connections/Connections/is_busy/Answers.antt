use Rattle.std.proofs.Common.{rules}
use Rattle.connections.proofs.Resting.{idle-rests}
use Rattle.connections.proofs.connections.Connections.is_busy.Goals as goal

pub returns-else-not-is_empty-clause-rests : goal.returns-else-not-is_empty-clause-rests
returns-else-not-is_empty-clause-rests g c = λ config began list serves idle key e there. idle-rests config began list c.args.self.now _ (search rules) serves idle key e there
