use Rattle.std.proofs.Common.{[], subst}
use Rattle.connections.specs.Drawing.{Surface}
use Rattle.connections.specs.Recorded.{PutsWhere}
use Rattle.connections.proofs.canvas.Canvas.flush_record.Goals as goal

pub returns-clause-puts : goal.returns-clause-puts
returns-clause-puts c = subst (λ (x : Surface). PutsWhere [] x.scribed c.flush.new.self) c.self.view_is c.flush.ensures.puts
