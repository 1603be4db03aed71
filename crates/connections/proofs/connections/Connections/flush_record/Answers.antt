use Rattle.connections.proofs.Drawing.{draws-flushed}
use Rattle.connections.proofs.Everyone.{goes-drawn-by}
use Rattle.connections.proofs.connections.Connections.flush_record.Goals as goal

pub returns-clause-served : goal.returns-clause-served
returns-clause-served g c = goes-drawn-by c.args.self.now c.self.inside.canvas c.flush_record.new.self _ _ _ _ _ _ c.self.view_is (draws-flushed c.self.inside.canvas c.flush_record.new.self c.flush_record.ensures.same c.flush_record.ensures.puts)
