use Rattle.std.proofs.Common.{rules}
use Rattle.c_server.proofs.Turning.{lets_go}
use Rattle.c_server.proofs.desk.ServerDesk.close_viewer.Goals as goal

pub returns : goal.returns
returns c = lets_go _ _ c.in-Some.events c.close_viewer.new.self c.args.viewer c.close_viewer.result _ _ _ _ _ _ _ _ _ _ _ _ (search rules) c.self.view_is c.in-Some.is c.closed_code.ensures c.close_viewer.ensures.none c.close_viewer.ensures.served
