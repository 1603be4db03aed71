use Rattle.std.proofs.Common.{rules}
use Rattle.c_server.proofs.Turning.{serves-unbound, serves-not}
use Rattle.c_server.proofs.desk.ServerDesk.serve.Goals as goal

pub returns-in-Ok : goal.returns-in-Ok
returns-in-Ok c = serves-unbound c.serve_unbound.result c.in-Ok.made _ _ _ c.in-Ok.made.events _ _ c.as_slice-path.result.now (search rules) c.begin.ensures c.in-Ok.ensures.serves c.in-Ok.is c.serve_unbound.ensures.refused c.in-Ok.ensures.viewers

pub returns-in-Err : goal.returns-in-Err
returns-in-Err c = serves-not c.serve_unbound.result c.in-Err.e _ _ _ _ c.as_slice-path.result.now (search rules) (search rules) c.in-Err.is c.serve_unbound.ensures.refused c.serve_unbound.ensures.later
