use Rattle.std.proofs.Common.{rules}
use Rattle.c_server.proofs.Turning.{listens, listens-not}
use Rattle.c_server.proofs.desk.ServerDesk.listen.Goals as goal

pub returns-in-Ok : goal.returns-in-Ok
returns-in-Ok c = listens c.listen_on.result c.in-Ok.made _ _ _ c.in-Ok.made.events _ _ _ _ _ c.as_slice-path.result.now (search rules) c.begin.ensures c.in-Ok.ensures.serves c.in-Ok.is c.listen_on.ensures.refused c.in-Ok.ensures.port c.in-Ok.ensures.spelled c.in-Ok.ensures.viewers

pub returns-in-Err : goal.returns-in-Err
returns-in-Err c = listens-not c.listen_on.result c.in-Err.e _ _ _ _ _ _ c.as_slice-path.result.now (search rules) (search rules) c.in-Err.is c.listen_on.ensures.refused c.listen_on.ensures.unspelled
