use Rattle.std.proofs.Common.{rules}
use Rattle.c_server.proofs.TakenIn.{adopts, adopts-not, taken-at, refused-at}
use Rattle.c_server.proofs.desk.ServerDesk.adopt.Goals as goal

pub returns-in-Err : goal.returns-in-Err
returns-in-Err c = adopts-not _ _ _ c.in-Some.events _ _ _ _ _ _ _ _ _ _ _ _ (search rules) c.self.view_is c.in-Some.is (refused-at _ c.args.fd _ c.in-Err.ensures.err (search rules))

pub returns : goal.returns
returns c = adopts _ _ _ c.in-Some.events c.adopt-answer.new.self c.adopt-answer.result _ _ c.viewer_count.result _ _ _ _ _ _ _ _ _ _ _ _ _ (search rules) c.self.view_is c.in-Some.is (taken-at _ c.args.fd c.in-Ok.ensures.taken (search rules)) c.viewer_count.ensures (search rules) c.adopt_code.ensures c.adopt-answer.ensures.admitted (search rules) c.put_coming-self-inside.ensures c.adopt-answer.ensures.served
