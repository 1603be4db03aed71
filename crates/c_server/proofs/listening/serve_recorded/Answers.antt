use Rattle.c_server.proofs.listening.serve_recorded.Goals as goal

pub returns-in-Err-clause-err : goal.returns-in-Err-clause-err
returns-in-Err-clause-err c = λ path named. c.refused.ensures.system path
