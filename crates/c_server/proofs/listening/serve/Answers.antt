use Rattle.c_server.proofs.listening.serve.Goals as goal

pub returns-in-Err-clause-err : goal.returns-in-Err-clause-err
returns-in-Err-clause-err c = c.refused.ensures.system c.args.record_path.now
