use Rattle.std.proofs.Common.{None}
use Rattle.demo_app.proofs.LoopLemmas.{opened}
use Rattle.demo_app.proofs.one_thread.open_loop.Goals as goal

pub returns-in-Some-clause-serves : goal.returns-in-Some-clause-serves
returns-in-Some-clause-serves g c = opened c.args.config _ c.recorded.result c.recorded.ensures.serves

pub returns-in-None-clause-serves : goal.returns-in-None-clause-serves
returns-in-None-clause-serves g c = opened c.args.config None c.new.result c.new.ensures.serves
