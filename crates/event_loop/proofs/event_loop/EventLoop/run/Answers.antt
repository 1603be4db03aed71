use Rattle.event_loop.proofs.Steps.{tells-before}
use Rattle.event_loop.proofs.event_loop.EventLoop.run.Goals as goal

pub returns : goal.returns
returns g c =
    record {
      served = tells-before g.A.Application.stands c.args.application.now c.run_on-ended.new.application c.run_on-ended.result _ _ _ c.run_on-ended.ensures.served c.flush_record.ensures.served;
      done = c.run_on-ended.ensures.done;
    }
