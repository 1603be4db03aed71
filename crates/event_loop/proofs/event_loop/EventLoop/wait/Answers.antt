use Rattle.event_loop.proofs.Steps.{on-then, on-from}
use Rattle.event_loop.proofs.event_loop.EventLoop.wait.Goals as goal

pub returns-in_err-noted : goal.returns-in_err-noted
returns-in_err-noted g c = record { served = on-then _ _ _ (on-from c.args.self.now c.self.inside.viewers.connections c.flush_record.new.self c.self.view_is c.flush_record.ensures.served) c.note_found.ensures.served }

pub returns : goal.returns
returns g c = record { served = on-then _ _ _ (on-from c.args.self.now c.self.inside.viewers.connections c.flush_record.new.self c.self.view_is c.flush_record.ensures.served) c.note_found.ensures.served }
