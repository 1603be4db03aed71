use Rattle.mirror.proofs.Sending.{sends_still, sends_asking}
use Rattle.mirror.proofs.source.Source.send_once.Goals as goal

pub returns-in_err-ask-clause-sends : goal.returns-in_err-ask-clause-sends
returns-in_err-ask-clause-sends g c = sends_still g.S.Write.contents c.args.self.now c.ask.new.self c.in_err-ask.ensures.err

pub returns-then-is_empty-clause-sends : goal.returns-then-is_empty-clause-sends
returns-then-is_empty-clause-sends g c = sends_asking g.S.Write.contents c.args.self.now c.ask.new.self c.in_ok-ask.ensures.asked
