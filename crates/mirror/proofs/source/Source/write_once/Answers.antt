use Rattle.mirror.proofs.Sending.{sends_write}
use Rattle.mirror.proofs.source.Source.write_once.Goals as goal

pub returns-clause-sends : goal.returns-clause-sends
returns-clause-sends g c =
    sends_write _ _ c.write-written.result c.args.self.now.out c.write-written.new.self
    c.write-written.ensures.bytes c.write-written.ensures.written c.write-written.ensures.err
