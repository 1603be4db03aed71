use Rattle.recorder.specs.Events.{screen_line}
use Rattle.recorder.proofs.Lines.{from-nothing}
use Rattle.recorder.proofs.recorder.Recorder.new.Goals as goal

pub returns : goal.returns
returns g c = from-nothing (g.W.Write.contents c.args.writer) (screen_line c.args.config.now) c.in_ok-new.field-0 c.put_config.new.self c.in_ok-new.ensures c.put_config.ensures
