use Rattle.source_picture.proofs.EventLemmas.{bell_drawn}
use Rattle.source_picture.proofs.painter.ring.Goals as goal

pub returns-clause-same : goal.returns-clause-same
returns-clause-same c config list was = bell_drawn config list c.args.canvas.now.screen c.bell.new.self.screen c.bell.result was (c.bell.ensures.step config list was)
