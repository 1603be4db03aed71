use Rattle.source_picture.proofs.EventLemmas.{text_drawn}
use Rattle.source_picture.proofs.painter.Painter.tell_text.Goals as goal

pub returns-then-is_whole-clause-same : goal.returns-then-is_whole-clause-same
returns-then-is_whole-clause-same c config list was =
    text_drawn config list c.bytes.result.now c.args.canvas.now.screen c.cut_text.new.self.screen c.cut_text.result was (c.cut_text.ensures.step config list was) c.cut_text.ensures.refused
