use Rattle.source_picture.proofs.DoneLemmas.{size_done}
use Rattle.source_picture.proofs.painter.resize.Goals as goal

pub returns-clause-resized : goal.returns-clause-resized
returns-clause-resized c config list was =
    size_done config list c.from.result c.from-2.result c.args.width c.args.height c.args.canvas.now.screen c.new_framebuffer.new.self.screen c.new_framebuffer.result c.from.ensures c.from-2.ensures was
    (c.new_framebuffer.ensures.step config list was) c.new_framebuffer.ensures.refused
