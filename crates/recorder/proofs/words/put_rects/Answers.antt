use Rattle.recorder.proofs.Lines.{more-rects}
use Rattle.recorder.proofs.words.put_rects.Goals as goal

pub loop-rect-preserved : goal.loop-rect-preserved
loop-rect-preserved g c = more-rects c.args.rects.now _ c.loop-rect.rect-index c.args.scribe.now c.loop-rect.scribe c.put_corners.new.scribe c.loop-rect-test.true c.loop-rect.invariant c.put_corners.ensures
