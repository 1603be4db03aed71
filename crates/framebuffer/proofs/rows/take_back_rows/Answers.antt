use Rattle.std.proofs.Common.{◌∙◌}
use Rattle.std.proofs.Math.Seq.{map-set_same}
use Rattle.framebuffer.specs.Rows.{row_colours}
use Rattle.framebuffer.proofs.rows.take_back_rows.Goals as goal

pub loop-i-preserved : goal.loop-i-preserved
loop-i-preserved c = map-set_same row_colours c.loop-i.rows c.loop-i.i c.take_back.new.row c.index-rows-i.result c.take_back.ensures ∙ c.loop-i.invariant
