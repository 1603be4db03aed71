use Rattle.viewer_picture.proofs.Read.{rectangles-read}
use Rattle.viewer_picture.proofs.rectangles_are_read.Goals as goal

pub returns : goal.returns
returns c = rectangles-read c.raw_is_read_back.ensures c.rre_is_read_back.ensures c.hextile_is_read_back.ensures
