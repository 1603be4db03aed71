use Rattle.viewer_picture.proofs.Legal.{legal-read}
use Rattle.viewer_picture.proofs.all_read_is_legal.Goals as goal

pub returns : goal.returns
returns c = legal-read
