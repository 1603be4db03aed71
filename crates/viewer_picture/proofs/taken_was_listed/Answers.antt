use Rattle.viewer_picture.proofs.Taken.{taken-listed}
use Rattle.viewer_picture.proofs.taken_was_listed.Goals as goal

pub returns : goal.returns
returns c = taken-listed
