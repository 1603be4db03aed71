use Rattle.viewer_picture.proofs.OnceCopied.{owed-or-shown}
use Rattle.viewer_picture.proofs.pictures_are_owed_or_shown.Goals as goal

pub returns : goal.returns
returns c = owed-or-shown
