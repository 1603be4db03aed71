use Rattle.source_talk.proofs.Growing.{heard_grows}
use Rattle.source_talk.proofs.laws.heard_stays.Goals as goal

pub returns : goal.returns
returns c said more over = (heard_grows said more).stays over
