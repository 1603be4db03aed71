use Rattle.source_talk.proofs.Growing.{heard_grows}
use Rattle.source_talk.proofs.laws.answers_stay.Goals as goal

pub returns : goal.returns
returns c said more = (heard_grows said more).begins
