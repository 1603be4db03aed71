use Rattle.source_talk.proofs.Shortness.{heard_short}
use Rattle.source_talk.proofs.laws.opening_is_short.Goals as goal

pub returns : goal.returns
returns c said bytes awaited = heard_short said bytes awaited
