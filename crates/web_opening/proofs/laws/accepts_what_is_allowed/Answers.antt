use Rattle.web_opening.proofs.RequestLemmas.{accepts_what_is_allowed}
use Rattle.web_opening.proofs.laws.accepts_what_is_allowed.Goals as goal

pub returns : goal.returns
returns c = accepts_what_is_allowed
