use Rattle.web_opening.proofs.HeadLemmas.{takes_any_cut}
use Rattle.web_opening.proofs.laws.takes_any_cut.Goals as goal

pub returns : goal.returns
returns c = takes_any_cut
