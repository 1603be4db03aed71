use Rattle.region_sets.proofs.StayLemmas.{not_true}
use Rattle.region_sets.proofs.first_stays.Goals as goal

pub returns-then-keeps-clause-apart : goal.returns-then-keeps-clause-apart
returns-then-keeps-clause-apart c = λ e. c.first_goes_on.ensures.no (not_true c.first_goes_on.result e)
