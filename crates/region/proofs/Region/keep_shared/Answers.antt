use Rattle.std.proofs.Common.{◌∙◌, ap}
use Rattle.region.specs.Region.{covers}
use Rattle.region.proofs.Region.keep_shared.Goals as goal

pub returns-clause-ok : goal.returns-clause-ok
returns-clause-ok c = λ x y. ap (λ v. covers v.list x y) c.swap.ensures.x_after ∙ c.in_ok-shared.ensures x y
