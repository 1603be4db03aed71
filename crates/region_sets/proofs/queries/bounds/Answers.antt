use Rattle.std.proofs.Common.{◌∙◌, ap, sym, subst}
use Rattle.region_bands.specs.Bands.{Reading}
use Rattle.region_sets.specs.Walks.{IsJoined}
use Rattle.region_sets.proofs.BoundsLemmas.{all_bounds}
use Rattle.region_sets.proofs.queries.bounds.Goals as goal

pub returns-clause-some : goal.returns-clause-some
returns-clause-some c = all_bounds c.args.bands.now.bands c.in_ok-first.first c.bounds_with.result c.requires.are_bands (sym c.first_bounds.ensures.bounds ∙ c.in_ok-first.was)
    (subst (λ l. IsJoined c.in_ok-first.first l c.bounds_with.result) (ap (λ (u : Reading). u.bands) c.first_bounds.ensures.read) c.bounds_with.ensures)
