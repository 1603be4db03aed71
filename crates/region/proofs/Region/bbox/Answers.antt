use Rattle.std.proofs.Common.{◌≡◌, [], ap, subst, None}
use Rattle.std.specs.Prelude.{◌↔◌, IfSome}
use Rattle.region_sets.specs.Queries.{IsBounds}
use Rattle.region.proofs.Region.bbox.Goals as goal
use Rattle.region.proofs.CallLemmas.{boxed_none, boxed_some}
use Rattle.region.specs.Forms.{bands_in}
use Rattle.region.proofs.FormLemmas.{form_bands}

pub returns-clause-none : goal.returns-clause-none
returns-clause-none c = boxed_none (bands_in c.self.inside.form) c.bounds.result c.rect_of_bounds.result c.args.self.now.list (form_bands c.self.inside.form c.self.invariant) (ap (λ v. v.list) c.self.view_is)
    (subst (λ r. (c.bounds.result ≡ None) ↔ (r.bands ≡ [])) c.reader.ensures c.bounds.ensures.none) c.rect_of_bounds.ensures

pub returns-clause-some : goal.returns-clause-some
returns-clause-some c = boxed_some (bands_in c.self.inside.form) c.bounds.result c.rect_of_bounds.result c.args.self.now.list (ap (λ v. v.list) c.self.view_is)
    (subst (λ r. IfSome c.bounds.result (λ b. IsBounds b r.bands)) c.reader.ensures c.bounds.ensures.some) c.rect_of_bounds.ensures
