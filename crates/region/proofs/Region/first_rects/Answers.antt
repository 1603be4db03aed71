use Rattle.std.proofs.Common.{◌++◌, ◌∙◌, ap, subst, false}
use Rattle.std.specs.Prelude.{take}
use Rattle.region.specs.Rects.{lines_in}
use Rattle.region.specs.Region.{IsCanonical}
use Rattle.region.proofs.BandRectLemmas.{rects_canonical}
use Rattle.region.proofs.Region.first_rects.Goals as goal
use Rattle.region.specs.Forms.{bands_in}
use Rattle.region.proofs.FormLemmas.{form_bands}

pub returns-in_err-push_first-clause-canonical : goal.returns-in_err-push_first-clause-canonical
returns-in_err-push_first-clause-canonical c = subst (λ v. IsCanonical v.list) c.self.view_is (rects_canonical (bands_in c.self.inside.form) (form_bands c.self.inside.form c.self.invariant))

pub returns-clause-canonical : goal.returns-clause-canonical
returns-clause-canonical c = subst (λ v. IsCanonical v.list) c.self.view_is (rects_canonical (bands_in c.self.inside.form) (form_bands c.self.inside.form c.self.invariant))

pub returns-clause-first : goal.returns-clause-first
returns-clause-first c =
    c.from_vec.ensures
    ∙ c.truncate.ensures.items
    ∙ c.in_ok-push_first.ensures
    ∙ ap (λ l. take c.args.limit (l ++ lines_in false c.reader.result.bands)) c.new-list.ensures.items
    ∙ ap (λ r. take c.args.limit (lines_in false r.bands)) c.reader.ensures
    ∙ ap (λ v. take c.args.limit v.list) c.self.view_is
