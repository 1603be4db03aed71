use Rattle.std.proofs.Common.{◌++◌, ◌∙◌, ap, sym}
use Rattle.region.specs.RegionView.{only}
use Rattle.region.specs.Rects.{rects_in}
use Rattle.region.proofs.form.Form.of_bands.Goals as goal
use Rattle.region.proofs.OnlyLemmas.{only_is}

pub returns-in-Some-clause-bands : goal.returns-in-Some-clause-bands
returns-in-Some-clause-bands c =
    (only_is (c.args.bands.above ++ c.args.bands.below) c.in-Some.rect c.requires.bands (ap (λ r. only (rects_in r.bands)) (sym c.reader.ensures) ∙ sym c.only_rect.ensures ∙ c.in-Some.is)).is

pub returns-in-Some-clause-form : goal.returns-in-Some-clause-form
returns-in-Some-clause-form c =
    (only_is (c.args.bands.above ++ c.args.bands.below) c.in-Some.rect c.requires.bands (ap (λ r. only (rects_in r.bands)) (sym c.reader.ensures) ∙ sym c.only_rect.ensures ∙ c.in-Some.is)).has_places
