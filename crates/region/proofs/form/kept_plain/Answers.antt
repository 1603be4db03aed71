use Rattle.std.proofs.Common.{◌∙◌, ap, sym}
use Rattle.region.specs.Forms.{in_plain, bands_in}
use Rattle.region.specs.Region.{covers}
use Rattle.region.specs.Rects.{rects_in}
use Rattle.region_rows.specs.Rows.{keeps_place}
use Rattle.region.proofs.form.kept_plain.Goals as goal
use Rattle.region.proofs.FormLemmas.{plain_covers, form_plain}

pub returns-clause-places : goal.returns-clause-places
returns-clause-places c = λ x y.
    plain_covers c.in_ok-rect.rect x y
    ∙ c.in_ok-rect.ensures.places x y
    ∙ ap (λ p. keeps_place c.args.keep p (in_plain c.in_ok-one.other x y)) (sym (form_plain c.args.first.now c.in_ok-one.one x y c.in_ok-one.ensures.0))
    ∙ ap (keeps_place c.args.keep (covers (rects_in (bands_in c.args.first.now)) x y)) (sym (form_plain c.args.second.now c.in_ok-one.other x y c.in_ok-one.ensures.1))
