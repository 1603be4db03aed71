use Rattle.std.proofs.Common.{◌≡◌, [], ◌∙◌, ap, subst}
use Rattle.std.specs.Prelude.{IsTrue, ◌↔◌, slice_get}
use Rattle.std.specs.Option.{option_map}
use Rattle.region_bands.specs.Bands.{rows_of}
use Rattle.region.proofs.Region.is_empty.Goals as goal
use Rattle.region.proofs.CallLemmas.{whether_empty}
use Rattle.region.specs.Forms.{bands_in}
use Rattle.region.proofs.FormLemmas.{form_bands}

pub returns : goal.returns
returns c = subst (λ v. IsTrue c.is_none.result ↔ (v.list ≡ [])) c.self.view_is
    (whether_empty (bands_in c.self.inside.form) c.first_rows.result c.is_none.result (form_bands c.self.inside.form c.self.invariant)
    (c.first_rows.ensures ∙ ap (λ r. option_map rows_of (slice_get r.bands 0)) c.reader.ensures) c.is_none.ensures)
