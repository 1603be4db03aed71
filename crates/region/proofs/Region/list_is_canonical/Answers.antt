use Rattle.std.proofs.Common.{subst}
use Rattle.region.specs.Region.{IsCanonical}
use Rattle.region.proofs.Region.list_is_canonical.Goals as goal
use Rattle.region.proofs.BandRectLemmas.{rects_canonical}
use Rattle.region.specs.Forms.{bands_in}
use Rattle.region.proofs.FormLemmas.{form_bands}

pub returns : goal.returns
returns c = subst (λ v. IsCanonical v.list) c.self.view_is (rects_canonical (bands_in c.self.inside.form) (form_bands c.self.inside.form c.self.invariant))
