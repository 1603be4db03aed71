use Rattle.std.proofs.Common.{length, ◌∙◌, ap}
use Rattle.region_sets.specs.Queries.{intervals_in_all}
use Rattle.region.proofs.Region.count_rects.Goals as goal
use Rattle.region.proofs.CallLemmas.{counted}
use Rattle.region.specs.Forms.{bands_in}

pub returns : goal.returns
returns c = c.count_intervals.ensures ∙ ap (λ r. intervals_in_all r.bands) c.reader.ensures ∙ counted (bands_in c.self.inside.form) ∙ ap (λ v. length v.list) c.self.view_is
