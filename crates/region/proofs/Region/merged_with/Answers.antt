use Rattle.std.proofs.Common.{◌≡◌, ◌++◌, ◌∙◌, ap, sym, subst}
use Rattle.std.proofs.lemmas.List.{append-nil}
use Rattle.region_bands.specs.Bands.{Bands, Reading}
use Rattle.region_sets.specs.Sets.{AreBands, IsKept}
use Rattle.region.specs.Forms.{bands_in}
use Rattle.region.proofs.Region.merged_with.Goals as goal
use Rattle.region.proofs.CallLemmas.{kept_covers}
use Rattle.region.proofs.FormLemmas.{form_bands}

pub merge_bands-requires-clause-first : goal.merge_bands-requires-clause-first
merge_bands-requires-clause-first c = subst (λ (r : Reading). AreBands r.bands) (sym c.reader-first.ensures) (form_bands c.self.inside.form c.self.invariant)

pub returns : goal.returns
returns c =
    let first = bands_in c.self.inside.form in
    let second = bands_in c.other.inside.form in
    let made = c.merge_bands.new.bands.above in
    let all = made ++ c.merge_bands.new.bands.below in
    let is : all ≡ made = ap (λ (u : Bands). made ++ u.below) c.in_ok-merge_bands.ensures.same ∙ append-nil made in
    kept_covers c.args.keep first second all c.args.self.now.list c.args.other.now.list c.in_ok-merged.merged.list
    (subst (IsKept c.args.keep first second) (sym is)
    (subst (λ (r : Reading). IsKept c.args.keep first r.bands made) c.reader-second.ensures
    (subst (λ (r : Reading). IsKept c.args.keep r.bands c.reader-second.result.bands made) c.reader-first.ensures c.in_ok-merge_bands.ensures.kept)))
    (sym (ap (λ v. v.list) c.self.view_is)) (sym (ap (λ v. v.list) c.other.view_is)) c.in_ok-merged.ensures
