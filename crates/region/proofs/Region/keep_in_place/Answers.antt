use Rattle.std.proofs.Common.{ap, refl, sym, subst}
use Rattle.std.proofs.lemmas.Result.{on_ok_weaker}
use Rattle.region_bands.specs.Bands.{Reading}
use Rattle.region_sets.specs.Sets.{IsKept}
use Rattle.region.specs.Rects.{rects_in}
use Rattle.region.specs.Forms.{bands_in}
use Rattle.region.proofs.Region.keep_in_place.Goals as goal
use Rattle.region.proofs.CallLemmas.{kept_covers}

pub returns-clause-ok : goal.returns-clause-ok
returns-clause-ok c = on_ok_weaker c.keep_in_place.result (λ kept.
    kept_covers c.args.keep (bands_in c.self.inside.form) (bands_in c.other.inside.form) (bands_in c.keep_in_place.new.self)
    c.args.self.now.list c.args.other.now.list (rects_in (bands_in c.keep_in_place.new.self))
    (subst (λ (r : Reading). IsKept c.args.keep (bands_in c.self.inside.form) r.bands (bands_in c.keep_in_place.new.self)) c.reader.ensures kept)
    (sym (ap (λ v. v.list) c.self.view_is)) (sym (ap (λ v. v.list) c.other.view_is)) refl) c.keep_in_place.ensures.kept
