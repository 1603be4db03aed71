use Rattle.std.proofs.Common.{ap, sym, subst}
use Rattle.std.specs.Prelude.{IsTrue, ◌↔◌}
use Rattle.region_sets.specs.Queries.{SharePlace}
use Rattle.region.specs.Forms.{bands_in}
use Rattle.region.proofs.Region.meets.Goals as goal
use Rattle.region.proofs.CallLemmas.{shares}
use Rattle.region.proofs.FormLemmas.{plains_share}

pub returns-in-Some : goal.returns-in-Some
returns-in-Some c = plains_share c.self.inside.form c.other.inside.form c.in-Some.first c.in-Some.second c.args.self.now.list c.args.other.now.list c.have_shared.result
    c.in-Some.ensures.0 c.in-Some.ensures.1 (ap (λ v. v.list) c.self.view_is) (ap (λ v. v.list) c.other.view_is) c.have_shared.ensures

pub returns : goal.returns
returns c = shares (bands_in c.self.inside.form) (bands_in c.other.inside.form) c.args.self.now.list c.args.other.now.list c.meets.result
    (sym (ap (λ v. v.list) c.self.view_is)) (sym (ap (λ v. v.list) c.other.view_is))
    (subst (λ r. IsTrue c.meets.result ↔ SharePlace (bands_in c.self.inside.form) r.bands) c.reader-2.ensures (subst (λ r. IsTrue c.meets.result ↔ SharePlace r.bands c.reader-2.result.bands) c.reader.ensures c.meets.ensures))
