use Rattle.std.proofs.Common.{sym, ◌∙◌, ap, to_z, of_z}
use Rattle.std.specs.Prelude.{FitsSigned}
use Rattle.std.specs.Int.{w32}
use Rattle.std.proofs.lemmas.Int.{to_z-of_z}
use Rattle.region.specs.Region.{covers}
use Rattle.region_sets.specs.Sets.{has}
use Rattle.region.proofs.Region.contains.Goals as goal
use Rattle.region.proofs.BandRectLemmas.{covers_has}
use Rattle.region.specs.Forms.{bands_in}

pub returns : goal.returns
returns c =
    let x : FitsSigned w32 c.args.x = c.ranges.x in
    let y : FitsSigned w32 c.args.y = c.ranges.y in
    c.contains.ensures
    ∙ ap (λ n. has c.reader.result.bands n (to_z w32 (of_z w32 c.args.y))) (to_z-of_z w32 c.args.x x)
    ∙ ap (λ n. has c.reader.result.bands c.args.x n) (to_z-of_z w32 c.args.y y)
    ∙ ap (λ r. has r.bands c.args.x c.args.y) c.reader.ensures
    ∙ sym (covers_has (bands_in c.self.inside.form) c.args.x c.args.y)
    ∙ ap (λ v. covers v.list c.args.x c.args.y) c.self.view_is
