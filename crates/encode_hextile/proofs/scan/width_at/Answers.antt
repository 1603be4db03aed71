use Rattle.std.proofs.Common.{◌≡◌, ◌∙◌}
use Rattle.subrectangles.specs.Subrectangles.{stretch}
use Rattle.encode_hextile.proofs.Lists.{stretch_some, stretch_within}
use Rattle.encode_hextile.proofs.scan.width_at.Goals as goal

pub returns : goal.returns
returns c =
    let same : c.from.result ≡ stretch c.args.row.now c.args.x = c.from.ensures ∙ c.requires.known c.args.x c.requires.inside in
    record {
      same = same;
      some = stretch_some c.args.row.now c.args.x c.from.result c.requires.inside same;
      within = stretch_within c.args.row.now c.args.x c.from.result c.requires.inside same;
    }
