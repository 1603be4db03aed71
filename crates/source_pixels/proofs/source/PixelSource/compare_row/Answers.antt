use Rattle.std.proofs.Common.{length, ap, ◌∙◌}
use Rattle.source_pixels.specs.Source.{Source, row_colours}
use Rattle.source_pixels.proofs.ChunkLemmas.{row_is, compared}
use Rattle.source_pixels.proofs.source.PixelSource.compare_row.Goals as goal

pub returns : goal.returns
returns c =
    let count = length c.args.row.now in
    compared
    (ap (λ (s : Source). row_colours s.format c.pixels.result.now count) c.self.view_is ∙ ap (λ l. row_colours c.args.self.now.format l count) c.pixels.ensures ∙ row_is c.args.self.now 0 c.args.y count)
    c.args.row.now c.compare_pixels.result c.compare_pixels.ensures
