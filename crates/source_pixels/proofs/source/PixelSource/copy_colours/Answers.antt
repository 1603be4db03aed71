use Rattle.std.proofs.Common.{length, ap, ◌∙◌}
use Rattle.source_pixels.specs.Source.{Source, row_colours}
use Rattle.source_pixels.proofs.ChunkLemmas.{row_is}
use Rattle.source_pixels.proofs.source.PixelSource.copy_colours.Goals as goal

pub returns : goal.returns
returns c =
    let count = length c.args.places.now in
    c.write_pixels.ensures
    ∙ ap (λ (s : Source). row_colours s.format c.pixels.result.now count) c.self.view_is
    ∙ ap (λ l. row_colours c.args.self.now.format l count) c.pixels.ensures
    ∙ row_is c.args.self.now c.args.x c.args.y count
