use Rattle.std.proofs.Common.{◌∙◌, length}
use Rattle.source_pixels.proofs.ChunkLemmas.{table_row}
use Rattle.source_pixels.proofs.pixels.write_pixels.Goals as goal

pub returns-in-Table : goal.returns-in-Table
returns-in-Table c =
    c.write_colours.ensures
    ∙ table_row c.args.format c.in-Table.table c.args.pixels.now (length c.args.places.now) c.as_chunks.result.0.now c.in-Table.is c.requires.whole c.as_chunks.ensures.front
