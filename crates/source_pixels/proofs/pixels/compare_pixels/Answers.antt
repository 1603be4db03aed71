use Rattle.std.proofs.Common.{length}
use Rattle.source_pixels.proofs.ChunkLemmas.{table_row, compared}
use Rattle.source_pixels.proofs.pixels.compare_pixels.Goals as goal

pub returns-in-Table : goal.returns-in-Table
returns-in-Table c =
    compared (table_row c.args.format c.in-Table.table c.args.pixels.now (length c.args.row.now) c.as_chunks.result.0.now c.in-Table.is c.requires.whole c.as_chunks.ensures.front)
    c.args.row.now c.compare.result c.compare.ensures
