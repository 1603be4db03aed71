use Rattle.std.proofs.Common.{length, refl}
use Rattle.source_pixels.specs.declared.formats.BytesPerPixel.TheVariants.{Four}
use Rattle.source_pixels.proofs.ChunkLemmas.{component_chunks, format_chunks, direct_chunks, compared}
use Rattle.source_pixels.proofs.pixels.compare_four.Goals as goal

pub returns-then-is_direct : goal.returns-then-is_direct
returns-then-is_direct c =
    compared (direct_chunks c.args.format c.args.pixels.now (length c.args.row.now) c.as_chunks.result.0.now (c.if-is_direct.ensures.0 refl) c.requires.whole c.as_chunks.ensures.front)
    c.args.row.now c.compare.result c.compare.ensures

pub returns-then-has_whole_bytes : goal.returns-then-has_whole_bytes
returns-then-has_whole_bytes c =
    compared (component_chunks c.args.format Four c.args.pixels.now (length c.args.row.now) c.as_chunks.result.0.now c.requires.four c.requires.whole c.as_chunks.ensures.front)
    c.args.row.now c.compare-then-has_whole_bytes.result c.compare-then-has_whole_bytes.ensures

pub returns-else-has_whole_bytes : goal.returns-else-has_whole_bytes
returns-else-has_whole_bytes c =
    compared (format_chunks c.new.result.format c.args.format Four c.args.pixels.now (length c.args.row.now) c.as_chunks.result.0.now c.new.ensures c.requires.four c.requires.whole c.as_chunks.ensures.front)
    c.args.row.now c.compare-else-has_whole_bytes.result c.compare-else-has_whole_bytes.ensures
