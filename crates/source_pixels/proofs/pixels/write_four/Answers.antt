use Rattle.std.proofs.Common.{◌∙◌, length, refl}
use Rattle.source_pixels.specs.declared.formats.BytesPerPixel.TheVariants.{Four}
use Rattle.source_pixels.proofs.ChunkLemmas.{component_chunks, format_chunks, direct_chunks}
use Rattle.source_pixels.proofs.pixels.write_four.Goals as goal

pub returns-then-is_direct : goal.returns-then-is_direct
returns-then-is_direct c =
    c.write_colours.ensures
    ∙ direct_chunks c.args.format c.args.pixels.now (length c.args.places.now) c.as_chunks.result.0.now (c.if-is_direct.ensures.0 refl) c.requires.whole c.as_chunks.ensures.front

pub returns-then-has_whole_bytes : goal.returns-then-has_whole_bytes
returns-then-has_whole_bytes c =
    c.write_colours-then-has_whole_bytes.ensures
    ∙ component_chunks c.args.format Four c.args.pixels.now (length c.args.places.now) c.as_chunks.result.0.now c.requires.four c.requires.whole c.as_chunks.ensures.front

pub returns-else-has_whole_bytes : goal.returns-else-has_whole_bytes
returns-else-has_whole_bytes c =
    c.write_colours-else-has_whole_bytes.ensures
    ∙ format_chunks c.new.result.format c.args.format Four c.args.pixels.now (length c.args.places.now) c.as_chunks.result.0.now c.new.ensures c.requires.four c.requires.whole c.as_chunks.ensures.front
