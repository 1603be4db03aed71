use Rattle.std.proofs.Common.{◌∙◌, length}
use Rattle.source_pixels.specs.declared.formats.BytesPerPixel.TheVariants.{One, Two, Three}
use Rattle.source_pixels.proofs.ChunkLemmas.{format_chunks}
use Rattle.source_pixels.proofs.pixels.write_components.Goals as goal

pub returns-in-One : goal.returns-in-One
returns-in-One c =
    c.write_colours.ensures
    ∙ format_chunks c.new-components.result.format c.args.format One c.args.pixels.now (length c.args.places.now) c.as_chunks.result.0.now c.new-components.ensures c.in-One.is c.requires.whole c.as_chunks.ensures.front

pub returns-in-Two : goal.returns-in-Two
returns-in-Two c =
    c.write_colours-in-Two.ensures
    ∙ format_chunks c.new-components.result.format c.args.format Two c.args.pixels.now (length c.args.places.now) c.as_chunks-in-Two.result.0.now c.new-components.ensures c.in-Two.is c.requires.whole c.as_chunks-in-Two.ensures.front

pub returns-in-Three : goal.returns-in-Three
returns-in-Three c =
    c.write_colours-in-Three.ensures
    ∙ format_chunks c.new-components.result.format c.args.format Three c.args.pixels.now (length c.args.places.now) c.as_chunks-in-Three.result.0.now c.new-components.ensures c.in-Three.is c.requires.whole c.as_chunks-in-Three.ensures.front
