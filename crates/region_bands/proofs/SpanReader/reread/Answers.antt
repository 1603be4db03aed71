use Rattle.std.proofs.Common.{ap, refl, ◌∙◌}
use Rattle.region_bands.specs.Bands.{reading, reading_of}
use Rattle.region_bands.specs.Held.{view_of}
use Rattle.region_bands.proofs.SeenLemmas.{seen}
use Rattle.region_bands.proofs.CallLemmas.{reread_over, reread_shows, read_bands}
use Rattle.region_bands.proofs.SpanReader.reread.Goals as goal

pub first_under-self-inside-requires : goal.first_under-self-inside-requires
first_under-self-inside-requires c = reread_over c.self.inside.spans.now c.self.inside.lists c.self.inside.gap c.self.inside.left (view_of c.self.inside.spans.now c.self.inside.lists c.self.inside.gap c.self.inside.left) c.self.invariant refl

pub invariant_of-self : goal.invariant_of-self
invariant_of-self c = (_, reread_shows c.self.inside.spans.now c.self.inside.lists c.self.inside.gap c.self.inside.left (view_of c.self.inside.spans.now c.self.inside.lists c.self.inside.gap c.self.inside.left) c.self.invariant refl c.first_under-self-inside.result c.first_under-self-inside.ensures)

pub returns : goal.returns
returns c =
    ap reading_of (seen c.self.inside.spans.now c.self.inside.lists c.self.inside.gap c.first_under-self-inside.result _
    (reread_shows c.self.inside.spans.now c.self.inside.lists c.self.inside.gap c.self.inside.left (view_of c.self.inside.spans.now c.self.inside.lists c.self.inside.gap c.self.inside.left) c.self.invariant refl c.first_under-self-inside.result c.first_under-self-inside.ensures))
    ∙ ap reading (read_bands c.self.inside.spans.now c.self.inside.lists c.self.inside.gap c.self.inside.left c.args.self.now c.self.view_is)
