use Rattle.std.proofs.Common.{ap, refl, ◌∙◌}
use Rattle.region_bands.specs.Bands.{reading_of}
use Rattle.region_bands.specs.Held.{view_of}
use Rattle.region_bands.proofs.SeenLemmas.{seen}
use Rattle.region_bands.proofs.CallLemmas.{at_gap, gap_live, advanced_under, advanced_shows, read_bands}
use Rattle.region_bands.proofs.SpanReader.advance.Goals as goal

pub next-self-inside-requires : goal.next-self-inside-requires
next-self-inside-requires c = gap_live c.self.inside.spans.now c.self.inside.lists c.self.inside.gap c.self.inside.left (view_of c.self.inside.spans.now c.self.inside.lists c.self.inside.gap c.self.inside.left) c.self.invariant refl c.in-Some.at c.in-Some.is

pub first_under-self-inside-requires : goal.first_under-self-inside-requires
first_under-self-inside-requires c = advanced_under c.self.inside.spans.now c.self.inside.lists c.self.inside.gap c.self.inside.left (view_of c.self.inside.spans.now c.self.inside.lists c.self.inside.gap c.self.inside.left) c.self.invariant refl c.in-Some.at c.in-Some.is c.next-self-inside.result c.next-self-inside.ensures

pub invariant_of-self : goal.invariant_of-self
invariant_of-self c =
    let g = at_gap c.self.inside.spans.now c.self.inside.lists c.self.inside.gap c.self.inside.left (view_of c.self.inside.spans.now c.self.inside.lists c.self.inside.gap c.self.inside.left) c.self.invariant refl c.in-Some.at c.in-Some.is in
    (_, advanced_shows c.self.inside.spans.now c.self.inside.lists c.self.inside.gap c.self.inside.left (view_of c.self.inside.spans.now c.self.inside.lists c.self.inside.gap c.self.inside.left) c.self.invariant refl c.in-Some.at c.in-Some.is c.next-self-inside.result c.next-self-inside.ensures c.first_under-self-inside.result c.first_under-self-inside.ensures g.first g.rest g.below)

pub returns : goal.returns
returns c = λ first rest is.
    ap reading_of (seen c.self.inside.spans.now c.self.inside.lists c.next-self-inside.result c.first_under-self-inside.result _
    (advanced_shows c.self.inside.spans.now c.self.inside.lists c.self.inside.gap c.self.inside.left (view_of c.self.inside.spans.now c.self.inside.lists c.self.inside.gap c.self.inside.left) c.self.invariant refl c.in-Some.at c.in-Some.is c.next-self-inside.result c.next-self-inside.ensures c.first_under-self-inside.result c.first_under-self-inside.ensures first rest (read_bands c.self.inside.spans.now c.self.inside.lists c.self.inside.gap c.self.inside.left c.args.self.now c.self.view_is ∙ is)))
