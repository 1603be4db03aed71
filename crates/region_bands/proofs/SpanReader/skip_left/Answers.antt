use Rattle.std.proofs.Common.{ap, refl, ◌∙◌, List}
use Rattle.region_bands.specs.Bands.{Band, Reading, reading_of}
use Rattle.region_bands.specs.Held.{view_of}
use Rattle.region_bands.proofs.SeenLemmas.{seen}
use Rattle.region_bands.proofs.StepLemmas.{first_there}
use Rattle.region_bands.proofs.CallLemmas.{left_live, skipped_shows, read_bands, read_left}
use Rattle.region_bands.proofs.SpanReader.skip_left.Goals as goal

pub next-self-inside-requires : goal.next-self-inside-requires
next-self-inside-requires c = left_live c.self.inside.spans.now c.self.inside.lists c.self.inside.gap c.self.inside.left (view_of c.self.inside.spans.now c.self.inside.lists c.self.inside.gap c.self.inside.left) c.self.invariant refl c.in-Some.at c.in-Some.is

pub invariant_of-self : goal.invariant_of-self
invariant_of-self c =
    let there = first_there c.args.self.now.left c.requires in
    (_, skipped_shows c.self.inside.spans.now c.self.inside.lists c.self.inside.gap c.self.inside.left (view_of c.self.inside.spans.now c.self.inside.lists c.self.inside.gap c.self.inside.left) c.self.invariant refl c.in-Some.at c.in-Some.is c.next-self-inside.result c.next-self-inside.ensures there.0 there.1 (read_left c.self.inside.spans.now c.self.inside.lists c.self.inside.gap c.self.inside.left c.args.self.now c.self.view_is ∙ there.2))

pub returns : goal.returns
returns c = λ first rest left_is.
    ap reading_of (seen c.self.inside.spans.now c.self.inside.lists c.self.inside.gap c.next-self-inside.result _
    (skipped_shows c.self.inside.spans.now c.self.inside.lists c.self.inside.gap c.self.inside.left (view_of c.self.inside.spans.now c.self.inside.lists c.self.inside.gap c.self.inside.left) c.self.invariant refl c.in-Some.at c.in-Some.is c.next-self-inside.result c.next-self-inside.ensures first rest (read_left c.self.inside.spans.now c.self.inside.lists c.self.inside.gap c.self.inside.left c.args.self.now c.self.view_is ∙ left_is)))
    ∙ ap (λ (l : List Band). let r : Reading = record { bands = l; left = rest } in r) (read_bands c.self.inside.spans.now c.self.inside.lists c.self.inside.gap c.self.inside.left c.args.self.now c.self.view_is)
