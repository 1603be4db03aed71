use Rattle.std.proofs.Common.{refl}
use Rattle.slab.specs.Slab.{get}
use Rattle.span_arena.proofs.CutLemmas.{key_between}
use Rattle.span_arena.proofs.CallLemmas.{shows, ring_at, taken_held, taken_lists, taken_spans, taken_span}
use Rattle.span_arena.proofs.Spans.remove.Goals as goal

pub cut-requires : goal.cut-requires
cut-requires c =
    let shown = shows c.self.inside.nodes c.args.self.now c.self.invariant c.self.view_is in
    let ring = ring_at c.self.inside.nodes c.args.self.now shown c.args.list c.at.inside.key c.args.list c.args.at refl c.at.view_is c.requires.0 c.requires.1 c.requires.2 in
    (_, _, key_between (get c.self.inside.nodes) c.args.list c.requires.0 c.at.inside.key c.requires.1 ring)

pub invariant_of-self : goal.invariant_of-self
invariant_of-self c =
    let shown = shows c.self.inside.nodes c.args.self.now c.self.invariant c.self.view_is in
    let ring = ring_at c.self.inside.nodes c.args.self.now shown c.args.list c.at.inside.key c.args.list c.args.at refl c.at.view_is c.requires.0 c.requires.1 c.requires.2 in
    taken_held c.self.inside.nodes c.args.self.now shown c.cut.new.nodes c.args.list c.requires.0 c.at.inside.key c.requires.1 ring c.cut.ensures.cut

pub returns-clause-span : goal.returns-clause-span
returns-clause-span c =
    let shown = shows c.self.inside.nodes c.args.self.now c.self.invariant c.self.view_is in
    let ring = ring_at c.self.inside.nodes c.args.self.now shown c.args.list c.at.inside.key c.args.list c.args.at refl c.at.view_is c.requires.0 c.requires.1 c.requires.2 in
    taken_span c.self.inside.nodes c.args.self.now shown c.cut.new.nodes c.args.list c.requires.0 c.at.inside.key c.requires.1 ring c.cut.ensures.cut c.args.at c.at.view_is c.cut.result c.cut.ensures.span

pub returns-clause-lists : goal.returns-clause-lists
returns-clause-lists c = λ front back is.
    let shown = shows c.self.inside.nodes c.args.self.now c.self.invariant c.self.view_is in
    let ring = ring_at c.self.inside.nodes c.args.self.now shown c.args.list c.at.inside.key c.args.list c.args.at refl c.at.view_is front back is in
    taken_lists c.self.inside.nodes c.args.self.now shown c.cut.new.nodes c.args.list front c.at.inside.key back ring c.cut.ensures.cut c.args.list refl

pub returns-clause-spans : goal.returns-clause-spans
returns-clause-spans c =
    let shown = shows c.self.inside.nodes c.args.self.now c.self.invariant c.self.view_is in
    let ring = ring_at c.self.inside.nodes c.args.self.now shown c.args.list c.at.inside.key c.args.list c.args.at refl c.at.view_is c.requires.0 c.requires.1 c.requires.2 in
    taken_spans c.self.inside.nodes c.args.self.now shown c.cut.new.nodes c.args.list c.requires.0 c.at.inside.key c.requires.1 ring c.cut.ensures.cut c.args.at c.at.view_is
