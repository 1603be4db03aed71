use Rattle.std.proofs.Common.{◌≡◌, sym, subst, ap, List, Option, refl, ◌∙◌}
use Rattle.slab.specs.Slab.{Slab, get}
use Rattle.span_arena.specs.declared.nodes.Node.{Node}
use Rattle.span_arena.specs.Arena.{Arena}
use Rattle.span_arena.specs.Links.{IsHeld, view_of}
use Rattle.span_arena.proofs.CloneLemmas.{same_slots, cloned_held, cloned_lists, cloned_spans}
use Rattle.span_arena.proofs.Spans.try_clone.Goals as goal

pub invariant_of-result : goal.invariant_of-result
invariant_of-result c = cloned_held c.self.inside.nodes c.in_ok-clone.field-0 (same_slots _ (λ x y is. is) c.self.inside.nodes.slots c.in_ok-clone.field-0.slots c.in_ok-clone.ensures.cases.slots) c.self.invariant

pub returns-clause-lists : goal.returns-clause-lists
returns-clause-lists c = cloned_lists c.self.inside.nodes c.in_ok-clone.field-0 (same_slots _ (λ x y is. is) c.self.inside.nodes.slots c.in_ok-clone.field-0.slots c.in_ok-clone.ensures.cases.slots) ∙ ap (λ (a : Arena). a.lists) c.self.view_is

pub returns-clause-spans : goal.returns-clause-spans
returns-clause-spans c = cloned_spans c.self.inside.nodes c.in_ok-clone.field-0 (same_slots _ (λ x y is. is) c.self.inside.nodes.slots c.in_ok-clone.field-0.slots c.in_ok-clone.ensures.cases.slots) ∙ ap (λ (a : Arena). a.spans) c.self.view_is
