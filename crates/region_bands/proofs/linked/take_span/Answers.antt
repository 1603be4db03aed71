use Rattle.std.proofs.Common.{ℕ, ◌∙◌, ◌∷◌, ◌++◌, ap, sym, subst, Some, None}
use Rattle.span_arena.specs.Arena.{IsIn, SetsSpan}
use Rattle.region_bands.specs.Held.{ids_in}
use Rattle.region_bands.proofs.HasLemmas.{in_list, list_split, removed, changed_keeps}
use Rattle.region_bands.proofs.linked.take_span.Goals as goal

pub remove-span-requires : goal.remove-span-requires
remove-span-requires c = subst (IsIn c.args.spans.now c.args.list) c.requires.4 (in_list c.args.spans.now c.args.list c.requires.0 c.requires.1 c.requires.2 c.requires.3)

pub returns-clause-taken : goal.returns-clause-taken
returns-clause-taken c = λ front p back has same.
    removed c.args.spans.now c.remove-span.new.self c.args.list c.lists_are_sound.ensures front p back has
    (c.remove-span.ensures.lists (ids_in front) (ids_in back) (list_split c.args.spans.now c.args.list front (p ∷ back) has ∙ ap (λ (k : ℕ). Some (ids_in front ++ k ∷ ids_in back)) same))
    (subst (λ (k : ℕ). SetsSpan c.args.spans.now c.remove-span.new.self k None) (sym same) c.remove-span.ensures.spans)

pub returns-clause-others : goal.returns-clause-others
returns-clause-others c =
    let front = c.requires.0 in
    let p = c.requires.1 in
    let back = c.requires.2 in
    let has = c.requires.3 in
    let lists = c.remove-span.ensures.lists (ids_in front) (ids_in back) (list_split c.args.spans.now c.args.list front (p ∷ back) has ∙ ap (λ (k : ℕ). Some (ids_in front ++ k ∷ ids_in back)) c.requires.4) in
    changed_keeps c.args.spans.now c.remove-span.new.self c.args.list c.lists_are_sound.ensures front p back has None lists.others
    (subst (λ (k : ℕ). SetsSpan c.args.spans.now c.remove-span.new.self k None) (sym c.requires.4) c.remove-span.ensures.spans)
