use Rattle.std.proofs.Common.{◌∷◌, ◌++◌, sym, subst, ◌∙◌}
use Rattle.span_arena.specs.Arena.{Arena}
use Rattle.region_bands.specs.Held.{Has, Keeps}
use Rattle.region_bands.proofs.InsertLemmas.{place_in, put_before, put_last, keeps_before, keeps_last}
use Rattle.region_bands.proofs.linked.insert_span.Goals as goal
use Rattle.region_bands.proofs.linked.insert_span.Goals.{in-Some, in-None}

pub insert_before-put-requires : goal.insert_before-put-requires
insert_before-put-requires c = place_in c.args.spans.now c.args.list c.args.before c.in-Some.at c.in-Some.is c.requires.placed.0 c.requires.placed.1 c.requires.placed.2 c.requires.placed.3

pub returns-clause-put : goal.returns-clause-put
returns-clause-put c = λ front back has leads.
    elim c.match-before.branch [
      | in-Some w ↦
          subst (λ (s : Arena). Has s c.args.list (front ++ (c.in-Ok.at, c.args.span) ∷ back)) (sym w.spans-is)
          (put_before c.args.spans.now w.insert_before-put.new.self c.args.list c.args.span w.insert_before-put.result c.in-Ok.at (sym w.put-is ∙ c.in-Ok.is) w.insert_before-put.ensures.fresh w.insert_before-put.ensures.spans w.in-Some.at w.insert_before-put.ensures.lists front back has (sym w.in-Some.is ∙ leads))
      | in-None w ↦
          subst (λ (s : Arena). Has s c.args.list (front ++ (c.in-Ok.at, c.args.span) ∷ back)) (sym w.spans-is)
          (put_last c.args.spans.now w.push_back-put.new.self c.args.list c.args.span w.push_back-put.result c.in-Ok.at (sym w.put-is ∙ c.in-Ok.is) w.push_back-put.ensures.fresh w.push_back-put.ensures.spans w.push_back-put.ensures.lists front back has (sym w.in-None.is ∙ leads))
    ]

pub returns-clause-others : goal.returns-clause-others
returns-clause-others c =
    elim c.match-before.branch [
      | in-Some w ↦
          subst (λ (s : Arena). Keeps c.args.spans.now s c.args.list) (sym w.spans-is)
          (keeps_before c.args.spans.now w.insert_before-put.new.self c.args.list c.args.span w.insert_before-put.result c.in-Ok.at (sym w.put-is ∙ c.in-Ok.is) w.insert_before-put.ensures.fresh w.insert_before-put.ensures.spans w.in-Some.at w.insert_before-put.ensures.lists c.lists_are_sound.ensures c.requires.placed.0 c.requires.placed.1 c.requires.placed.2 (sym w.in-Some.is ∙ c.requires.placed.3))
      | in-None w ↦
          subst (λ (s : Arena). Keeps c.args.spans.now s c.args.list) (sym w.spans-is)
          (keeps_last c.args.spans.now w.push_back-put.new.self c.args.list c.args.span w.push_back-put.result c.in-Ok.at (sym w.put-is ∙ c.in-Ok.is) w.push_back-put.ensures.fresh w.push_back-put.ensures.spans w.push_back-put.ensures.lists c.lists_are_sound.ensures c.requires.placed.0 c.requires.placed.1 c.requires.placed.2 (sym w.in-None.is ∙ c.requires.placed.3))
    ]
