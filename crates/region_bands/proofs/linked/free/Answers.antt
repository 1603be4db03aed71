use Rattle.std.proofs.Common.{◌∙◌, ap, arith, length, ◌≡◌}
use Rattle.std.proofs.lemmas.List.{length-map}
use Rattle.span_arena.specs.Arena.{ids_of}
use Rattle.span_arena.specs.ViewLemmas.{ids_are, ids_there}
use Rattle.region_bands.specs.Held.{ids_in}
use Rattle.region_bands.proofs.HasLemmas.{freed_keeps}
use Rattle.region_bands.proofs.linked.free.Goals as goal

pub returns-clause-others : goal.returns-clause-others
returns-clause-others c = freed_keeps c.args.spans.now c.free_list.new.self c.args.list c.lists_are_sound.ensures (ids_of c.args.spans.now c.args.list) (ids_there c.args.spans.now c.args.list c.requires) c.free_list.ensures.lists c.free_list.ensures.spans

pub returns-clause-spare : goal.returns-clause-spare
returns-clause-spare c = λ placed has.
    let long : length (ids_of c.args.spans.now c.args.list) ≡ length placed = ap length (ids_are c.args.spans.now c.args.list (ids_in placed) has.ids) ∙ length-map placed (λ p. p.0) in
    omega (arith, c.free_list.ensures.spare, long)
