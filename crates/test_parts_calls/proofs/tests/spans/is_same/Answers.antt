use Rattle.span_arena.specs.WalkLemmas.{walk_first, walk_in, walk_on}
use Rattle.test_parts_calls.proofs.tests.spans.is_same.Goals as goal

pub loop-start-init : goal.loop-start-init
loop-start-init c = walk_first c.args.spans.now c.args.list c.first-place.result c.requires c.first-place.ensures

pub get-span-requires : goal.get-span-requires
get-span-requires c = c.lists_are_sound.ensures.live c.args.list c.in-Some.at (walk_in c.args.spans.now c.args.list c.loop-start.place c.loop-start.invariant c.in-Some.at c.in-Some.is)

pub loop-start-preserved : goal.loop-start-preserved
loop-start-preserved c = walk_on c.args.spans.now c.args.list c.loop-start.place c.loop-start.invariant c.in-Some.at c.in-Some.is c.next-place.result c.next-place.ensures
