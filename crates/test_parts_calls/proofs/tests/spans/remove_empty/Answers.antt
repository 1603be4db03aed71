use Rattle.span_arena.specs.WalkLemmas.{walk_first, walk_in, walk_on, walk_past, walk_falls, walk_falls_past}
use Rattle.test_parts_calls.proofs.tests.spans.remove_empty.Goals as goal

pub loop-place-init : goal.loop-place-init
loop-place-init c = walk_first c.args.spans.now c.args.list c.first-place.result c.requires c.first-place.ensures

pub next-place-requires : goal.next-place-requires
next-place-requires c = c.lists_are_sound.ensures.live c.args.list c.in-Some.at (walk_in c.loop-place.spans c.args.list c.loop-place.place c.loop-place.invariant c.in-Some.at c.in-Some.is)

pub get-span-requires : goal.get-span-requires
get-span-requires c = c.lists_are_sound.ensures.live c.args.list c.in-Some.at (walk_in c.loop-place.spans c.args.list c.loop-place.place c.loop-place.invariant c.in-Some.at c.in-Some.is)

pub remove-requires : goal.remove-requires
remove-requires c = walk_in c.loop-place.spans c.args.list c.loop-place.place c.loop-place.invariant c.in-Some.at c.in-Some.is

pub loop-place-smaller-then-span : goal.loop-place-smaller-then-span
loop-place-smaller-then-span c = walk_falls_past c.loop-place.spans c.args.list c.loop-place.place c.loop-place.invariant c.in-Some.at c.in-Some.is c.next-place.result c.next-place.ensures c.remove.new.self c.remove.ensures.lists c.lists_are_sound.ensures

pub loop-place-preserved-then-span : goal.loop-place-preserved-then-span
loop-place-preserved-then-span c = walk_past c.loop-place.spans c.args.list c.loop-place.place c.loop-place.invariant c.in-Some.at c.in-Some.is c.next-place.result c.next-place.ensures c.remove.new.self c.remove.ensures.lists

pub loop-place-smaller : goal.loop-place-smaller
loop-place-smaller c = walk_falls c.loop-place.spans c.args.list c.loop-place.place c.loop-place.invariant c.in-Some.at c.in-Some.is c.next-place.result c.next-place.ensures c.lists_are_sound.ensures

pub loop-place-preserved : goal.loop-place-preserved
loop-place-preserved c = walk_on c.loop-place.spans c.args.list c.loop-place.place c.loop-place.invariant c.in-Some.at c.in-Some.is c.next-place.result c.next-place.ensures
