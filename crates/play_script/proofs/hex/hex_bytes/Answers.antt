use Rattle.std.proofs.Common.{arith}
use Rattle.play_script.proofs.WordLemmas.{groups_more, byte_fits}
use Rattle.play_script.proofs.hex.hex_bytes.Goals as goal

pub overflow_cast-group_value : goal.overflow_cast-group_value
overflow_cast-group_value c = omega (arith, byte_fits c.args.word.now c.loop-place.place _ _ c.is_groups.ensures c.if-not-is_groups.false c.group_value.ensures)

pub loop-place-preserved : goal.loop-place-preserved
loop-place-preserved c = groups_more 2 c.loop-place.place _ c.args.word.now c.loop-place.bytes.items _ c.loop-place.invariant c.group_value.ensures c.in_ok-push.ensures.items
