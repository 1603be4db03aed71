use Rattle.play_script.proofs.WordLemmas.{groups_more}
use Rattle.play_script.proofs.hex.hex_colours.Goals as goal

pub loop-place-preserved : goal.loop-place-preserved
loop-place-preserved c = groups_more 6 c.loop-place.place _ c.args.word.now c.loop-place.colours.items _ c.loop-place.invariant c.group_value.ensures c.in_ok-push.ensures.items
