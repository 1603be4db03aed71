use Rattle.std.proofs.Common.{rules, ◌<◌, length, refl}
use Rattle.region.proofs.StackLemmas.{stacked_more}
use Rattle.region.proofs.stacking.stack.Goals as goal

pub loop-rect-preserved : goal.loop-rect-preserved
loop-rect-preserved c =
    let less : c.loop-rect.rect-index < length c.args.rest.now = search rules in
    stacked_more c.args.first c.args.rest.now c.loop-rect.rect-index c.loop-rect.last _ _ c.loop-rect.bands c.put_next.new.bands c.loop-rect.invariant less refl (c.put_next.ensures.stack c.if-not-put_next.false) (c.put_next.ensures.places c.if-not-put_next.false) c.put_next.ensures.spare
