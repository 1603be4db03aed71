use Rattle.update_sender.proofs.Written.{further, within}
use Rattle.update_sender.proofs.writing.put_on.Goals as goal

pub loop-done-preserved : goal.loop-done-preserved
loop-done-preserved g c =
    let i = c.loop-done.invariant in
    (within c.args.bytes.now c.loop-done.done c.in-Ok.count i.0 c.in-Ok.ensures.bound, further _ _ _ c.args.bytes.now c.loop-done.done c.in-Ok.count i.1 c.in-Ok.ensures.bytes)
