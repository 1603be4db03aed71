use Rattle.std.proofs.Common.{rules}
use Rattle.std.specs.Time.{instant_nanos}
use Rattle.sockets.proofs.DoorLemmas.{asked_more}
use Rattle.sockets.proofs.doors.Doors.retry_after.Goals as goal

pub loop-index-preserved : goal.loop-index-preserved
loop-index-preserved c =
    asked_more (instant_nanos c.args.now) c.args.self.now.doors.items c.loop-index.index c.index.result.now c.loop-index.wait c.retry_after.result c.shorter-wait.result
    (search rules) (search rules) c.loop-index.invariant c.retry_after.ensures c.shorter-wait.ensures.one c.shorter-wait.ensures.other
