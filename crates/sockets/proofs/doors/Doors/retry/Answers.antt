use Rattle.std.proofs.Common.{rules}
use Rattle.std.specs.Time.{instant_nanos}
use Rattle.sockets.specs.Doors.{asked_again}
use Rattle.sockets.proofs.DoorLemmas.{changed_more}
use Rattle.sockets.proofs.doors.Doors.retry.Goals as goal

pub loop-index-preserved : goal.loop-index-preserved
loop-index-preserved c = changed_more (asked_again (instant_nanos c.args.now)) c.args.self.now.doors.items _ _ c.index_mut.result.now c.retry.new.self (search rules) c.loop-index.invariant c.index_mut.ensures.value (search rules)
