use Rattle.std.proofs.Common.{rules}
use Rattle.sockets.specs.Doors.{noted_at}
use Rattle.sockets.proofs.DoorLemmas.{changed_more}
use Rattle.sockets.proofs.doors.Doors.note.Goals as goal

pub loop-index-preserved : goal.loop-index-preserved
loop-index-preserved c = changed_more (noted_at c.args.number) c.args.self.now.doors.items _ _ c.index_mut-door.result.now c.note.new.self (search rules) c.loop-index.invariant c.index_mut-door.ensures.value (search rules)
