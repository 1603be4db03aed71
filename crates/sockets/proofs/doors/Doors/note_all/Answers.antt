use Rattle.std.proofs.Common.{rules}
use Rattle.sockets.specs.Doors.{noted}
use Rattle.sockets.proofs.DoorLemmas.{changed_more}
use Rattle.sockets.proofs.doors.Doors.note_all.Goals as goal

pub loop-index-preserved : goal.loop-index-preserved
loop-index-preserved c = changed_more noted c.args.self.now.doors.items _ _ c.index_mut.result.now c.note.new.self (search rules) c.loop-index.invariant c.index_mut.ensures.value (search rules)
