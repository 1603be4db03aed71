use Rattle.std.proofs.Common.{◌++◌, length}
use Rattle.update_sender.proofs.Served.{SendsSome}
use Rattle.update_sender.proofs.line.Speaker.write_stream.Given as goal

-- what is written and what is left are the update's bytes
abbrev pub invariant-loop-stream : goal.invariant-loop-stream
invariant-loop-stream g l = SendsSome (g.W.Write.contents l.fn.writer) (g.W.Write.contents l.writer) l.fn.self l.self l.stream (l.fn.buffer.items ++ l.fn.stream) l.count

abbrev pub decreases-loop-stream : goal.decreases-loop-stream
decreases-loop-stream g l = length l.stream
