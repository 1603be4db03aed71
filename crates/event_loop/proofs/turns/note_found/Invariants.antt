use Rattle.event_loop.specs.Sockets.{GoesOnServing}
use Rattle.event_loop.proofs.turns.note_found.Given as goal

abbrev pub invariant-loop-event : goal.invariant-loop-event
invariant-loop-event l = GoesOnServing l.fn.connections l.connections
