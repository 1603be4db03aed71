use Rattle.event_loop.specs.Sockets.{GoesOnServing}
use Rattle.demo_app.proofs.one_thread.let_go.Given as goal

abbrev pub invariant-loop-viewer : goal.invariant-loop-viewer
invariant-loop-viewer l = GoesOnServing l.fn.served l.served
