use Rattle.std.proofs.Common.{List}
use Rattle.messages.specs.declared.Input.{Input}
use Rattle.input_queue.specs.Ends.{Settles}
use Rattle.input_queue.proofs.ends.InputEnds.settle.Given as goal

abbrev pub invariant-loop : goal.invariant-loop
invariant-loop g l = (inputs : List Input) × Settles l.held inputs l.fn.seat l.seat
