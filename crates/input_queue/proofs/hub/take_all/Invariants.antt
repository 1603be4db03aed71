use Rattle.std.proofs.Common.{◌≡◌, ◌++◌}
use Rattle.crossbeam_queue.specs.Passes.{view as known, IsPassOf}
use Rattle.input_queue.specs.Views.{taker}
use Rattle.input_queue.proofs.hub.take_all.Given as goal

abbrev pub invariant-loop : goal.invariant-loop
invariant-loop g l = IsPassOf l.queue l.taking × (known l.taking ≡ taker ((known l.initial.taking).taken ++ l.items.items) (known l.initial.taking).noted)
