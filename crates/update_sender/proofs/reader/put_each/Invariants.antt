use Rattle.std.proofs.Common.{◌≡◌, ℕ}
use Rattle.update_sender.specs.Ends.{counted}
use Rattle.update_sender.specs.Inputs.{PutsBetween, held_after}
use Rattle.update_sender.proofs.reader.put_each.Given as goal

abbrev pub invariant-loop-input : goal.invariant-loop-input
invariant-loop-input g l =
    (l.held ≡ held_after l.fn.held l.yielded)
    × (dropped : ℕ) × PutsBetween l.fn.held l.yielded l.fn.seat l.seat dropped × (l.dropped ≡ counted dropped)
