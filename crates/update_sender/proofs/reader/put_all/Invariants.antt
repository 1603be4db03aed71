use Rattle.std.proofs.Common.{◌≡◌, ℕ}
use Rattle.update_sender.specs.Ends.{counted}
use Rattle.update_sender.specs.Inputs.{Puts}
use Rattle.update_sender.proofs.reader.put_all.Given as goal

abbrev pub invariant-loop-input : goal.invariant-loop-input
invariant-loop-input g l =
    (l.seat ≡ record l.fn.seat { accepted = l.seat.accepted })
    × (dropped : ℕ) × Puts l.yielded l.fn.seat l.seat dropped × (l.dropped ≡ counted dropped)
