use Rattle.std.proofs.Common.{◌≡◌, ℕ, List, []}
use Rattle.messages.specs.declared.Input.{Input}
use Rattle.update_sender.specs.Ends.{counted}
use Rattle.update_sender.specs.Inputs.{Puts}
use Rattle.update_sender.specs.Serving.{Hears}
use Rattle.update_sender.proofs.reader.hear_all.Given as goal

abbrev pub invariant-loop : goal.invariant-loop
invariant-loop g l =
    Hears (g.Rd.Read.remaining l.fn.reader) (g.Rd.Read.remaining l.reader) l.fn.listener l.listener []
    × (l.seat ≡ record l.fn.seat { accepted = l.seat.accepted })
    × (inputs : List Input) × (dropped : ℕ) × Puts inputs l.fn.seat l.seat dropped × (l.dropped ≡ counted dropped)
