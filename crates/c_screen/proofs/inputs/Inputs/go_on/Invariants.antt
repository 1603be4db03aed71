use Rattle.std.proofs.Common.{◌≡◌, length}
use Rattle.c_screen.specs.Inputs.{in_order}
use Rattle.c_screen.proofs.inputs.Inputs.go_on.Given as goal

abbrev pub invariant-loop-self : goal.invariant-loop-self
invariant-loop-self l = record { same : in_order l.self.next l.self.later.items ≡ in_order l.fn.self.next l.fn.self.later.items }

abbrev pub decreases-loop-self : goal.decreases-loop-self
decreases-loop-self l = length l.self.later.items
