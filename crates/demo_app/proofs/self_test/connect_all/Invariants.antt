use Rattle.std.proofs.Common.{◌≡◌, length}
use Rattle.demo_app.proofs.self_test.connect_all.Given as goal

abbrev pub invariant-loop-number : goal.invariant-loop-number
invariant-loop-number g l = length l.streams.items ≡ l._number
