use Rattle.std.proofs.Common.{◌≡◌, length}
use Rattle.demo_app.proofs.self_test.join_all.Given as goal

abbrev pub invariant-loop-thread : goal.invariant-loop-thread
invariant-loop-thread g l = length l.shows.items ≡ length l.yielded
