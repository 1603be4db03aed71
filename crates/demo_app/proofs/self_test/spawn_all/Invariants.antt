use Rattle.std.proofs.Common.{◌≡◌, length}
use Rattle.demo_app.proofs.self_test.spawn_all.Given as goal

abbrev pub invariant-loop-stream : goal.invariant-loop-stream
invariant-loop-stream g l = length l.threads.items ≡ l.stream-index
