use Rattle.std.proofs.Common.{◌≡◌, ◌≤◌}
use Rattle.std.specs.VecDeque.{deque_len}
use Rattle.sockets.proofs.browsers.Browsers.let_go.Given as goal

abbrev pub invariant-late : goal.invariant-late
invariant-late l = record {
  few : deque_len l.self.waiting ≤ deque_len l.fn.self.waiting;
  patience : l.self.patience ≡ l.fn.self.patience;
}

abbrev pub decreases-late : goal.decreases-late
decreases-late l = deque_len l.self.waiting
