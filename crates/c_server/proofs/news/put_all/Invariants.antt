use Rattle.std.proofs.Common.{◌≡◌, ◌≤◌, ◌-◌, ◌++◌, length, take}
use Rattle.std.specs.VecDeque.{deque_len, deque_capacity}
use Rattle.c_server.proofs.news.put_all.Given as goal

abbrev pub invariant-loop-came : goal.invariant-loop-came
invariant-loop-came g l = record {
  kept : l.waiting.items ++ take (l.most - length l.waiting.items) l.came.items ≡ l.fn.waiting.items ++ take (l.most - length l.fn.waiting.items) l.fn.came.items;
  lost : length l.came.items - (l.most - length l.waiting.items) ≡ length l.fn.came.items - (l.most - length l.fn.waiting.items);
  room : l.most ≤ deque_capacity l.waiting;
}

abbrev pub decreases-loop-came : goal.decreases-loop-came
decreases-loop-came g l = l.most - deque_len l.waiting
