use Rattle.std.proofs.Common.{◌≡◌, ◌≤◌, ◌-◌, ◌++◌, ◌+◌, length}
use Rattle.std.specs.VecDeque.{deque_len, deque_capacity}
use Rattle.c_server.specs.Desk.{fitting}
use Rattle.c_server.proofs.news.put_inputs.Given as goal

abbrev pub invariant-loop-one : goal.invariant-loop-one
invariant-loop-one l = record {
  kept : l.waiting.items ++ (fitting (4096 - length l.waiting.items) l.room l.came.items).0 ≡ l.fn.waiting.items ++ (fitting (4096 - length l.fn.waiting.items) l.text_room l.initial.came.items).0;
  lost : l.lost + (fitting (4096 - length l.waiting.items) l.room l.came.items).1 ≡ (fitting (4096 - length l.fn.waiting.items) l.text_room l.initial.came.items).1;
  room : (fitting (4096 - length l.waiting.items) l.room l.came.items).2 ≡ (fitting (4096 - length l.fn.waiting.items) l.text_room l.initial.came.items).2;
  fits : 4096 ≤ deque_capacity l.waiting;
  few : l.lost + deque_len l.came ≤ deque_len l.initial.came;
}

abbrev pub decreases-loop-one : goal.decreases-loop-one
decreases-loop-one l = deque_len l.came
