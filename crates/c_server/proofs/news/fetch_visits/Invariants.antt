use Rattle.std.proofs.Common.{◌≡◌, ◌≤◌, ◌++◌, length, take, drop, ◌-◌}
use Rattle.c_server.proofs.news.fetch_visits.Given as goal

abbrev pub invariant-loop-count : goal.invariant-loop-count
invariant-loop-count l = record {
  rest : l.waiting.items ≡ drop l.count l.fn.waiting.items;
  room : l.room ≡ take l.count l.fn.waiting.items ++ drop l.count l.fn.room;
  size : length l.room ≡ length l.fn.room;
  few : l.count ≤ length l.fn.waiting.items;
}

abbrev pub decreases-loop-count : goal.decreases-loop-count
decreases-loop-count l = length l.initial.room - l.count
