use Rattle.std.proofs.Common.{◌≡◌, length, ◌-◌}
use Rattle.c_screen.proofs.Fetching.{Fetching}
use Rattle.c_server.specs.Desk.{texts_size}
use Rattle.c_server.proofs.news.fetch_inputs.Given as goal

abbrev pub invariant-loop-count : goal.invariant-loop-count
invariant-loop-count l = record {
  so : Fetching l.fn.waiting.items l.waiting.items l.fn.room l.room l.fn.text l.count;
  size : length l.room ≡ length l.fn.room;
  text : l.text ≡ l.fn.text;
  texts : texts_size l.waiting.items ≡ texts_size l.fn.waiting.items;
}

abbrev pub decreases-loop-count : goal.decreases-loop-count
decreases-loop-count l = length l.initial.room - l.count
