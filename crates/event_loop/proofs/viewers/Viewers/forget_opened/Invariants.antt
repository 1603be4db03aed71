use Rattle.std.proofs.Common.{◌≡◌, length}
use Rattle.event_loop.specs.Patience.{from_opening}
use Rattle.event_loop.proofs.viewers.Viewers.forget_opened.Given as goal

-- those that are left are as good as all
abbrev pub invariant-waiting : goal.invariant-waiting
invariant-waiting g l = record {
  same : l.self ≡ record l.fn.self { newcomers = l.self.newcomers };
  patience : l.self.newcomers.patience ≡ l.fn.self.newcomers.patience;
  waiting : from_opening l.fn.self.connections l.self.newcomers.waiting.items ≡ from_opening l.fn.self.connections l.fn.self.newcomers.waiting.items;
}

abbrev pub decreases-waiting : goal.decreases-waiting
decreases-waiting g l = length l.self.newcomers.waiting.items
