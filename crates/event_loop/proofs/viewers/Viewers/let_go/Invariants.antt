use Rattle.std.proofs.Common.{◌≡◌, length}
use Rattle.std.specs.Duration.{as_nanos}
use Rattle.std.specs.Time.{instant_nanos}
use Rattle.connections.specs.Serving.{GoesOn}
use Rattle.event_loop.proofs.Openings.{Going}
use Rattle.event_loop.proofs.viewers.Viewers.let_go.Given as goal

abbrev pub invariant-late : goal.invariant-late
invariant-late g l = record {
  served : GoesOn l.fn.self.connections l.self.connections;
  limits : l.self.limits ≡ l.fn.self.limits;
  came : l.self.came ≡ l.fn.self.came;
  patience : l.self.newcomers.patience ≡ l.fn.self.newcomers.patience;
  going : Going (as_nanos l.fn.self.newcomers.patience) (instant_nanos l.now) l.fn.self.connections l.self.connections l.fn.self.newcomers.waiting.items l.self.newcomers.waiting.items;
}

abbrev pub decreases-late : goal.decreases-late
decreases-late g l = length l.self.newcomers.waiting.items
