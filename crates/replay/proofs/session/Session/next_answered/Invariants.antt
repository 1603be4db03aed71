use Rattle.std.proofs.Common.{◌≤◌, ◌≡◌, List}
use Rattle.screen.specs.declared.Config.{Config}
use Rattle.screen.specs.declared.Event.{Event}
use Rattle.screen.specs.State.{state}
use Rattle.replay.specs.Reading.{ahead}
use Rattle.replay.proofs.Events.{SameEvents}
use Rattle.replay.proofs.session.Session.next_answered.Given as goal

-- so far the question needed no event
abbrev pub invariant-loop-line : goal.invariant-loop-line
invariant-loop-line g l = record {
  same : (config : Config) (list : List Event) → l.fn.screen ≡ state config list
      → SameEvents l.question config list (ahead l.fn.self.left (g.R.Read.remaining l.fn.self.reader.now)) (ahead l.self.left (g.R.Read.remaining l.self.reader.now)) l.fn.self.number l.self.number;
  kept : l.screen ≡ l.fn.screen;
  fewer : l.self.left ≤ l.fn.self.left;
}

abbrev pub decreases-loop-line : goal.decreases-loop-line
decreases-loop-line g l = l.self.left
