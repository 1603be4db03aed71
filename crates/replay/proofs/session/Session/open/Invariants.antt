use Rattle.std.proofs.Common.{◌≤◌}
use Rattle.replay.specs.Reading.{ahead}
use Rattle.replay.specs.declared.replaying.Question.{Question}
use Rattle.replay.proofs.Events.{SameSession}
use Rattle.replay.proofs.session.Session.open.Given as goal

-- so far lines were skipped
abbrev pub invariant-loop-line : goal.invariant-loop-line
invariant-loop-line g l = record {
  same : (q : Question) → SameSession q (ahead l.fn.self.left (g.R.Read.remaining l.fn.self.reader.now)) (ahead l.self.left (g.R.Read.remaining l.self.reader.now)) l.fn.self.number l.self.number;
  fewer : l.self.left ≤ l.fn.self.left;
}

abbrev pub decreases-loop-line : goal.decreases-loop-line
decreases-loop-line g l = l.self.left
