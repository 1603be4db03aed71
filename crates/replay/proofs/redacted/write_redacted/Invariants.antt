use Rattle.replay.specs.Reading.{lines_ahead}
use Rattle.replay.proofs.Redacting.{Redacts}
use Rattle.replay.proofs.redacted.write_redacted.Given as goal

-- what stands for the lines so far was written
abbrev pub invariant-loop-redactor : goal.invariant-loop-redactor
invariant-loop-redactor g l =
    Redacts (lines_ahead l.fn.session.left (g.R.Read.remaining l.fn.session.reader.now)) (lines_ahead l.session.left (g.R.Read.remaining l.session.reader.now)) l.fn.session.number l.session.number l.has_screen l.redactor (g.W.Write.contents l.fn.writer) (g.W.Write.contents l.writer)

abbrev pub decreases-loop-redactor : goal.decreases-loop-redactor
decreases-loop-redactor g l = l.session.left
