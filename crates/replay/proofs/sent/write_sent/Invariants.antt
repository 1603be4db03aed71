use Rattle.replay.specs.Reading.{ahead}
use Rattle.replay.proofs.Replays.{Sends}
use Rattle.replay.proofs.sent.write_sent.Given as goal

-- the screen and the writer hold what they should after the events so far
abbrev pub invariant-loop-screen : goal.invariant-loop-screen
invariant-loop-screen g l =
    Sends l.viewer (ahead l.fn.session.left (g.R.Read.remaining l.fn.session.reader.now)) (ahead l.session.left (g.R.Read.remaining l.session.reader.now)) (g.W.Write.contents l.fn.writer) (g.W.Write.contents l.writer) l.fn.session.number l.session.number l.screen

abbrev pub decreases-loop-screen : goal.decreases-loop-screen
decreases-loop-screen g l = l.session.left
