use Rattle.replay.specs.Reading.{ahead}
use Rattle.replay.specs.declared.replaying.Question.TheVariants.{Seen}
use Rattle.replay.proofs.Replays.{Replays}
use Rattle.replay.proofs.seen.watched.Given as goal

-- the screen holds what it should after the events so far
abbrev pub invariant-loop-screen : goal.invariant-loop-screen
invariant-loop-screen g l =
    Replays (Seen l.viewer) (ahead l.fn.session.left (g.R.Read.remaining l.fn.session.reader.now)) (ahead l.session.left (g.R.Read.remaining l.session.reader.now)) l.fn.session.number l.session.number l.screen

abbrev pub decreases-loop-screen : goal.decreases-loop-screen
decreases-loop-screen g l = l.session.left
