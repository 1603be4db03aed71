use Rattle.replay.specs.declared.replaying.Question.TheVariants.{Seen}
use Rattle.replay.proofs.Replays.{opens_bad_at, none_at, begin_at, next_at}
use Rattle.replay.proofs.seen.watched.Goals as goal

pub returns-in_err-screen : goal.returns-in_err-screen
returns-in_err-screen g c = opens_bad_at _ (Seen c.args.viewer) _ _ _ _ _ c.from_residual.ensures.1 (c.in_err-screen.ensures (Seen c.args.viewer))

pub returns-in_default : goal.returns-in_default
returns-in_default g c = none_at (Seen c.args.viewer) _ _ _ _ _ (c.in_ok-screen.ensures (Seen c.args.viewer)) c.in_default.is

pub loop-screen-init : goal.loop-screen-init
loop-screen-init g c = begin_at (Seen c.args.viewer) _ _ _ _ _ _ (c.in_ok-screen.ensures (Seen c.args.viewer)) c.in-Some.is

pub loop-screen-preserved : goal.loop-screen-preserved
loop-screen-preserved g c = next_at (Seen c.args.viewer) _ _ _ _ _ _ _ _ _ _ c.loop-screen.invariant c.in_ok-answered.ensures.goes_on c.in-Some-2.is
