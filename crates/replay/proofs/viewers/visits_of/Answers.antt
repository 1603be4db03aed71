use Rattle.replay.specs.declared.replaying.Question.TheVariants.{Viewers}
use Rattle.replay.proofs.Replays.{opens_bad_at, none_at, begin_at, next_at}
use Rattle.replay.proofs.viewers.visits_of.Goals as goal

pub returns-in_err-screen : goal.returns-in_err-screen
returns-in_err-screen g c = opens_bad_at _ Viewers _ _ _ _ _ c.from_residual.ensures.1 (c.in_err-screen.ensures Viewers)

pub returns-in_default : goal.returns-in_default
returns-in_default g c = none_at Viewers _ _ _ _ _ (c.in_ok-screen.ensures Viewers) c.in_default.is

pub loop-screen-init : goal.loop-screen-init
loop-screen-init g c = begin_at Viewers _ _ _ _ _ _ (c.in_ok-screen.ensures Viewers) c.in-Some.is

pub loop-screen-preserved : goal.loop-screen-preserved
loop-screen-preserved g c = next_at Viewers _ _ _ _ _ _ _ _ _ _ c.loop-screen.invariant c.in_ok-answered.ensures.goes_on c.in-Some-2.is
