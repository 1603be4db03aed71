use Rattle.replay.specs.declared.replaying.Question.TheVariants.{Drawn}
use Rattle.replay.proofs.Replays.{opens_bad_at, none_at, none_drawn_at, begin_at, next_at, all_drawn_at}
use Rattle.replay.proofs.pictures.drawn.Goals as goal

pub returns-in_err-screen-clause-judged : goal.returns-in_err-screen-clause-judged
returns-in_err-screen-clause-judged g c = opens_bad_at _ Drawn _ _ _ _ _ c.from_residual.ensures.1 (c.in_err-screen.ensures Drawn)

pub returns-in_default-clause-draws : goal.returns-in_default-clause-draws
returns-in_default-clause-draws g c = none_drawn_at _ _ _ _ _ (c.in_ok-screen.ensures Drawn) c.in_default.is

pub returns-in_default-clause-judged : goal.returns-in_default-clause-judged
returns-in_default-clause-judged g c = none_at Drawn _ _ _ _ _ (c.in_ok-screen.ensures Drawn) c.in_default.is

pub loop-screen-init : goal.loop-screen-init
loop-screen-init g c = begin_at Drawn _ _ _ _ _ _ (c.in_ok-screen.ensures Drawn) c.in-Some.is

pub loop-screen-preserved : goal.loop-screen-preserved
loop-screen-preserved g c = next_at Drawn _ _ _ _ _ _ _ _ _ _ c.loop-screen.invariant c.in_ok-_answered.ensures.goes_on c.in-Some-2.is

pub returns-clause-draws : goal.returns-clause-draws
returns-clause-draws g c = all_drawn_at _ _ _ _ _ _ _ _ _ c.loop-screen.invariant c.in_ok-_answered.ensures.goes_on c.in_default-2.is (c.in_ok-_answered.ensures.kept c.in_default-2.is)
