use Rattle.std.proofs.Common.{subst}
use Rattle.std.specs.Io.KnownBytes.{Appends}
use Rattle.replay.specs.declared.replaying.Question.TheVariants.{Sent}
use Rattle.replay.proofs.Replays.{opens_bad_at, none_at, none_sent_at, sends_begin_at, sends_next_at, all_sent_at}
use Rattle.replay.proofs.sent.write_sent.Goals as goal

pub returns-in_err-screen-clause-judged : goal.returns-in_err-screen-clause-judged
returns-in_err-screen-clause-judged g c = opens_bad_at _ (Sent c.args.viewer) _ _ _ _ _ c.from_residual.ensures.1 (c.in_err-screen.ensures (Sent c.args.viewer))

pub returns-in_default-clause-sent : goal.returns-in_default-clause-sent
returns-in_default-clause-sent g c = none_sent_at _ _ _ _ _ _ _ (c.in_ok-screen.ensures (Sent c.args.viewer)) c.in_default.is

pub returns-in_default-clause-judged : goal.returns-in_default-clause-judged
returns-in_default-clause-judged g c = none_at (Sent c.args.viewer) _ _ _ _ _ (c.in_ok-screen.ensures (Sent c.args.viewer)) c.in_default.is

pub loop-screen-init : goal.loop-screen-init
loop-screen-init g c = sends_begin_at _ _ _ _ _ _ _ _ (c.in_ok-screen.ensures (Sent c.args.viewer)) c.in-Some.is

pub loop-screen-preserved : goal.loop-screen-preserved
loop-screen-preserved g c = sends_next_at _ _ _ _ _ _ _ _ _ _ _ _ _ _ c.loop-screen.invariant c.in_ok-answered.ensures.goes_on c.in-Some-2.is (subst (Appends _ _) c.as_slice.ensures c.in_ok-print.ensures)

pub returns-clause-sent : goal.returns-clause-sent
returns-clause-sent g c = all_sent_at _ _ _ _ _ _ _ _ _ _ _ _ c.one_viewer_is_alone.ensures c.loop-screen.invariant c.in_ok-answered.ensures.goes_on c.in_default-2.is
