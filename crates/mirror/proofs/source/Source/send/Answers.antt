use Rattle.std.proofs.Common.{rules, refl}
use Rattle.mirror.proofs.Sending.{sends_none, sends_then}
use Rattle.mirror.proofs.source.Source.send.Goals as goal

pub writes-init : goal.writes-init
writes-init g c = record { same = refl; sends = sends_none _ _ }

pub returns-in_err-send_once-clause-sends : goal.returns-in_err-send_once-clause-sends
returns-in_err-send_once-clause-sends g c = sends_then _ _ _ _ _ _ c.writes.invariant.sends c.send_once.ensures.sends

pub returns-then-not-branch-clause-sends : goal.returns-then-not-branch-clause-sends
returns-then-not-branch-clause-sends g c = sends_then _ _ _ _ _ _ c.writes.invariant.sends c.send_once.ensures.sends

pub writes-preserved : goal.writes-preserved
writes-preserved g c = record { same = search rules; sends = sends_then _ _ _ _ _ _ c.writes.invariant.sends c.send_once.ensures.sends }
