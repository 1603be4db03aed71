use Rattle.std.proofs.Common.{rules, arith, ap, ◌∙◌}
use Rattle.replay.specs.Lines.{session_line}
use Rattle.replay.proofs.Events.{next_line, next_text}
use Rattle.replay.proofs.session.Session.next_line.Goals as goal

pub returns-clause-line : goal.returns-clause-line
returns-clause-line g c =
    next_line _ _ _ _ _ c.in_ok-read_line.field-0 _ (omega (arith, c.if-self-eq0.false)) (search rules) (c.in_ok-session_line.ensures ∙ ap session_line c.deref.ensures.value) c.in_ok-read_line.ensures

pub returns-clause-text : goal.returns-clause-text
returns-clause-text g c =
    next_text _ _ _ _ _ c.in_ok-read_line.field-0 _ (omega (arith, c.if-self-eq0.false)) (search rules) (c.in_ok-session_line.ensures ∙ ap session_line c.deref.ensures.value) c.in_ok-read_line.ensures
