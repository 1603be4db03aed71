use Rattle.std.proofs.Common.{◌≡◌, ◌+◌, IfSome, subst, sym, ◌∙◌}
use Rattle.replay.proofs.Redacting.{redacts_begin, redacts_next, redacts_bad, redacts_good}
use Rattle.replay.proofs.redacted.write_redacted.Goals as goal

pub loop-redactor-init : goal.loop-redactor-init
loop-redactor-init g c = redacts_begin _ _ _ _ c.new-redactor.ensures

pub returns-then-not-may_stand-clause-judged : goal.returns-then-not-may_stand-clause-judged
returns-then-not-may_stand-clause-judged g c =
    let number = subst (λ o. IfSome o (λ _. c.next_line.new.self.number ≡ c.loop-redactor.session.number + 1)) c.in-Some.is c.in_ok-said.ensures.number in
    redacts_bad _ _ _ _ _ _ _ _ _ _ _ _ _ _ c.loop-redactor.invariant c.in_ok-said.ensures.text c.in-Some.is number (sym c.may_stand.ensures ∙ c.if-not-may_stand.true)

pub loop-redactor-preserved : goal.loop-redactor-preserved
loop-redactor-preserved g c =
    let number = subst (λ o. IfSome o (λ _. c.next_line.new.self.number ≡ c.loop-redactor.session.number + 1)) c.in-Some.is c.in_ok-said.ensures.number in
    redacts_next _ _ _ _ _ _ _ _ _ _ _ _ _ _ _ _ _ c.loop-redactor.invariant c.in_ok-said.ensures.text c.in-Some.is number (sym c.may_stand.ensures ∙ c.if-not-may_stand.false) c.has_screen_with-has_screen.ensures c.line.ensures c.in_ok-write_line.ensures

pub returns-clause-judged : goal.returns-clause-judged
returns-clause-judged g c = redacts_good _ _ _ _ _ _ _ _ _ _ _ _ c.loop-redactor.invariant c.in_ok-said.ensures.text c.in_default.is
