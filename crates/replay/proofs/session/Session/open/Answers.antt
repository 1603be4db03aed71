use Rattle.std.proofs.Common.{◌≡◌, ◌+◌, IfSome, Some, None, subst, refl, ap, ◌∙◌, rules, inl, inr}
use Rattle.play_script.specs.declared.lines.Line.TheVariants.{Do, Bad}
use Rattle.replay.specs.Reading.{NextLine, Opens}
use Rattle.replay.proofs.Events.{session_skipped, screen_made, screen_refused, handed_on, line_refused, no_screen}
use Rattle.replay.proofs.session.Session.open.Goals as goal

pub loop-line-preserved : goal.loop-line-preserved
loop-line-preserved g c =
    let line = subst (NextLine _ _) (c.in-Some.is ∙ ap Some c.in-Skipped.is) c.in_ok-line.ensures.line in
    let number = subst (λ o. IfSome o (λ _. c.next_line.new.self.number ≡ c.loop-line.self.number + 1)) c.in-Some.is c.in_ok-line.ensures.number in
    record { same = λ q. session_skipped q _ _ _ _ _ _ (c.loop-line.invariant.same q) line number; fewer = search rules }

pub returns-in_err-screen_by-in-Start : goal.returns-in_err-screen_by-in-Start
returns-in_err-screen_by-in-Start g c =
    let line = subst (NextLine _ _) (c.in-Some.is ∙ ap Some c.in-Start.is) c.in_ok-line.ensures.line in
    let number = subst (λ o. IfSome o (λ _. c.next_line.new.self.number ≡ c.loop-line.self.number + 1)) c.in-Some.is c.in_ok-line.ensures.number in
    λ q. handed_on (Opens q _ _ _ _) c.from_residual-in_err-screen_by-in-Start.result _ c.from_residual-in_err-screen_by-in-Start.ensures.1
    (screen_refused q _ _ _ _ _ _ c.in-Start.config c.in_err-screen_by-in-Start.field-0.0 (c.loop-line.invariant.same q) line number c.in_err-screen_by-in-Start.ensures.refused)

pub returns-in-Start : goal.returns-in-Start
returns-in-Start g c =
    let line = subst (NextLine _ _) (c.in-Some.is ∙ ap Some c.in-Start.is) c.in_ok-line.ensures.line in
    let number = subst (λ o. IfSome o (λ _. c.next_line.new.self.number ≡ c.loop-line.self.number + 1)) c.in-Some.is c.in_ok-line.ensures.number in
    λ q. screen_made q _ _ _ _ _ _ c.in-Start.config _ (c.loop-line.invariant.same q) line number c.in_ok-screen_by-in-Start.ensures.made c.in_ok-screen_by-in-Start.ensures.refused

pub returns-in-Do : goal.returns-in-Do
returns-in-Do g c =
    let number = subst (λ o. IfSome o (λ _. c.next_line.new.self.number ≡ c.loop-line.self.number + 1)) c.in-Some.is c.in_ok-line.ensures.number in
    λ q. elim c.in-Do.is [
      | inl e ↦ line_refused q _ _ _ _ _ _ (Do e.0) (c.loop-line.invariant.same q) (subst (NextLine _ _) (c.in-Some.is ∙ ap Some e.1) c.in_ok-line.ensures.line) number (λ rest. refl)
      | inr e ↦ line_refused q _ _ _ _ _ _ Bad (c.loop-line.invariant.same q) (subst (NextLine _ _) (c.in-Some.is ∙ ap Some e) c.in_ok-line.ensures.line) number (λ rest. refl)
    ]

pub returns : goal.returns
returns g c =
    let line = subst (NextLine _ _) c.in_default.is c.in_ok-line.ensures.line in
    λ q. no_screen q _ _ _ None _ _ 0 (c.loop-line.invariant.same q) line
