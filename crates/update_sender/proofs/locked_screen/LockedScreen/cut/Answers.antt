use Rattle.std.proofs.Common.{◌≡◌, ◌≢◌, ℕ, Bool, List, [], ◌∷◌, ◌++◌, Option, refl, sym, ap, ◌∙◌, subst}
use Rattle.std.specs.Prelude.{IfSome}
use Rattle.screen.specs.declared.Answer.{Answer}
use Rattle.screen.specs.declared.Event.TheVariants.{Cut}
use Rattle.screen.specs.Alone.{gives}
use Rattle.screen.specs.Answers.{answer_to}
use Rattle.viewer.specs.Given.{bytes_given}
use Rattle.screen.specs.State.{State}
use Rattle.update_sender.specs.Locked.{Locked, Stands}
use Rattle.update_sender.proofs.Stepped.{quiet, cut-something, cut-idle}
use Rattle.update_sender.proofs.locked_screen.LockedScreen.cut.Goals as goal

abbrev held : State → Option ℕ → Bool → ℕ → Locked
held s n b d = record { screen = s; newest = n; stopped = b; drawn = d }

abbrev given : Option (List ℕ) → Answer
given update = gives (bytes_given update)

pub invariant_of-self-in_default : goal.invariant_of-self-in_default
invariant_of-self-in_default g c =
    let i = c.self.invariant in
    let config = c.self.inside.screen.config in
    let same = cut-idle c.kept_is_enough.ensures given c.in_ok-update.field-0 c.self.inside.screen c.cut.new.self i.0 _ _ c.args.number i.1 (c.in_ok-update.ensures.step config i.0 i.1.stands) (c.in_ok-update.ensures.answer config i.0 i.1.stands) (ap given c.in_default.is) in
    (i.0, subst (λ (s : State). Stands s i.0 c.self.inside.newest c.self.inside.drawings.total) (sym same) i.1)

pub returns-in_default-clause-step : goal.returns-in_default-clause-step
returns-in_default-clause-step g c =
    let i = c.self.invariant in
    let config = c.self.inside.screen.config in
    let same = cut-idle c.kept_is_enough.ensures given c.in_ok-update.field-0 c.self.inside.screen c.cut.new.self i.0 _ _ c.args.number i.1 (c.in_ok-update.ensures.step config i.0 i.1.stands) (c.in_ok-update.ensures.answer config i.0 i.1.stands) (ap given c.in_default.is) in
    ap (λ (s : State). held s c.self.inside.newest c.self.inside.stopped c.self.inside.drawings.total) same ∙ c.self.view_is

pub invariant_of-self-2 : goal.invariant_of-self-2
invariant_of-self-2 g c =
    let i = c.self.invariant in
    let n = c.args.number in
    let config = c.self.inside.screen.config in
    let some : c.in-Some.update ≢ [] = subst (λ (o : Option (List ℕ)). IfSome o (λ u. u ≢ [])) c.in-Some.is c.in_ok-update.ensures.some in
    let happened = cut-something given c.in_ok-update.field-0 n (answer_to config i.0 (Cut n)) c.in-Some.update (c.in_ok-update.ensures.answer config i.0 i.1.stands) (ap given c.in-Some.is) some in
    (i.0 ++ Cut n ∷ [], quiet _ _ i.0 _ _ (Cut n) i.1 (c.in_ok-update.ensures.step config i.0 i.1.stands) happened refl refl)
