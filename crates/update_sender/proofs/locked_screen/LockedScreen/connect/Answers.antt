use Rattle.std.proofs.Common.{◌≡◌, [], ◌∷◌, ◌++◌, Err, rules, ap, subst}
use Rattle.std.specs.Prelude.{MatchBool, IsOkUnless}
use Rattle.screen.specs.declared.Event.TheVariants.{Connect}
use Rattle.screen.specs.Alone.{gives}
use Rattle.update_sender.proofs.Stepped.{joined}
use Rattle.update_sender.specs.Numbers.{is_next}
use Rattle.screen.specs.declared.ScreenError.TheVariants as refusals
use Rattle.update_sender.proofs.Absent.{next-refused}
use Rattle.update_sender.proofs.locked_screen.LockedScreen.connect.Goals as goal

pub invariant_of-self-2 : goal.invariant_of-self-2
invariant_of-self-2 g c =
    let i = c.self.invariant in
    let n = c.args.number in
    let config = c.self.inside.screen.config in
    (i.0 ++ Connect n ∷ [], joined gives c.in_ok-version.version _ _ i.0 _ _ n i.1 (c.in_ok-version.ensures.step config i.0 i.1.stands) (c.in_ok-version.ensures.answer config i.0 i.1.stands) (search rules))

pub returns-in_err-version-clause-refused : goal.returns-in_err-version-clause-refused
returns-in_err-version-clause-refused g c =
    let i = c.self.invariant in
    let n = c.args.number in
    let r = c.from_residual.result in
    subst (λ o. MatchBool (is_next o n) (IsOkUnless r refusals.OutOfMemory) (r ≡ Err refusals.NumberInUse)) (ap (λ h. h.newest) c.self.view_is)
    (next-refused _ r c.in_err-version.field-0.0 c.self.inside.screen i.0 _ _ n i.1 (search rules) c.in_err-version.ensures.refused c.from_residual.ensures.1)
