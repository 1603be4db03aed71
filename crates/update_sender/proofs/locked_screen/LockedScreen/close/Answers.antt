use Rattle.std.proofs.Common.{[], ◌∷◌, ◌++◌, refl}
use Rattle.screen.specs.declared.Event.TheVariants.{Close}
use Rattle.screen.specs.Alone.{nothing_to_say}
use Rattle.update_sender.proofs.Stepped.{quiet, answered}
use Rattle.update_sender.proofs.locked_screen.LockedScreen.close.Goals as goal

pub invariant_of-self-2 : goal.invariant_of-self-2
invariant_of-self-2 g c =
    let i = c.self.invariant in
    let e = Close c.args.number in
    let config = c.self.inside.screen.config in
    let told = answered (λ _. nothing_to_say) c.in_ok-close.field-0 c.self.inside.screen i.0 e (c.in_ok-close.ensures.answer config i.0 i.1.stands) (λ a. refl) in
    (i.0 ++ e ∷ [], quiet _ _ i.0 _ _ e i.1 (c.in_ok-close.ensures.step config i.0 i.1.stands) told refl refl)
