use Rattle.std.proofs.Common.{[], ◌∷◌, ◌++◌, refl}
use Rattle.screen.specs.declared.Event.TheVariants.{Hear}
use Rattle.update_sender.proofs.Stepped.{quiet, answered}
use Rattle.update_sender.proofs.locked_screen.LockedScreen.hear.Goals as goal

pub invariant_of-self-2 : goal.invariant_of-self-2
invariant_of-self-2 g c =
    let i = c.self.invariant in
    let e = Hear c.args.number c.args.piece.now in
    let config = c.self.inside.screen.config in
    let told = answered (λ a. a) c.in_ok-answer.answer c.self.inside.screen i.0 e (c.in_ok-answer.ensures.answer config i.0 i.1.stands) (λ a. refl) in
    (i.0 ++ e ∷ [], quiet _ _ i.0 _ _ e i.1 (c.in_ok-answer.ensures.step config i.0 i.1.stands) told refl refl)
