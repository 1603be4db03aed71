use Rattle.std.proofs.Common.{[], ◌∷◌, ◌++◌}
use Rattle.screen.specs.Alone.{nothing_to_say}
use Rattle.screen.specs.Calls.{event_of}
use Rattle.update_sender.proofs.Stepped.{drawn}
use Rattle.update_sender.proofs.locked_screen.LockedScreen.draw.Goals as goal

pub invariant_of-self-2 : goal.invariant_of-self-2
invariant_of-self-2 g c =
    let i = c.self.invariant in
    let d = c.args.drawing.now in
    let config = c.self.inside.screen.config in
    (i.0 ++ event_of d ∷ [], drawn (λ _. nothing_to_say) c.in_ok-draw.field-0 _ _ i.0 _ _ _ d i.1 (c.in_ok-draw.ensures.step config i.0 i.1.stands) (c.in_ok-draw.ensures.answer config i.0 i.1.stands) c.add.ensures.total)
