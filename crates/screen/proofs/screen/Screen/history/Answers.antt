use Rattle.std.proofs.Common.{◌≡◌, List, ◌∙◌, ap}
use Rattle.scene.specs.declared.Event.{Event}
use Rattle.screen.specs.State.{State, state}
use Rattle.screen.proofs.GoesOn.{kept-stands, if-some-mapped}
use Rattle.screen.proofs.screen.Screen.history.Goals as goal

pub returns-clause-enough : goal.returns-clause-enough
returns-clause-enough c = λ config list h.
    if-some-mapped _ (λ (events : List Event). c.args.self.now ≡ state config events) c.as_slice.result
    (kept-stands c.args.self.now _ c.accepted_is_enough.ensures c.accepted_happens_again.ensures (c.as_slice.ensures ∙ ap (λ (s : State). s.history) c.self.view_is) config list h)
