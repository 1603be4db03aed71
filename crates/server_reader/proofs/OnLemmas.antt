-- What lies on the picture.
use Rattle.std.proofs.Common.{◌≡◌, false, sym, subst}
use Rattle.server_reader.specs.declared.step.Step.{Step}
use Rattle.server_reader.specs.declared.stage.Size.{Size}
use Rattle.server_reader.specs.declared.stage.Stage.{Stage}
use Rattle.server_reader.specs.declared.stage.State.{State}
use Rattle.server_reader.specs.OnPicture.{StageIsOn, StepIsOn, ends_update, TurnIsOn}
use Rattle.server_reader.specs.Steps.{state_at}

-- a turn by its stage and its step
pub turn_on : (size : Size) (at : Stage) (state : State) (step : Step) → state ≡ state_at size at → StageIsOn size at → StepIsOn size step → ends_update step ≡ false → TurnIsOn (record { state = state; step = step })
turn_on size at state step is stage shown inner = let P : State → Type 0 = λ s. TurnIsOn (record { state = s; step = step }) in subst P (sym is) (record { stage = stage; step = shown; inner = inner })
