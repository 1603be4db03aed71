-- What a drawing call does to a screen.
use Rattle.std.specs.Prelude.{◌≡◌, List, [], ◌∷◌, ◌++◌, Result, OnOk, OnErr}
use Rattle.scene.specs.declared.Config.{Config}
use Rattle.scene.specs.declared.Event.{Event}
use Rattle.scene.specs.declared.ScreenError.{ScreenError}
use Rattle.scene.specs.Alone.{nothing_to_say, Tells}
use Rattle.scene.specs.Answers.{answer_to}
use Rattle.scene.specs.Refusals.{Refuses}
use Rattle.screen.specs.Happening.{AllHappen}
use Rattle.screen.specs.State.{State, state, refusal}

-- it leaves the screen standing for the events so far with its own behind them, which happened, and answers what they do; else it is refused for the reason that is due, or for memory, and the screen stays
pub record IsDrawn (old : State) (e : Event) (result : Result (Unit {0}) ScreenError) (new : State) : Type 0 where
  pub step : (config : Config) (list : List Event) → old ≡ state config list → OnOk result (new ≡ state config (list ++ e ∷ []))
  pub happened : (config : Config) (list : List Event) → old ≡ state config list → OnOk result (AllHappen config list (e ∷ []))
  pub answer : (config : Config) (list : List Event) → old ≡ state config list → Tells (λ _. nothing_to_say) result (answer_to config list e)
  pub refused : Refuses result (refusal old e)
  pub err : OnErr result (new ≡ old)
