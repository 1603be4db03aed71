-- What stands behind the lock, and what each hold does to it.
use Rattle.std.specs.Prelude.{◌≡◌, ◌≢◌, ◌⊎◌, ℕ, suc, Bool, true, false, List, [], ◌∷◌, ◌++◌, length, Option, Some, None, Ok, is_some}
use Rattle.messages.specs.Reading.{fault_in_rest, is_open_rest}
use Rattle.viewer.specs.Viewer.{KeptViewer}
use Rattle.screen.specs.declared.Answer.{Answer}
use Rattle.screen.specs.declared.Event.{Event}
use Rattle.screen.specs.declared.Event.TheVariants.{Close, Cut}
use Rattle.screen.specs.declared.Config.{Config}
use Rattle.screen.specs.Alone.{gives, something_to_send}
use Rattle.screen.specs.Answers.{answer_to}
use Rattle.screen.specs.History.{accepted, drawings, connects}
use Rattle.screen.specs.State.{State, state, viewer_at}
use Rattle.update_sender.specs.declared.next_step.NextStep.{NextStep}
use Rattle.update_sender.specs.declared.next_step.Turn.{Turn}
use Rattle.update_sender.specs.declared.next_step.NextStep.TheVariants.{Send, Stopped, Closed, Faulty}
use Rattle.update_sender.specs.Numbers.{rises, newest}

-- what is held: the screen, the greatest number that connected, whether all was stopped, and how many drawing calls were counted
pub record Locked : Type 0 where
  pub screen : State
  pub newest : Option ℕ
  pub stopped : Bool
  pub drawn : ℕ

-- A screen stands for a history, of which each event happened, so that it is the history that the screen keeps where it keeps one.
-- Its viewers connected by rising numbers, and as many drawing calls as it has were counted.
pub record Stands (screen : State) (history : List Event) (greatest : Option ℕ) (counted : ℕ) : Type 0 where
  pub stands : screen ≡ state screen.config history
  pub happened : accepted screen.config history ≡ history
  pub rising : rises (connects history) ≡ true
  pub last : newest (connects history) ≡ greatest
  pub as_many : counted ≡ length (drawings history)

-- one event more: whatever list the screen stood for, it stands for that list with the event behind it
abbrev pub Steps : Event → Locked → Locked → Type 0
Steps e old new = (c : _) (list : List Event) → old.screen ≡ state c list → new.screen ≡ state c (list ++ e ∷ [])

-- one event more, and nothing else is another
abbrev pub StepsAlone : Event → Locked → Locked → Type 0
StepsAlone e old new = Steps e old new × (new ≡ record old { screen = new.screen })

-- A viewer leaves: it is closed now, or it was there no more; or else it stays, and nothing is another.
abbrev pub Parts : ℕ → Bool → Locked → Locked → Type 0
Parts v true old new = StepsAlone (Close v) old new ⊎ ((new ≡ old) × (viewer_at old.screen v ≡ None))
Parts v false old new = new ≡ old

-- a viewer that connects is the newest
abbrev pub Joins : ℕ → Event → Locked → Locked → Type 0
Joins v e old new = Steps e old new × (new ≡ record old { screen = new.screen; newest = Some v })

-- a drawing call is counted
abbrev pub Draws : Event → Locked → Locked → Type 0
Draws e old new = Steps e old new × (new ≡ record old { screen = new.screen; drawn = suc old.drawn })

abbrev faulty : KeptViewer → Option NextStep
faulty viewer = elim (fault_in_rest viewer.heard) [ None ↦ None | Some fault ↦ Some (Faulty fault) ]

abbrev pub ending_of : Option KeptViewer → Option NextStep
ending_of None = Some Closed
ending_of (Some viewer) = faulty viewer

-- why a viewer is sent nothing any more: all was stopped, or it is closed, or it has a fault, the first of these
abbrev pub ending : Locked → ℕ → Option NextStep
ending held v = if_stopped held.stopped (ending_of (viewer_at held.screen v))
  where
    if_stopped : Bool → Option NextStep → Option NextStep
    if_stopped true rest = Some Stopped
    if_stopped false rest = rest

-- whether a viewer's sender need not wait: it ends, or a cut has something to send
abbrev pub NeedsNoWait : Locked → ℕ → Bool → Type 0
NeedsNoWait held v has_step =
    (is_some (ending held v) ≡ true → has_step ≡ true)
    × ((config : Config) (list : List Event) → held.screen ≡ state config list → ending held v ≡ None → Ok has_step ≡ something_to_send (answer_to config list (Cut v)))

-- a live viewer had its ServerInit, and met no fault
abbrev pub is_open_now : Option KeptViewer → Bool
is_open_now None = false
is_open_now (Some viewer) = is_open_rest viewer.heard

-- an update that is sent has bytes
abbrev pub HasBytes : NextStep → Type 0
HasBytes (Send update) = update ≢ []
HasBytes step = Unit {0}

-- a turn is a viewer's, and an update that it sends has bytes
abbrev pub IsTurnOf : ℕ → Turn → Type 0
IsTurnOf v turn = (turn.viewer ≡ v) × HasBytes turn.step

-- a step is an event where it sends
abbrev pub Takes : ℕ → Locked → Locked → Option NextStep → Type 0
Takes v old new (Some (Send update)) = StepsAlone (Cut v) old new
Takes v old new _ = new ≡ old

-- where nothing ends its sender, a viewer is sent what the screen answers to a cut; its sender waits where that is nothing
abbrev pub TellsStep : Option NextStep → Answer → Type 0
TellsStep None answer = answer ≡ gives []
TellsStep (Some (Send update)) answer = (answer ≡ gives update) × (update ≢ [])
TellsStep (Some step) answer = ⊥
