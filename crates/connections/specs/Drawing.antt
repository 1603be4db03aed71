-- What an application does to a screen.
use Rattle.std.specs.Prelude.{◌≡◌, ℕ, Bool, true, false, List, [], ◌∷◌, ◌++◌, ◌||◌, Option, None, Some, Result, OnOk, OnErr}
use Rattle.std.specs.List.{list_all, list_any}
use Rattle.screen.specs.declared.Config.{Config}
use Rattle.screen.specs.declared.Event.{Event}
use Rattle.screen.specs.declared.Event.TheVariants.{Bell, CutText}
use Rattle.screen.specs.declared.ScreenError.{ScreenError}
use Rattle.screen.specs.Alone.{owner_of}
use Rattle.screen.specs.Answers.{is_drawing}
use Rattle.screen.specs.Refusals.{Refuses}
use Rattle.viewer.specs.Viewer.{is_asking}
use Rattle.scribe.specs.Scribing.{Scribed}
use Rattle.connections.specs.Recorded.{RecordsMore}
use Rattle.screen.specs.State.{State, state, viewer_at, refusal}

-- a screen, what is written of its events, where that is, whether it may have been drawn on since its viewers were looked at, and whether a bell or a text may be among that
pub record Surface : Type 0 where
  pub screen : State
  pub scribed : Option Scribed
  pub drawn : Bool
  pub noticed : Bool

-- whether a request of a viewer of a screen is unanswered; no viewer has one
abbrev pub is_asking_on : State → ℕ → Bool
is_asking_on screen v = elim (viewer_at screen v) [ None ↦ false | Some viewer ↦ is_asking viewer ]

-- how many requests of a viewer of a screen were not incremental; no viewer made any
abbrev pub full_requests_on : State → ℕ → ℕ
full_requests_on screen v = elim (viewer_at screen v) [ None ↦ 0 | Some viewer ↦ viewer.full_requests ]

-- each event of a list is a drawing call
abbrev pub are_drawings : List Event → Bool
are_drawings es = list_all (λ e. is_drawing (owner_of e)) es

-- a bell or a text
abbrev pub is_notice : Event → Bool
is_notice Bell = true
is_notice (CutText text) = true
is_notice _ = false

abbrev pub has_notice : List Event → Bool
has_notice es = list_any is_notice es

-- after a drawing call that happened or was refused, the viewers are to be looked at, and after a bell or a text all of them
pub record IsNotedAfter (e : Event) (before after : Surface) : Type 0 where
  pub drawn : after.drawn ≡ true
  pub noticed : after.noticed ≡ (is_notice e || before.noticed)

-- The screen stands for a list with drawing calls behind it, and so does the record of one that stood for the list. Since another moment nothing was drawn where it says so, and no bell or text.
pub record IsDrawnFrom (c : Config) (list : List Event) (since surface : Surface) : Type 0 where
  pub calls : List Event
  pub drawings : are_drawings calls ≡ true
  pub screen : surface.screen ≡ state c (list ++ calls)
  pub recorded : RecordsMore c list calls since.scribed surface.scribed
  pub none : surface.drawn ≡ false → (since.drawn ≡ false) × (calls ≡ [])
  pub quiet : surface.noticed ≡ false → (since.noticed ≡ false) × (has_notice calls ≡ false)

-- nothing but drawing calls happened
abbrev pub Draws : Surface → Surface → Type 0
Draws old new = (c : Config) (list : List Event) (since : Surface) → IsDrawnFrom c list since old → IsDrawnFrom c list since new

-- What a drawing call does to a surface: the screen stands for the events so far with its own behind them, and the record says so; else it is refused for the reason that is due, or for memory, and screen and record stay. The viewers are to be looked at in each case.
pub record IsDrawnOn (old : Surface) (e : Event) (result : Result (Unit {0}) ScreenError) (new : Surface) : Type 0 where
  pub step : (config : Config) (list : List Event) → old.screen ≡ state config list → OnOk result (new.screen ≡ state config (list ++ e ∷ []))
  pub recorded : (config : Config) (list : List Event) → old.screen ≡ state config list → OnOk result (RecordsMore config list (e ∷ []) old.scribed new.scribed)
  pub unrecorded : OnErr result (new.scribed ≡ old.scribed)
  pub refused : Refuses result (refusal old.screen e)
  pub err : OnErr result (new.screen ≡ old.screen)
  pub draws : Draws old new
  pub noted : IsNotedAfter e old new
