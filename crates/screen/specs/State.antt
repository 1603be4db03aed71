-- What a screen holds after a list of events: a scene, and the events that it keeps.
use Rattle.std.specs.Prelude.{◌≡◌, ℕ, List, Option, Some, None}
use Rattle.messages.specs.Reading.{Rest}
use Rattle.viewer.specs.Viewer.{Viewer, KeptViewer}
use Rattle.framebuffer.specs.Frame.{Frame}
use Rattle.scene.specs.declared.Config.{Config}
use Rattle.scene.specs.declared.History.{History}
use Rattle.scene.specs.declared.History.TheVariants.{Kept, NotKept}
use Rattle.scene.specs.declared.ScreenError.{ScreenError}
use Rattle.scene.specs.declared.Event.{Event}
use Rattle.scene.specs.Answers.{SceneState, scene_after}
use Rattle.scene.specs.Refusals as now
use Rattle.scene.specs.History.{accepted}

-- the configuration is what the screen was made with; its size is the picture's
pub record State : Type 0 where
  pub config : Config
  pub picture : Frame
  pub viewers : List (ℕ × Viewer Rest)
  pub history : Option (List Event)

-- a scene with the events that are kept
abbrev pub with_history : SceneState → Option (List Event) → State
with_history s kept_events = record { config = s.config; picture = s.picture; viewers = s.viewers; history = kept_events }

-- what stands now, without how it came to that
abbrev pub scene_of : State → SceneState
scene_of s = record { config = s.config; picture = s.picture; viewers = s.viewers }

-- what is kept of a list, as the events, or a viewer's bytes
abbrev pub history_by : {X : Type 0} → History → List X → Option (List X)
history_by Kept es = Some es
history_by NotKept es = None

abbrev pub history_of : Config → List Event → Option (List Event)
history_of c es = history_by c.history (accepted c es)

abbrev pub state : Config → List Event → State
state c es = with_history (scene_after c es) (history_of c es)

-- the live viewer with a number, if there is one
abbrev pub viewer_at : State → ℕ → Option KeptViewer
viewer_at s v = now.viewer_at (scene_of s) v

-- why an event is refused, by what a screen holds
abbrev pub refusal : State → Event → Option ScreenError
refusal s e = now.refusal (scene_of s) e

-- A screen stands for the events that it keeps: those that are left out changed nothing.
abbrev pub kept_is_enough : Type 0
kept_is_enough = (c : Config) (es : List Event) → state c (accepted c es) ≡ state c es

-- and keeps them all when they come again
abbrev pub kept_is_kept : Type 0
kept_is_kept = (c : Config) (es : List Event) → accepted c (accepted c es) ≡ accepted c es
