-- When a screen refuses an event, by what it holds.
use Rattle.std.specs.Prelude.{◌≡◌, MatchOption, IsOkUnless, ℕ, ◌==◌, List, Option, Some, None, Result, Err, option_map}
use Rattle.std.specs.Map.{lookup}
use Rattle.viewer.specs.Viewer.{KeptViewer, kept_viewer}
use Rattle.scene.specs.declared.Config.{Config}
use Rattle.scene.specs.declared.ScreenError.{ScreenError}
use Rattle.scene.specs.declared.ScreenError.TheVariants as refusals
use Rattle.scene.specs.declared.Event.{Event}
use Rattle.scene.specs.declared.Event.TheVariants.{Connect, Hear, Cut, Close}
use Rattle.scene.specs.Alone.{at_size, drawing_refusal}
use Rattle.scene.specs.Answers.{SceneState, scene_after, viewer_of, answer_to}

-- the live viewer with a number, if there is one
abbrev pub viewer_at : SceneState → ℕ → Option KeptViewer
viewer_at s v = lookup (λ n. n == v) s.viewers

-- What is held of a viewer is what the machine with that viewer alone has of it.
abbrev pub held_as_alone : Type 0
held_as_alone = (c : Config) (es : List Event) (v : ℕ) → viewer_at (scene_after c es) v ≡ option_map kept_viewer (viewer_of c v es)

-- a viewer's own event is refused where it isn't there
abbrev pub absence : Option KeptViewer → Option ScreenError
absence None = Some refusals.NoViewer
absence (Some viewer) = None

-- and its connecting where it is
abbrev pub presence : Option KeptViewer → Option ScreenError
presence None = None
presence (Some viewer) = Some refusals.NumberInUse

abbrev pub refusal : SceneState → Event → Option ScreenError
refusal s (Connect v) = presence (viewer_at s v)
refusal s (Hear v piece) = absence (viewer_at s v)
refusal s (Cut v) = absence (viewer_at s v)
refusal s (Close v) = absence (viewer_at s v)
refusal s e = drawing_refusal (at_size s.picture s.config) e

-- a call answers the refusal that is due, and where none is, it is refused for memory alone
abbrev pub Refuses : {X : Type 0} → Result X ScreenError → Option ScreenError → Type 0
Refuses result due = MatchOption due (IsOkUnless result refusals.OutOfMemory) (λ e. result ≡ Err e)

-- An event is answered the refusal that is due by what is held.
abbrev pub refusals_are_due : Type 0
refusals_are_due = (c : Config) (es : List Event) (e : Event) → (answer_to c es e).refused ≡ refusal (scene_after c es) e
