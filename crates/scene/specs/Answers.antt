-- The screen with any number of viewers: each is answered as if it were alone. What one that is alone is sent is that of RFC 6143, 7.1
-- to 7.8 (`Alone.antt`).
use Rattle.std.specs.Prelude.{ℕ, Bool, true, false, not, ◌==◌, if◌then◌else◌, List, [], ◌∷◌, ◌++◌, filter, Option, Some, None, option_map}
use Rattle.std.specs.List.{filter_map, list_any}
use Rattle.messages.specs.Reading.{Rest}
use Rattle.scene.specs.declared.Config.{Config}
use Rattle.scene.specs.declared.ScreenError.{ScreenError}
use Rattle.scene.specs.declared.Event.{Event}
use Rattle.scene.specs.declared.Event.TheVariants.{Connect, Close}
use Rattle.scene.specs.declared.Answer.{Answer}
use Rattle.viewer.specs.Viewer.{Viewer, kept_viewer}
use Rattle.framebuffer.specs.Frame.{Frame}
use Rattle.scene.specs.Alone.{owner_of, at_size, drawing_refusal, nothing_to_say, refuses, empty_screen, after, alone}

abbrev pub is_owner : ℕ → Option ℕ → Bool
is_owner v None = true
is_owner v (Some n) = n == v

-- the list without the events of other viewers
abbrev pub own : ℕ → List Event → List Event
own v es = filter (λ e. is_owner v (owner_of e)) es

-- whether an event is a drawing call
abbrev pub is_drawing : Option ℕ → Bool
is_drawing None = true
is_drawing (Some v) = false

-- the framebuffer (RFC 6143, 3): only drawing calls change it
abbrev pub picture_of : Config → List Event → Frame
picture_of c es = (after c (filter (λ e. is_drawing (owner_of e)) es) (empty_screen c)).picture

abbrev pub last_of : List Answer → Answer
last_of [] = nothing_to_say
last_of (a ∷ []) = a
last_of (a ∷ b ∷ rest) = last_of (b ∷ rest)

abbrev pub refused_or_nothing : Option ScreenError → Answer
refused_or_nothing None = nothing_to_say
refused_or_nothing (Some refusal) = refuses refusal

abbrev answer_by : Config → List Event → Event → Option ℕ → Answer
answer_by c before e None = refused_or_nothing (drawing_refusal (at_size (picture_of c before) c) e)
answer_by c before e (Some v) = last_of (alone c (own v (before ++ e ∷ [])))

-- the answer to an event that comes after others
abbrev pub answer_to : Config → List Event → Event → Answer
answer_to c before e = answer_by c before e (owner_of e)

abbrev pub answers_after : Config → List Event → List Event → List Answer
answers_after c before [] = []
answers_after c before (e ∷ es) = answer_to c before e ∷ answers_after c (before ++ e ∷ []) es

-- an answer to each event of a list
abbrev pub answers : Config → List Event → List Answer
answers c es = answers_after c [] es

-- What a screen holds after a list of events.

abbrev pub viewer_of : Config → ℕ → List Event → Option (Viewer (List ℕ))
viewer_of c v es = (after c (own v es) (empty_screen c)).viewer

-- the viewers that are there, in order of connecting
abbrev pub after_arrival : Event → List ℕ → List ℕ
after_arrival (Connect v) there = if list_any (λ n. n == v) there then there else there ++ v ∷ []
after_arrival (Close v) there = filter (λ n. not (n == v)) there
after_arrival _ there = there

abbrev pub live_from : List ℕ → List Event → List ℕ
live_from there [] = there
live_from there (e ∷ es) = live_from (after_arrival e there) es

-- the configuration is what the screen was made with; its size is the picture's
pub record SceneState : Type 0 where
  pub config : Config
  pub picture : Frame
  pub viewers : List (ℕ × Viewer Rest)

abbrev pub entry_of : ℕ → Option (Viewer (List ℕ)) → Option (ℕ × Viewer Rest)
entry_of v o = option_map (λ viewer. (v, kept_viewer viewer)) o

abbrev pub scene_after : Config → List Event → SceneState
scene_after c es = record {
  config = c;
  picture = picture_of c es;
  viewers = filter_map (λ v. entry_of v (viewer_of c v es)) (live_from [] es);
}
