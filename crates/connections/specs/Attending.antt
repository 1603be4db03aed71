-- What a viewer would be sent, by the events of the screen.
use Rattle.std.specs.Prelude.{◌≡◌, ℕ, Bool, false, not, ◌&&◌, ◌||◌, List, [], Option, Some, None}
use Rattle.screen.specs.declared.Config.{Config}
use Rattle.screen.specs.declared.Event.{Event}
use Rattle.screen.specs.declared.Event.TheVariants.{Cut}
use Rattle.screen.specs.Answers.{viewer_of, answer_to}
use Rattle.updates.specs.Waiting.{none_wait}
use Rattle.viewer.specs.Viewer.{Viewer, is_asking, is_open_viewer}
use Rattle.connections.specs.Drawing.{Surface}

-- whether a viewer has a request that is unanswered; no viewer has none
abbrev pub asks : Option (Viewer (List ℕ)) → Bool
asks None = false
asks (Some viewer) = is_asking viewer

-- whether something waits for an open viewer that needs no request: the colour map, or a notice (RFC 6143, 7.6.2 to 7.6.4)
abbrev pub is_owed : Option (Viewer (List ℕ)) → Bool
is_owed None = false
is_owed (Some viewer) = is_open_viewer viewer && (viewer.map_owed || not (none_wait viewer.notices))

-- what a viewer would be sent
abbrev pub next_bytes : Config → ℕ → List Event → List ℕ
next_bytes c v list = (answer_to c list (Cut v)).bytes

-- There is nothing to send to a viewer, but for what was drawn since the viewers were looked at. Where no bell or text is among that, nothing waits that needs no request.
pub record IsSettled (c : Config) (list : List Event) (surface : Surface) (v : ℕ) : Type 0 where
  pub sent : surface.drawn ≡ false → next_bytes c v list ≡ []
  pub quiet : surface.noticed ≡ false → is_owed (viewer_of c v list) ≡ false
