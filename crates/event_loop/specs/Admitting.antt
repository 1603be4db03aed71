-- What becomes of a connection that came.
use Rattle.std.specs.Prelude.{◌≡◌, ℕ, ◌+◌, ◌-◌, ◌^◌, min, List, [], ◌++◌, Some}
use Rattle.screen.specs.declared.Config.{Config}
use Rattle.screen.specs.declared.Event.{Event}
use Rattle.connections.specs.Telling.{words_after}
use Rattle.connections.specs.Serving.{Began, Serving, Serves, number_at}
use Rattle.connection.specs.Connection.{Carried}
use Rattle.event_loop.specs.declared.viewers.Admission.{Admission}
use Rattle.event_loop.specs.declared.viewers.Admission.TheVariants.{Viewer, TurnedAway, Refused}

-- Whatever the connections stood for, they stand for it with more events behind it, in which no viewer says anything, and none leaves. A viewer that came with these began with what its transport carried.
abbrev pub GoesOnFrom : Carried → Serving → Serving → Type 0
GoesOnFrom came old new = (c : Config) (began : Began) (list : List Event) → Serves c began list old → began.carried old.next ≡ came → (more : List Event) × Serves c began (list ++ more) new × (words_after c list more ≡ [])

-- one more came
abbrev pub one_more : ℕ → ℕ
one_more came = min (came + 1) (2 ^ 64 - 1)

-- how many came, with this one
abbrev pub came_with : Admission → ℕ → ℕ
came_with (Viewer viewer) came = one_more came
came_with TurnedAway came = came
came_with Refused came = came

-- it is the viewer with the next number, or all is as it was
abbrev pub IsAdmittedOr : Serving → Serving → Admission → Type 0
IsAdmittedOr old new (Viewer viewer) = (viewer ≡ old.next) × ((key : ℕ) × (number_at new.slots key ≡ Some viewer))
IsAdmittedOr old new TurnedAway = new ≡ old
IsAdmittedOr old new Refused = new ≡ old
