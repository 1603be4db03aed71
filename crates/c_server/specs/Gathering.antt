-- What is kept of what comes in a turn.
use Rattle.std.specs.Prelude.{◌≡◌, ◌⊎◌, ℕ, ◌+◌, ◌-◌, ◌^◌, ◌<◌, ◌≤◌, min, List, [], ◌∷◌, ◌++◌, length, take, Result, Ok}
use Rattle.std.specs.VecDeque.{deque_capacity}
use Rattle.screen.specs.declared.Input.{Input}
use Rattle.connections.specs.Telling.{Told, inputs_told}
use Rattle.c_server.specs.declared.visits.Visit.{Visit}
use Rattle.c_server.specs.declared.gathering.Gathering.{Gathering}
use Rattle.event_loop.specs.declared.event_loop.LoopError.{LoopError}
use Rattle.event_loop.specs.declared.viewers.Admission.{Admission}
use Rattle.event_loop.specs.declared.viewers.Admission.TheVariants.{Viewer}
use Rattle.c_server.specs.Visits.{AreVisits, coming_of}
use Rattle.c_server.specs.Desk.{IsPartOf, text_size}

-- an input is put behind others, and takes from the room for texts; or it is lost, and counted
abbrev pub IsPutOrLost : ℕ × Input → (old new : List (ℕ × Input)) → (room_old room_new lost_old lost_new : ℕ) → Type 0
IsPutOrLost input old new room_old room_new lost_old lost_new =
    ((new ≡ old ++ input ∷ []) × (room_new + text_size input.1 ≡ room_old) × (lost_new ≡ lost_old))
    ⊎ ((new ≡ old) × (room_new ≡ room_old) × (lost_new ≡ min (lost_old + 1) (2 ^ 64 - 1)))

-- a coming or going is put behind others where fewer than 1,024 are there; else it is lost, and counted
pub record IsPut (visit : Visit) (old new : List Visit) (lost_old lost_new : ℕ) : Type 0 where
  pub put : length old < 1024 → (new ≡ old ++ visit ∷ []) × (lost_new ≡ lost_old)
  pub lost : 1024 ≤ length old → (new ≡ old) × (lost_new ≡ min (lost_old + 1) (2 ^ 64 - 1))

-- the coming of a viewer whose connection was taken in is put, or counted as lost; nothing else is
abbrev pub PutsComing : Result Admission LoopError → (old new : List Visit) → (lost_old lost_new : ℕ) → Type 0
PutsComing (Ok (Viewer v)) old new lost_old lost_new = IsPut (coming_of v) old new lost_old lost_new
PutsComing answer old new lost_old lost_new = (new ≡ old) × (lost_new ≡ lost_old)

-- Of the inputs that came some are kept, in order, and of those who came and went the first 1,024, for whom there is room. All else is counted as lost, and no more, as far as that is counted.
pub record IsKept (came kept : List (ℕ × Input)) (visits : List Visit) (room lost : ℕ) : Type 0 where
  pub part : IsPartOf kept came
  pub all : List Visit
  pub are : AreVisits all
  pub first : visits ≡ take 1024 all
  pub room_is : 1024 ≤ room
  pub counted : lost < 2 ^ 64 - 1 → lost + length kept ≡ length came + (length all - 1024)

-- that is what is kept of the inputs that were told
abbrev pub IsKeptBy : Gathering → List Told → Type 0
IsKeptBy gathering told = IsKept (inputs_told told) gathering.inputs.items gathering.visits.items (deque_capacity gathering.visits) gathering.lost
