-- What contracts see of a queue's ends.
use Rattle.std.specs.Prelude.{◌≡◌, ℕ, ◌==◌, nat_eq, List, [], ◌∷◌, ◌++◌, map, Some}
use Rattle.std.specs.List.{IsDistinct, filter}
use Rattle.atomic_table.specs.Seated.{TableId}
use Rattle.messages.specs.declared.Input.{Input}
use Rattle.held_inputs.specs.Held.{Held, nothing, after, owed}
use Rattle.input_queue.specs.declared.Told.{Told}
use Rattle.input_queue.specs.declared.rule.Note.{Note}
use Rattle.input_queue.specs.Rule.{Interleaves}

-- a queue: which it is, how many inputs it can hold, and how many seats it has made
pub record Hub : Type 0 where
  pub queue : TableId
  pub capacity : ℕ
  pub seats : ℕ

-- what threads share of it
pub record Ends : Type 0 where
  pub queue : TableId
  pub capacity : ℕ

-- what makes its seats, and how many it has made
pub record Making : Type 0 where
  pub queue : TableId
  pub seats : ℕ

-- the end that takes, and what it took
pub record Taking : Type 0 where
  pub queue : TableId
  pub taken : List Told

-- one viewer's end, the how-manieth of its queue's, and what was accepted at it
pub record Putting : Type 0 where
  pub queue : TableId
  pub number : ℕ
  pub viewer : ℕ
  pub accepted : List Told

-- of a list, what came from a viewer
abbrev pub of_viewer : ℕ → List Told → List Told
of_viewer v list = filter (λ t. t.viewer == v) list

-- no two seats have one viewer
abbrev pub ViewersApart : List Putting → Type 0
ViewersApart seats = IsDistinct nat_eq (map (λ s. s.viewer) seats)

-- At one moment the queue held these: what was taken by then, followed by them, was an interleaving of what the seats had accepted, which was this list at the seat with this number.
abbrev pub QueuedBeside : ℕ → List Told → List Told → Type 0
QueuedBeside number accepted items = (taken : List Told) × (lists : ℕ → List Told) × (lists number ≡ accepted) × Interleaves lists (taken ++ items)

-- At one moment the queue was empty: what was taken was an interleaving of what the seats had accepted.
abbrev pub AllTaken : List Told → Type 0
AllTaken taken = (lists : ℕ → List Told) × Interleaves lists taken

-- what the taker notes of a seat
abbrev pub note_of : Putting → Note
note_of s = record { number = s.number; accepted = s.accepted }

-- an input more is accepted at a seat
abbrev pub accepting : Input → Putting → Putting
accepting input seat = record seat { accepted = seat.accepted ++ record { viewer = seat.viewer; input = input } ∷ [] }

-- what is held behind inputs
abbrev pub held_behind : Held → List Told → Held
held_behind held [] = held
held_behind held (t ∷ ts) = held_behind (after held t.input) ts

-- what is down for an application that was told these
abbrev pub held_by : List Told → Held
held_by ts = held_behind nothing ts

-- What an application was not told of what is held was put, one after the other: each is what was owed then.
abbrev pub Settles : Held → List Input → Putting → Putting → Type 0
Settles held [] before now = now ≡ before
Settles held (input ∷ inputs) before now = (owed (held_by before.accepted) held ≡ Some input) × Settles held inputs (accepting input before) now
