-- One viewer's connection and the screen, in the course of a turn.
use Rattle.std.specs.Prelude.{◌≡◌, ℕ, Bool, true, false, List, ◌++◌, ◌≤◌, length, None, Result}
use Rattle.std.specs.List.{list_all}
use Rattle.screen.specs.declared.Config.{Config}
use Rattle.screen.specs.declared.Event.{Event}
use Rattle.screen.specs.declared.Input.{Input}
use Rattle.screen.specs.Alone.{owner_of}
use Rattle.screen.specs.Answers.{is_owner, viewer_of}
use Rattle.screen.specs.State.{state}
use Rattle.connections.specs.Drawing.{Surface}
use Rattle.connection.specs.Known.{Known}
use Rattle.connections.specs.Attending.{asks, IsSettled}
use Rattle.connections.specs.Counting.{counts_of}
use Rattle.connections.specs.Recorded.{RecordsMore}
use Rattle.receipts.specs.Histories.{bytes_of, heard_of}
use Rattle.connections.specs.Telling.{Word, Told, says, said_by, held_of, words_after, IsTold}
use Rattle.connection.specs.Waiting.{waiting_bytes, IsFew}
use Rattle.connection.specs.Connection.{Carried, ViewerConnection, Moves}
use Rattle.connections.specs.Serving.{IsServed}

-- each event of a list is a drawing call, or this viewer's own
abbrev pub are_of : ℕ → List Event → Bool
are_of v es = list_all (λ e. is_owner v (owner_of e)) es

-- what is known of a viewer by what is known of its connection, after its turn; another one that was settled since some moment is so still
pub record Knows (c : Config) (before list : List Event) (v : ℕ) (since surface : Surface) (known : Known) : Type 0 where
  pub answered : known.may_ask ≡ false → asks (viewer_of c v list) ≡ false
  pub settled : known.may_cut ≡ false → IsSettled c list surface v
  pub others : (u : ℕ) → (v ≡ u → ⊥) → IsSettled c before since u → IsSettled c list surface u

-- since a list of events, nothing happened but drawing calls and events of this viewer, which say these words; it is served, or was until it ended
pub record IsTurnFrom (c : Config) (list : List Event) (began : Carried) (v : ℕ) (said : List Word) (since surface : Surface) (e : ViewerConnection) : Type 0 where
  pub events : List Event
  pub words : words_after c list events ≡ said
  pub own : are_of v events ≡ true
  pub screen : surface.screen ≡ state c (list ++ events)
  pub recorded : RecordsMore c list events since.scribed surface.scribed
  pub number : e.number ≡ v
  pub served : IsServed c (list ++ events) began e
  pub knows : Knows c list (list ++ events) v since surface e.known

-- the same with a piece that was read and isn't heard yet
pub record HasRead (c : Config) (list : List Event) (began : Carried) (v : ℕ) (said : List Word) (piece : List ℕ) (since surface : Surface) (e : ViewerConnection) : Type 0 where
  pub events : List Event
  pub words : words_after c list events ≡ said
  pub own : are_of v events ≡ true
  pub screen : surface.screen ≡ state c (list ++ events)
  pub recorded : RecordsMore c list events since.scribed surface.scribed
  pub number : e.number ≡ v
  pub live : e.ended ≡ None
  pub written : List ℕ
  pub moved : Moves began e.carried (heard_of v (list ++ events) ++ piece) written
  pub due : written ++ waiting_bytes e.waiting ≡ bytes_of c v (list ++ events)
  pub few : IsFew e.waiting
  pub held : e.held ≡ held_of c v (list ++ events)
  pub counted : e.counts ≡ counts_of c v (list ++ events)
  pub short : length piece ≤ 128
  pub knows : Knows c list (list ++ events) v since surface e.known

-- a turn goes on, and nothing is said
abbrev pub TakesTurn : Surface → ViewerConnection → Surface → ViewerConnection → Type 0
TakesTurn surface e surface' e' = (c : Config) (list : List Event) (began : Carried) (v : ℕ) (said : List Word) (since : Surface) → IsTurnFrom c list began v said since surface e → IsTurnFrom c list began v said since surface' e'

-- a turn went on, and an application is told the inputs that came
abbrev pub IsTurnTelling : {A : Type 0} {X E : Type 0} → (A → List Told → Type 0) → Config → List Event → Carried → ℕ → List Word → Surface → Surface → ViewerConnection → A → A → Result X E → Type 0
IsTurnTelling stands c list began v said since surface e before after result = (inputs : List Input) × IsTurnFrom c list began v (said ++ says v inputs) since surface e × IsTold stands (said_by v inputs) before after result

-- a piece that was read is heard, and an application told what it says; or its viewer ended
abbrev pub HearsPiece : {A X E : Type 0} → (A → List Told → Type 0) → List ℕ → Surface → ViewerConnection → Surface → ViewerConnection → A → A → Result X E → Type 0
HearsPiece stands piece surface e surface' e' before after result =
    (c : Config) (list : List Event) (began : Carried) (v : ℕ) (said : List Word) (since : Surface) → HasRead c list began v said piece since surface e → IsTurnTelling stands c list began v said since surface' e' before after result

-- a turn goes on, and an application is told the inputs that came
abbrev pub TakesTurnTelling : {A X E : Type 0} → (A → List Told → Type 0) → Surface → ViewerConnection → Surface → ViewerConnection → A → A → Result X E → Type 0
TakesTurnTelling stands surface e surface' e' before after result =
    (c : Config) (list : List Event) (began : Carried) (v : ℕ) (said : List Word) (since : Surface) → IsTurnFrom c list began v said since surface e → IsTurnTelling stands c list began v said since surface' e' before after result
