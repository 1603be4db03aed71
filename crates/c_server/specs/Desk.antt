-- What a server's desk holds.
use Rattle.std.specs.Prelude.{◌≡◌, ◌⊎◌, ℕ, suc, ◌+◌, ◌-◌, ◌^◌, nat_lt, nat_le, ◌&&◌, ℤ, Bool, true, false, if◌then◌else◌, List, [], ◌∷◌, ◌++◌, length, take, Option, Some, None, option_map, not}
use Rattle.std.specs.List.{list_any}
use Rattle.region.specs.declared.Rect.{Rect}
use Rattle.region.specs.RegionView.{in_range}
use Rattle.screen.specs.declared.Input.{Input}
use Rattle.screen.specs.declared.Input.TheVariants.{Text}
use Rattle.screen.specs.declared.Config.{Config}
use Rattle.screen.specs.declared.Event.{Event}
use Rattle.screen.specs.State.{State}
use Rattle.connections.specs.Serving.{Began, Serving, Serves}
use Rattle.event_loop.specs.Sockets.{sockets_and}
use Rattle.c_screen.specs.Codes.{shut}
use Rattle.c_screen.specs.Desk.{due_by, far_or_none}
use Rattle.c_server.specs.declared.visits.Visit.{Visit}

-- how many bytes of text an input has
abbrev pub text_size : Input → ℕ
text_size (Text text shortened) = length text
text_size _ = 0

-- whether it is a text
abbrev pub has_text : Input → Bool
has_text (Text text shortened) = true
has_text _ = false

abbrev pub texts_size : List (ℕ × Input) → ℕ
texts_size [] = 0
texts_size (i ∷ inputs) = text_size i.1 + texts_size inputs

-- of inputs those that are kept where there are so many places, and so many bytes for texts; how many others there are; and how many of these bytes are left
abbrev pub fitting : ℕ → ℕ → List (ℕ × Input) → List (ℕ × Input) × ℕ × ℕ
fitting places room [] = ([], 0, room)
fitting places room (i ∷ inputs) = if nat_lt 0 places && nat_le (text_size i.1) room
    then (let rest = fitting (places - 1) (room - text_size i.1) inputs in (i ∷ rest.0, rest.1, rest.2))
    else (let rest = fitting places room inputs in (rest.0, suc rest.1, rest.2))

-- how many bytes may wait in texts: 16 of the longest
abbrev pub texts_limit : ℕ
texts_limit = 2 ^ 22

-- the screen and its viewers' connections, unless the desk is shut; the port; how many viewers are granted at once; what came and wasn't fetched, the inputs with their viewers' numbers; the text that was fetched last; how much was lost; how many full requests were told; how many bytes more may wait in texts; the path of the file in which the next screen is recorded, empty for none; and whether this one is recorded
pub record Standing : Type 0 where
  pub served : Option Serving
  pub port : ℕ
  pub viewers : ℕ
  pub inputs : List (ℕ × Input)
  pub visits : List Visit
  pub text : List ℕ
  pub lost : ℕ
  pub full_requests : ℕ
  pub text_room : ℕ
  pub record_path : List ℕ
  pub recorded : Bool

-- how many copies, and how many rectangles of pixels, an update has at most
abbrev pub rects_per_update : ℕ
rects_per_update = 1000

abbrev pub nothing_there : Standing
nothing_there = record { served = None; port = 0; viewers = 0; inputs = []; visits = []; text = []; lost = 0; full_requests = 0; text_room = texts_limit; record_path = []; recorded = false }

-- a path names a file
abbrev pub is_named : List ℕ → Bool
is_named path = nat_lt 0 (length path)

-- what a record's file is known to hold before: nothing is; and None without a record
abbrev pub held_where : Bool → Option (Option (List ℕ))
held_where recorded = if recorded then Some None else None

-- what the sockets of a desk carried when it began to listen
abbrev pub desk_sockets : Bool → Config → Began
desk_sockets recorded c = sockets_and (held_where recorded) c

-- the screen stands for a list of events, and by that list each viewer is served, and the record is written, where there is one
abbrev pub IsServedBy : Bool → Config → List Event → Option Serving → Type 0
IsServedBy recorded c list None = ⊥
IsServedBy recorded c list (Some s) = Serves c (desk_sockets recorded c) list s

abbrev pub StandsFor : Config → List Event → Standing → Type 0
StandsFor c list desk = IsServedBy desk.recorded c list desk.served

abbrev pub screen_of : Standing → Option State
screen_of desk = option_map (λ s. s.surface.screen) desk.served

-- the screen is as it was, and so is what each viewer is served
pub record IsAsBefore (old new : Standing) : Type 0 where
  pub screen : screen_of new ≡ screen_of old
  pub served : (c : Config) (list : List Event) → StandsFor c list old → StandsFor c list new
  pub same : new ≡ record old { served = new.served }

-- why an event is refused: the desk is shut, or its screen refuses it
abbrev pub due : Standing → Event → Option ℤ
due desk e = due_by (screen_of desk) e

-- why a call for the places of rectangles is refused: the desk is shut, or a coordinate is beyond 2^20
abbrev pub region_due : Standing → List Rect → Option ℤ
region_due desk rects = elim desk.served [ None ↦ Some shut | Some s ↦ far_or_none (list_any (λ r. not (in_range r)) rects) ]

-- some things of a list, in its order
abbrev pub IsPartOf : {X : Type 0} → List X → List X → Type 0
IsPartOf [] all = Unit {0}
IsPartOf (x ∷ xs) [] = ⊥
IsPartOf (x ∷ xs) (y ∷ ys) = ((x ≡ y) × IsPartOf xs ys) ⊎ IsPartOf (x ∷ xs) ys

-- what waits is what waited, and then what came, as far as so many may wait
abbrev pub IsPutBehind : {X : Type 0} → ℕ → List X → List X → Type 0
IsPutBehind {X} most old new = (came : List X) × (new ≡ old ++ take (most - length old) came)
