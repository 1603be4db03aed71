-- What a desk holds, and what its calls do.
use Rattle.std.specs.Prelude.{◌≡◌, ℕ, suc, ℤ, Bool, ◌==◌, if◌then◌else◌, List, [], ◌∷◌, ◌++◌, flat_map, filter, Option, Some, None, option_map, not, ◌||◌}
use Rattle.std.specs.List.{list_any}
use Rattle.region.specs.declared.Rect.{Rect}
use Rattle.region.specs.Region.{covers, IsCanonical}
use Rattle.region.specs.RegionView.{in_range}
use Rattle.c_screen.specs.declared.corners.Corners.{Corners}
use Rattle.screen.specs.declared.Input.{Input}
use Rattle.screen.specs.declared.Config.{Config}
use Rattle.screen.specs.declared.History.TheVariants.{NotKept}
use Rattle.screen.specs.declared.Event.{Event}
use Rattle.screen.specs.declared.Event.TheVariants.{Cut}
use Rattle.screen.specs.Alone.{some_bytes}
use Rattle.screen.specs.State.{State, state, refusal, viewer_at}
use Rattle.c_screen.specs.Codes.{code_of, no_viewer, out_of_range, output_waits, shut}

-- the screen, unless the desk is shut; pieces of output that wait, each with its viewer's number; what viewers told and wasn't fetched, with their numbers; and the text that was fetched last
pub record Standing : Type 0 where
  pub screen : Option State
  pub output : List (ℕ × List ℕ)
  pub inputs : List (ℕ × Input)
  pub text : List ℕ

abbrev pub nothing_there : Standing
nothing_there = record { screen = None; output = []; inputs = []; text = [] }

-- the screen stands for a list of events
abbrev pub StandsFor : Config → List Event → Standing → Type 0
StandsFor c list desk = desk.screen ≡ Some (state c list)

-- what waits for a viewer
abbrev pub output_of : ℕ → List (ℕ × List ℕ) → List ℕ
output_of v output = flat_map (λ piece. if piece.0 == v then piece.1 else []) output

-- whether a piece waits for a viewer
abbrev pub has_output : ℕ → List (ℕ × List ℕ) → Bool
has_output v output = list_any (λ piece. piece.0 == v) output

-- why an event is refused: the desk is shut, or its screen refuses it
abbrev pub due_by : Option State → Event → Option ℤ
due_by None e = Some shut
due_by (Some screen) e = option_map code_of (refusal screen e)

abbrev pub due : Standing → Event → Option ℤ
due desk e = due_by desk.screen e

-- why a call for a viewer is refused: the desk is shut, or the viewer isn't there
abbrev pub absence : Option State → ℕ → Option ℤ
absence None v = Some shut
absence (Some screen) v = elim (viewer_at screen v) [ None ↦ Some no_viewer | Some viewer ↦ None ]

-- why no update is cut for a viewer: as its event is refused, or output waits for it
abbrev pub waits_or_none : Bool → Option ℤ
waits_or_none waits = if waits then Some output_waits else None

abbrev pub cut_due : Standing → ℕ → Option ℤ
cut_due desk v = elim (due desk (Cut v)) [ None ↦ waits_or_none (has_output v desk.output) | Some refusal ↦ Some refusal ]

-- what an update holds: what is left of its output, if there is some
abbrev pub held_in : Option (ℕ × List ℕ) → List ℕ
held_in None = []
held_in (Some piece) = piece.1

-- why no update is cut for a viewer into one that holds bytes: as its event is refused, or output waits for it, or the one isn't fetched whole
abbrev pub cut_into_due : Standing → ℕ → List ℕ → Option ℤ
cut_into_due desk v held = elim (due desk (Cut v)) [ None ↦ waits_or_none (has_output v desk.output || some_bytes held) | Some refusal ↦ Some refusal ]

-- output with bytes for a viewer behind it, unless there are none
abbrev pub put_output : ℕ → List ℕ → List (ℕ × List ℕ) → List (ℕ × List ℕ)
put_output v [] output = output
put_output v (b ∷ bytes) output = output ++ (v, b ∷ bytes) ∷ []

-- where the first piece for a viewer stands
abbrev pub first_index : ℕ → List (ℕ × List ℕ) → ℕ
first_index v [] = 0
first_index v (piece ∷ output) = if piece.0 == v then 0 else suc (first_index v output)

-- the first piece for a viewer
abbrev pub next_piece : ℕ → List (ℕ × List ℕ) → List ℕ
next_piece v [] = []
next_piece v (piece ∷ output) = if piece.0 == v then piece.1 else next_piece v output

-- the same output, of whose first piece for a viewer these bytes are left
abbrev pub left_first : ℕ → List ℕ → List (ℕ × List ℕ) → List (ℕ × List ℕ)
left_first v [] output = output
left_first v (b ∷ bytes) output = (v, b ∷ bytes) ∷ output

abbrev pub left_of : ℕ → List ℕ → List (ℕ × List ℕ) → List (ℕ × List ℕ)
left_of v left [] = []
left_of v left (piece ∷ output) = if piece.0 == v then left_first v left output else piece ∷ left_of v left output

-- output but a viewer's
abbrev pub without : ℕ → List (ℕ × List ℕ) → List (ℕ × List ℕ)
without v output = filter (λ piece. not (piece.0 == v)) output

abbrev pub rect_of : Corners → Rect
rect_of c = record { x1 = c.x1; y1 = c.y1; x2 = c.x2; y2 = c.y2 }

-- a list of rectangles is the canonical list of the places of another
pub record IsListOf (rects list : List Rect) : Type 0 where
  pub canonical : IsCanonical list
  pub places : (x y : ℤ) → covers list x y ≡ covers rects x y

-- why a call for the places of rectangles is refused: the desk is shut, or a coordinate is beyond 2^20
abbrev pub far_or_none : Bool → Option ℤ
far_or_none far = if far then Some out_of_range else None

abbrev pub region_due : Standing → List Rect → Option ℤ
region_due desk rects = elim desk.screen [ None ↦ Some shut | Some screen ↦ far_or_none (list_any (λ r. not (in_range r)) rects) ]

-- a configuration of a screen that keeps no events
abbrev pub config_of : ℕ → ℕ → List ℕ → ℕ → Config
config_of width height name rects_per_update = record { width = width; height = height; name = name; rects_per_update = rects_per_update; history = NotKept }
