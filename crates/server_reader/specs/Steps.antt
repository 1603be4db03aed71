-- What steps do, and what they are steps of.
use Rattle.std.specs.Prelude.{◌≡◌, ℕ, ◌+◌, ◌*◌, ◌≤◌, ◌<◌, ◌==◌, Bool, true, false, ◌&&◌, not, if◌then◌else◌, List, [], ◌++◌, length, slice_index, None, Some, Result, MatchResult}
use Rattle.pixel_translate.specs.Pixel.{server_format}
use Rattle.encode_raw.specs.Reading.{Shown, Patch, patched, shown_after_copy}
use Rattle.viewer_picture.specs.Messages.{Display, ColourMap, nothing_shown}
use Rattle.server_reader.specs.declared.fault.ReadFault.{ReadFault}
use Rattle.server_reader.specs.declared.step.Step.{Step}
use Rattle.server_reader.specs.declared.step.Step.TheVariants as step
use Rattle.server_reader.specs.declared.step.Next.{Next}
use Rattle.server_reader.specs.declared.stage.Size.{Size}
use Rattle.server_reader.specs.declared.stage.Stage.{Stage}
use Rattle.server_reader.specs.declared.stage.Stage.TheVariants as stage
use Rattle.server_reader.specs.declared.stage.State.{State}
use Rattle.server_reader.specs.declared.stage.Turn.{Turn}
use Rattle.server_reader.specs.Groups.{needed, pixel_in}
use Rattle.server_reader.specs.OnPicture.{StageIsOn}
use Rattle.server_reader.specs.Heard.{Hears}
use Rattle.server_reader.specs.Stages.{filled, rest_of, Point, reads, Same}

-- 7.7.1: pixels of four bytes, in rows of a width
abbrev pub rows_in : (width : ℕ) → List ℕ → Patch
rows_in w bytes x y = pixel_in bytes (4 * (y * w + x))

-- what is shown behind a step
abbrev pub shown_after : Step → Shown → Shown
shown_after (step.Pixels a bytes) shown = patched server_format a (rows_in a.w bytes.now) shown
shown_after (step.Fill a pixel) shown = filled a pixel shown
shown_after (step.Copy a x y) shown = shown_after_copy a x y shown
shown_after (step.Size width height) shown = nothing_shown
shown_after _ shown = shown

-- 7.6.2: the colour map behind a step
abbrev pub colours_after : Step → ColourMap → ColourMap
colours_after (step.MapEntry entry red green blue) colours = λ other. if other == entry then Some (red, green, blue) else colours other
colours_after _ colours = colours

-- ---- groups

abbrev pub state_at : Size → Stage → State
state_at size at = record { size = size; text = 0; stage = at }

-- whatever is shown, and whatever follows: behind a group the same is read as from it on
abbrev pub IsTurn : State → (group : List ℕ) → Turn → Type 0
IsTurn before group turn = (shown : Shown) (colours : ColourMap) (later : List ℕ) (n : ℕ) → length (group ++ later) ≤ n
    → Same n (record { state = before; shown = shown; colours = colours; bytes = group ++ later })
    (record { state = turn.state; shown = shown_after turn.step shown; colours = colours_after turn.step colours; bytes = later })

-- whatever is shown, and whatever follows: a group has no reading
abbrev pub IsRefused : State → (group : List ℕ) → Type 0
IsRefused before group = (shown : Shown) (colours : ColourMap) (later : List ℕ) (n : ℕ)
    → reads n (record { state = before; shown = shown; colours = colours; bytes = group ++ later }) ≡ None

abbrev pub IsRead : State → (group : List ℕ) → Result Turn ReadFault → Type 0
IsRead before group read = MatchResult read (IsTurn before group) (λ _. IsRefused before group)

-- whatever is shown: a stage's rest is read as another's, behind what some bytes show
abbrev pub GoesOnAs : Stage → (front : List ℕ) → (Shown → Shown) → Stage → Type 0
GoesOnAs before front change after = (d : Display) (later : List ℕ)
    → rest_of before d (front ++ later) ≡ rest_of after (record d { shown = change d.shown }) later

-- ---- a reader

-- what a reader has: where it stands, and the bytes of a group that isn't whole
pub record View : Type 0 where
  pub state : State
  pub held : List ℕ

pub record IsView (v : View) : Type 0 where
  pub short : 0 < length v.held → length v.held < needed v.state.stage (slice_index v.held 0)
  pub text : 0 < v.state.text → v.held ≡ []
  pub on : StageIsOn v.state.size v.state.stage

-- 7.3.2: a reader behind the ServerInit of a picture of this size
abbrev pub opened : (width height : ℕ) → View
opened width height = record { state = state_at (record { width = width; height = height }) stage.Message; held = [] }

-- A reader, what its steps so far show, and the bytes that it is yet to be told.
pub record ReadingPoint : Type 0 where
  pub view : View
  pub shown : Shown
  pub colours : ColourMap
  pub left : List ℕ

-- where the reading stands, with further bytes behind
abbrev pub point : ReadingPoint → (later : List ℕ) → Point
point s later = record { state = s.view.state; shown = s.shown; colours = s.colours; bytes = s.view.held ++ (s.left ++ later) }

-- Both are points of one reading, whatever follows.
abbrev pub GoesOn : ReadingPoint → ReadingPoint → Type 0
GoesOn p q = (later : List ℕ) (n : ℕ) → length (p.view.held ++ (p.left ++ later)) ≤ n → Same n (point p later) (point q later)

-- no bytes behind give a reading
abbrev pub HasNoReading : ReadingPoint → Type 0
HasNoReading p = (later : List ℕ) (n : ℕ) → reads n (point p later) ≡ None

-- The front of a piece was read, which is a step, whatever is shown; the rest of the piece is left.
pub record IsStep (before : View) (piece : List ℕ) (next : Next) (after : View) : Type 0 where
  pub front : List ℕ
  pub is : piece ≡ front ++ next.rest.now
  pub heard : Hears before.state.text before.state.stage (before.held ++ front) front next.step
  pub goes : (shown : Shown) (colours : ColourMap)
      → GoesOn (record { view = before; shown = shown; colours = colours; left = front })
      (record { view = after; shown = shown_after next.step shown; colours = colours_after next.step colours; left = [] })

-- a piece was taken, and more is needed
abbrev pub IsKept : View → (piece : List ℕ) → View → Type 0
IsKept before piece after = (shown : Shown) (colours : ColourMap)
    → GoesOn (record { view = before; shown = shown; colours = colours; left = piece }) (record { view = after; shown = shown; colours = colours; left = [] })

-- a piece that no message goes on with
abbrev pub IsNoMessage : View → (piece : List ℕ) → Type 0
IsNoMessage before piece = (shown : Shown) (colours : ColourMap) → HasNoReading (record { view = before; shown = shown; colours = colours; left = piece })

-- an update's end is a step without bytes
abbrev pub is_update_end : Stage → Bool
is_update_end stage.UpdateEnd = true
is_update_end _ = false

-- nothing is done before further bytes come
abbrev pub awaits_bytes : View → Bool
awaits_bytes v = not (v.state.text == 0 && is_update_end v.state.stage)

-- how much is left to do of a piece
abbrev pub work_left : View → (piece : List ℕ) → ℕ
work_left v piece = 2 * length piece + (if is_update_end v.state.stage then 1 else 0)

-- no part of a message came
abbrev pub is_message : Stage → Bool
is_message stage.Message = true
is_message _ = false

abbrev pub is_between : View → Bool
is_between v = (length v.held == 0) && (v.state.text == 0) && is_message v.state.stage

abbrev pub is_faulted : Stage → Bool
is_faulted (stage.Faulted fault) = true
is_faulted _ = false
