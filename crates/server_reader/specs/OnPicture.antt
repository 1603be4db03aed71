-- What lies on the picture.
use Rattle.std.specs.Prelude.{◌≡◌, Bool, true, false, ◌+◌, ◌*◌, ◌≤◌, List, ℕ, length}
use Rattle.pixel_translate.specs.declared.Area.{Area}
use Rattle.server_reader.specs.declared.step.Step.{Step}
use Rattle.server_reader.specs.declared.step.Step.TheVariants as step
use Rattle.server_reader.specs.declared.stage.Size.{Size}
use Rattle.server_reader.specs.declared.stage.Behind.{Behind}
use Rattle.server_reader.specs.declared.stage.Behind.TheVariants as behind
use Rattle.server_reader.specs.declared.stage.Stage.{Stage}
use Rattle.server_reader.specs.declared.stage.Stage.TheVariants as stage
use Rattle.server_reader.specs.declared.stage.Turn.{Turn}

-- 7.6.1: no place of an area is beyond the picture
pub record IsOn (size : Size) (a : Area) : Type 0 where
  pub right : a.x + a.w ≤ size.width
  pub bottom : a.y + a.h ≤ size.height

-- the rectangle that is read on behind pixels
abbrev pub BehindIsOn : Size → Behind → Type 0
BehindIsOn size (behind.Rectangles n) = Unit {0}
BehindIsOn size (behind.Tile t) = IsOn size t.rectangle.area

-- the rectangle that is read
abbrev pub StageIsOn : Size → Stage → Type 0
StageIsOn size (stage.Pixels rows) = IsOn size rows.area × BehindIsOn size rows.behind
StageIsOn size (stage.Source r) = IsOn size r.area
StageIsOn size (stage.Rre r) = IsOn size r.area
StageIsOn size (stage.RreParts p) = IsOn size p.rectangle.area
StageIsOn size (stage.Tile t) = IsOn size t.rectangle.area
StageIsOn size (stage.TileParts p) = IsOn size p.tile.rectangle.area
StageIsOn size _ = Unit {0}

-- four bytes for each place of an area
pub record ArePixelsOn (size : Size) (a : Area) (bytes : List ℕ) : Type 0 where
  pub on : IsOn size a
  pub all : length bytes ≡ 4 * (a.w * a.h)

-- the places that a step shows, and those that it copies
abbrev pub StepIsOn : Size → Step → Type 0
StepIsOn size (step.Pixels a bytes) = ArePixelsOn size a bytes.now
StepIsOn size (step.Fill a pixel) = IsOn size a
StepIsOn size (step.Copy a from_x from_y) = IsOn size a × IsOn size (record a { x = from_x; y = from_y })
StepIsOn size _ = Unit {0}

-- 7.8.2: the picture's size behind a step
abbrev pub size_after : Step → Size → Size
size_after (step.Size width height) size = record { width = width; height = height }
size_after _ size = size

abbrev pub ends_update : Step → Bool
ends_update step.UpdateEnd = true
ends_update _ = false

-- A group's turn: what it is at and its step lie on the picture, and it ends no update.
pub record TurnIsOn (turn : Turn) : Type 0 where
  pub stage : StageIsOn turn.state.size turn.state.stage
  pub step : StepIsOn turn.state.size turn.step
  pub inner : ends_update turn.step ≡ false
