-- What a screen keeps true of itself.
use Rattle.std.specs.Prelude.{◌*◌, ◌^◌, ◌≤◌, List, length, All}
use Rattle.scene.specs.declared.Config.{Config}
use Rattle.scene.specs.Alone.{at_size}
use Rattle.framebuffer.specs.Frame.{Frame}
use Rattle.viewer.specs.Viewer.{KeptViewer}
use Rattle.viewer_list.specs.Viewers.{IsOfSize}
use Rattle.region.specs.Places.{longest_side}

-- a screen's configuration is within the limits
pub record IsAccepted (c : Config) : Type 0 where
  pub some_columns : 1 ≤ c.width
  pub columns : c.width ≤ longest_side
  pub some_rows : 1 ≤ c.height
  pub rows : c.height ≤ longest_side
  pub places : c.width * c.height ≤ 2 ^ 24
  pub name : length c.name ≤ 255
  pub some_rectangles : 1 ≤ c.rects_per_update
  pub rectangles : c.rects_per_update ≤ 1000

-- a viewer's marks are of a screen's size, one for each place
abbrev pub IsSized : Config → KeptViewer → Type 0
IsSized c v = IsOfSize c.width c.height v

-- a screen of the picture's size is within the limits, and each viewer has a mark for each of its places
pub record IsConsistent (c : Config) (picture : Frame) (viewers : List KeptViewer) : Type 0 where
  pub accepted : IsAccepted (at_size picture c)
  pub sized : All (IsSized (at_size picture c)) viewers
