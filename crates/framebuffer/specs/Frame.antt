-- A picture with its size: what a framebuffer stands for, and a snapshot of a part of it.
use Rattle.std.specs.Prelude.{◌≡◌, ℕ, ◌*◌, ◌≤◌, List, length}
use Rattle.region.specs.Places.{longest_side}
use Rattle.framebuffer.specs.Picture.{blank}

-- the colours of its places, row by row
pub record Frame : Type 0 where
  pub width : ℕ
  pub height : ℕ
  pub colours : List ℕ

-- a picture that is 0 everywhere
abbrev pub blank_frame : ℕ → ℕ → Frame
blank_frame w h = record { width = w; height = h; colours = blank w h }

-- a picture of 1 to 8192 columns and rows has a colour for each of its places
pub record IsPicture (f : Frame) : Type 0 where
  pub some_columns : 1 ≤ f.width
  pub columns : f.width ≤ longest_side
  pub some_rows : 1 ≤ f.height
  pub rows : f.height ≤ longest_side
  pub places : length f.colours ≡ f.width * f.height

-- so has a part of a picture, which may have no places
pub record IsPart (f : Frame) : Type 0 where
  pub columns : f.width ≤ longest_side
  pub rows : f.height ≤ longest_side
  pub places : length f.colours ≡ f.width * f.height
