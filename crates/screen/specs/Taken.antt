-- A picture into which a program's own pixels are taken.
use Rattle.std.specs.Prelude.{ℕ, ◌+◌, ◌-◌, ◌*◌, if◌then◌else◌, min, List, [], ◌∷◌, take, drop, pos, ◌-ℤ◌, nat_abs}
use Rattle.region.specs.declared.Rect.{Rect}
use Rattle.region.specs.Region.{in_rect}
use Rattle.region.specs.Places.{by_place, longest_side}
use Rattle.framebuffer.specs.Frame.{Frame}
use Rattle.framebuffer.specs.Picture.{written, colour_at}
use Rattle.source_pixels.specs.declared.pieces.Piece.{Piece}
use Rattle.source_pixels.specs.Parts.{Part}
use Rattle.source_pixels.specs.Source.{Source}
use Rattle.source_pixels.specs.Source as source

abbrev pub rect_at : (left top columns rows : ℕ) → Rect
rect_at left top columns rows = record { x1 = pos left; y1 = pos top; x2 = pos (left + columns); y2 = pos (top + rows) }

-- the picture with a source's colours in the source's rectangle, from a place on; what lies off the picture is left out
abbrev pub taken : Source → ℕ → ℕ → Frame → Frame
taken s left top f = record f {
  colours = by_place f.width f.height (λ x y.
      if in_rect (rect_at left top s.width s.height) x y then source.colour_at s (nat_abs (x -ℤ pos left)) (nat_abs (y -ℤ pos top))
      else colour_at f.width f.height f.colours x y);
}

-- the part of a picture that lies beside a source whose corner is at a place of the picture; a picture has 8192 columns and rows at most
abbrev pub part_from : Frame → ℕ → ℕ → Part
part_from f left top = record {
  columns = min f.width longest_side - left;
  rows = min f.height longest_side - top;
  row = λ y. drop left (take f.width (drop ((top + y) * f.width) f.colours));
}

-- a rectangle of a source, on the picture
abbrev pub piece_rect : ℕ → ℕ → Piece → Rect
piece_rect left top q = rect_at (left + q.left) (top + q.top) q.columns q.rows

-- the picture once rectangles are painted, one after the other
abbrev pub painted : ℕ → ℕ → List Piece → Frame → Frame
painted left top [] f = f
painted left top (q ∷ qs) f = painted left top qs (record f { colours = written f.width f.height (piece_rect left top q) q.colours f.colours })

-- a place's colour
abbrev pub colour_on : Frame → (x y : ℕ) → ℕ
colour_on f x y = colour_at f.width f.height f.colours (pos x) (pos y)
