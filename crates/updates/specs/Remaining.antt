-- What is left of rectangles while they are encoded part by part.
use Rattle.std.specs.Prelude.{ℕ, ◌+◌, ◌*◌, ◌<◌, List, [], ◌∷◌, ◌++◌, length, drop, map, flat_map, Option, None, Some}
use Rattle.pixel_translate.specs.declared.PixelFormat.{PixelFormat}
use Rattle.pixel_translate.specs.Pixel.{pixel, colour_bytes}
use Rattle.messages.specs.declared.Encoding.{Encoding}
use Rattle.updates.specs.declared.parts.CopyRect.{CopyRect}
use Rattle.updates.specs.declared.parts.Coloured.{Coloured}
use Rattle.updates.specs.declared.parts.Rectangles.{Rectangles}
use Rattle.encode_hextile.specs.Pieces.{hextile_from}
use Rattle.updates.specs.declared.remaining.Begun.{Begun}
use Rattle.updates.specs.declared.remaining.Begun.TheVariants.{Colours, Tiles}
use Rattle.updates.specs.declared.remaining.Reached.{Reached}
use Rattle.updates.specs.declared.remaining.Reached.TheVariants.{Nothing, Before, Within}
use Rattle.updates.specs.Updates.{coloured_bytes, kept_bytes}

-- what is left of a rectangle: in Raw the pixels behind so many, in Hextile the rows of tiles behind so many, or nothing
abbrev pub rest_of : PixelFormat → Coloured → Option Begun → List ℕ
rest_of f c None = []
rest_of f c (Some (Colours done)) = flat_map (colour_bytes f) (drop done c.colours)
rest_of f c (Some (Tiles row carried)) = hextile_from f c.area.w c.area.h (map (pixel f) c.colours) carried row

-- something is left
abbrev pub IsBegun : Begun → Coloured → Type 0
IsBegun (Colours done) c = done < length c.colours
IsBegun (Tiles row carried) c = 16 * row < c.area.h

-- of the first of some rectangles some is encoded
abbrev pub rest_within : Encoding → PixelFormat → Begun → List Coloured → List ℕ
rest_within e f begun [] = []
rest_within e f begun (c ∷ cs) = rest_of f c (Some begun) ++ flat_map (coloured_bytes e f) cs

abbrev pub remaining_rectangles : Encoding → PixelFormat → List CopyRect → List Coloured → Reached → List ℕ
remaining_rectangles e f copy_rects rectangles Nothing = kept_bytes e f copy_rects rectangles
remaining_rectangles e f copy_rects rectangles (Before next) = flat_map (coloured_bytes e f) (drop next rectangles)
remaining_rectangles e f copy_rects rectangles (Within next begun) = rest_within e f begun (drop next rectangles)

abbrev pub left_of : Rectangles → Reached → List ℕ
left_of r reached = remaining_rectangles r.encoding r.format r.copy_rects.items r.coloured.items reached

-- there is a first rectangle, of which something is left
abbrev pub GoesOn : Begun → List Coloured → Type 0
GoesOn begun [] = ⊥
GoesOn begun (c ∷ cs) = IsBegun begun c

abbrev pub IsWithin : List Coloured → Reached → Type 0
IsWithin rectangles Nothing = Unit {0}
IsWithin rectangles (Before next) = Unit {0}
IsWithin rectangles (Within next begun) = GoesOn begun (drop next rectangles)

abbrev pub reached_after : ℕ → Option Begun → Reached
reached_after next None = Before (next + 1)
reached_after next (Some begun) = Within next begun
