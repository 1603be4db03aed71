-- Worked values, which compute.
use Rattle.std.specs.Prelude.{◌≡◌, ℕ, List, [], ◌∷◌, refl}
use Rattle.framebuffer.specs.Frame.{Frame}
use Rattle.source_pixels.specs.declared.pieces.Piece.{Piece}
use Rattle.source_pixels.specs.declared.formats.SourceFormat.TheVariants as kind
use Rattle.source_pixels.specs.Source.{Source}
use Rattle.source_pixels.specs.Examples.{bgr233}
use Rattle.source_pixels.specs.Differences.{place_count, block_colours}
use Rattle.screen.specs.Taken.{taken, part_from, painted}

-- red and green above blue and black, in a byte each
abbrev pub square : Source
square = record { width = 2; height = 2; stride = 2; bytes = 0x07 ∷ 0x38 ∷ 0xc0 ∷ 0x00 ∷ []; format = kind.TrueColour bgr233 }

-- three columns and two rows
abbrev pub small : List ℕ → Frame
small colours = record { width = 3; height = 2; colours = colours }

taken_in : taken square 1 0 (small (1 ∷ 2 ∷ 3 ∷ 4 ∷ 5 ∷ 6 ∷ [])) ≡ small (1 ∷ 0xff0000 ∷ 0x00ff00 ∷ 4 ∷ 0x0000ff ∷ 0 ∷ [])
taken_in = refl

-- the rest lies off the picture
taken_in_corner : taken square 2 1 (small (1 ∷ 2 ∷ 3 ∷ 4 ∷ 5 ∷ 6 ∷ [])) ≡ small (1 ∷ 2 ∷ 3 ∷ 4 ∷ 5 ∷ 0xff0000 ∷ [])
taken_in_corner = refl

counted : place_count square (part_from (small (1 ∷ 0xff0000 ∷ 3 ∷ 4 ∷ 5 ∷ 6 ∷ [])) 1 0) ≡ 3
counted = refl

none_counted : place_count square (part_from (small (1 ∷ 2 ∷ 3 ∷ 4 ∷ 5 ∷ 6 ∷ [])) 3 0) ≡ 0
none_counted = refl

-- the left column as a piece
abbrev pub left_column : Piece
left_column = record { left = 0; top = 0; columns = 1; rows = 2; colours = 0xff0000 ∷ 0x0000ff ∷ [] }

its_colours : block_colours square 0 0 1 2 ≡ left_column.colours
its_colours = refl

one_painted : painted 1 0 (left_column ∷ []) (small (1 ∷ 2 ∷ 3 ∷ 4 ∷ 5 ∷ 6 ∷ [])) ≡ small (1 ∷ 0xff0000 ∷ 3 ∷ 4 ∷ 0x0000ff ∷ 6 ∷ [])
one_painted = refl
