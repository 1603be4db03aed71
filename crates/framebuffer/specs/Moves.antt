-- Moves of a picture's colours, row by row.
use Rattle.std.specs.Prelude.{ℕ, ◌+◌, ◌-◌, ◌*◌, Bool, ◌&&◌, nat_le, nat_lt, if◌then◌else◌, List, ◌++◌, take, drop, get_or, ℤ, pos, ◌-ℤ◌, int_le, int_lt}
use Rattle.region.specs.declared.Rect.{Rect}
use Rattle.region.specs.Region.{covers}
use Rattle.framebuffer.specs.Picture.{colour_at}

-- whether a number is one of those from a to below b
abbrev pub between : ℤ → ℤ → ℤ → Bool
between a x b = int_le a x && int_lt x b

-- the colour of column x of row y of a picture once the rectangles' places in some rows have the colours of the places before them
abbrev pub colour_moved : (width height : ℕ) → List Rect → ℤ × ℤ → (ℕ → Bool) → (picture : List ℕ) → (row column : ℕ) → ℕ
colour_moved w h pieces by is_done picture y x =
    if is_done y && covers pieces (pos x) (pos y) then colour_at w h picture (pos x -ℤ by.0) (pos y -ℤ by.1) else get_or picture (y * w + x) 0

-- whether row y is among the first n rows: from the bottom where the colours move down, else from the top
abbrev pub is_among : (down : Bool) → (height count row : ℕ) → Bool
is_among down h n y = if down then nat_le (h - n) y else nat_lt y n

-- the row that comes after the first n
abbrev pub row_number : (down : Bool) → (height count : ℕ) → ℕ
row_number down h n = if down then h - 1 - n else n

-- of the colours in rows of w places, those of so many rows from one on are replaced by those of as many from another on
abbrev pub rows_copied : (width from to count : ℕ) → (picture : List ℕ) → List ℕ
rows_copied w from to count picture = take (to * w) picture ++ (take (count * w) (drop (from * w) picture) ++ drop (count * w) (drop (to * w) picture))
