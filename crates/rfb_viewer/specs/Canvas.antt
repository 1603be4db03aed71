-- What the places of a screen show, row by row.
use Rattle.std.specs.Prelude.{◌≡◌, ℕ, ◌+◌, ◌-◌, ◌*◌, ◌/◌, ◌%◌, ◌^◌, ◌<◌, Bool, ◌&&◌, nat_le, nat_lt, if◌then◌else◌, List, map, length, replicate, slice_index_or, Option, None}
use Rattle.std.specs.List.{range_with_len}
use Rattle.pixel_translate.specs.declared.Area.{Area}
use Rattle.encode_raw.specs.Reading.{is_inside}
use Rattle.rfb_viewer.specs.declared.canvas.Dot.{Dot}
use Rattle.rfb_viewer.specs.declared.stages.Block.{Block}

-- what each place shows, with the screen's size
pub record Dots : Type 0 where
  pub columns : ℕ
  pub rows : ℕ
  pub dots : List (Option Dot)

pub record IsCanvas (d : Dots) : Type 0 where
  pub columns : d.columns < 2 ^ 16
  pub rows : d.rows < 2 ^ 16
  pub places : length d.dots ≡ d.rows * d.columns

-- a screen that shows nothing
abbrev pub blank : ℕ → ℕ → Dots
blank columns rows = record { columns = columns; rows = rows; dots = replicate (rows * columns) None }

-- what the place in column x of row y shows; nothing off the screen
abbrev pub dot_at : Dots → ℕ → ℕ → Option Dot
dot_at d x y = if nat_lt x d.columns && nat_lt y d.rows then slice_index_or d.dots (y * d.columns + x) None else None

-- the places of a block
abbrev pub area_of : Block → Area
area_of b = record { x = b.x; y = b.y; w = b.columns; h = b.rows }

-- what a place shows once a block shows a dot, or nothing
abbrev pub filled : Dots → Block → Option Dot → ℕ → ℕ → Option Dot
filled d b dot x y = if nat_lt x d.columns && nat_lt y d.rows && is_inside (area_of b) x y then dot else dot_at d x y

-- the same, of rows and columns from one up to another
abbrev pub is_between : ℕ × ℕ → ℕ → Bool
is_between range k = nat_le range.0 k && nat_lt k range.1

abbrev pub row_filled : ℕ → ℕ × ℕ → ℕ × ℕ → Option Dot → List (Option Dot) → ℕ → ℕ → Option Dot
row_filled columns across down dot dots y x = if is_between across x && is_between down y then dot else slice_index_or dots (y * columns + x) None

-- what a place shows once an area shows what the area of its size at another place shows
abbrev pub copied_dot : Dots → Area → (from : ℕ × ℕ) → (x y : ℕ) → Option Dot
copied_dot d a from x y = if is_inside a x y then dot_at d (x - a.x + from.0) (y - a.y + from.1) else dot_at d x y

abbrev pub copied_dots : Dots → Area → ℕ × ℕ → List (Option Dot)
copied_dots d a from = map (λ k. copied_dot d a from (k % d.columns) (k / d.columns)) (range_with_len 0 (d.rows * d.columns))
