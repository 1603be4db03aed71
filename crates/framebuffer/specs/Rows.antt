-- A picture's rows: some are held by the picture alone, others by snapshots too.
use Rattle.std.specs.Prelude.{◌≡◌, ℕ, ◌+◌, ◌%◌, ◌^◌, ◌<◌, ◌≤◌, Bool, true, false, List, ◌++◌, length, map, flat_map, take, drop, get_or, nat_abs, All}
use Rattle.std.specs.Arc.{arc_value}
use Rattle.std.specs.declared.sync.Arc.{Arc}
use Rattle.std.specs.declared.vec.Vec.{Vec}
use Rattle.std.specs.declared.alloc.Global.{Global}
use Rattle.region.specs.declared.Rect.{Rect}
use Rattle.region.specs.Places.{longest_side}
use Rattle.framebuffer.specs.declared.rows.Row.{Row}
use Rattle.framebuffer.specs.declared.rows.Row.TheVariants.{Own, Shared}
use Rattle.framebuffer.specs.Frame.{Frame}

abbrev pub shared_colours : Arc (Vec ℕ Global) Global → List ℕ
shared_colours places = (arc_value places).items

abbrev pub row_colours : Row → List ℕ
row_colours (Own places) = places.items
row_colours (Shared places) = shared_colours places

abbrev pub is_own : Row → Bool
is_own (Own places) = true
is_own (Shared places) = false

abbrev pub IsOfWidth : ℕ → Row → Type 0
IsOfWidth w row = length (row_colours row) ≡ w

-- the colours of the rows by place
abbrev pub colours_of_rows : List Row → List ℕ
colours_of_rows rows = flat_map row_colours rows

-- those of a row from a column on
abbrev pub row_part : ℕ → ℕ → Row → List ℕ
row_part left columns row = take columns (drop left (row_colours row))

abbrev pub parts_of_rows : ℕ → ℕ → List Row → List ℕ
parts_of_rows left columns rows = flat_map (row_part left columns) rows

-- a row's colours once those from a column on are replaced; their top bytes are cleared
abbrev pub row_written : ℕ → List ℕ → List ℕ → List ℕ
row_written left colours row = take left row ++ (map (λ c. c % 2 ^ 24) colours ++ drop (left + length colours) row)

-- the rows from one to below another are held by the picture alone
abbrev pub AreOwn : ℕ → ℕ → List Row → Type 0
AreOwn from to rows = (k : ℕ) (d : Row) → from ≤ k → k < to → is_own (get_or rows k d) ≡ true

-- so are the rows of each of the rectangles
abbrev pub AreOwnIn : List Rect → List Row → Type 0
AreOwnIn pieces rows = All (λ r. AreOwn (nat_abs r.y1) (nat_abs r.y2) rows) pieces

-- a row that was held by the picture alone is so still
abbrev pub StayOwn : List Row → List Row → Type 0
StayOwn old new = (k : ℕ) (d : Row) → is_own (get_or old k d) ≡ true → is_own (get_or new k d) ≡ true

-- a picture of 1 to 8192 columns and rows has as many rows as it is high, each as long as it is wide
pub record HasRows (w h : ℕ) (held : List Row) : Type 0 where
  pub some_columns : 1 ≤ w
  pub columns : w ≤ longest_side
  pub some_rows : 1 ≤ h
  pub rows : h ≤ longest_side
  pub count : length held ≡ h
  pub wide : All (IsOfWidth w) held

abbrev pub frame_of : ℕ → ℕ → List Row → Frame
frame_of w h rows = record { width = w; height = h; colours = colours_of_rows rows }

-- the rows of a snapshot have the columns that it is of
pub record HasParts (left width : ℕ) (held : List Row) : Type 0 where
  pub columns : width ≤ longest_side
  pub rows : length held ≤ longest_side
  pub wide : All (λ r. left + width ≤ length (row_colours r)) held

abbrev pub part_of : ℕ → ℕ → List Row → Frame
part_of left columns rows = record { width = columns; height = length rows; colours = parts_of_rows left columns rows }
