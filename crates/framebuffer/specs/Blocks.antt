-- Blocks of a picture, by their corner and size.
use Rattle.std.specs.Prelude.{ℕ, ◌+◌, ◌-◌, ◌*◌, ◌/◌, ◌%◌, ◌^◌, ◌≤◌, Bool, ◌&&◌, nat_le, nat_lt, if◌then◌else◌, List, map, slice_index, pos}
use Rattle.std.specs.List.{range_with_len}
use Rattle.region.specs.declared.Rect.{Rect}
use Rattle.framebuffer.specs.declared.blocks.Block.{Block}

abbrev pub block_rect : Block → Rect
block_rect b = record { x1 = pos b.left; y1 = pos b.top; x2 = pos (b.left + b.columns); y2 = pos (b.top + b.rows) }

abbrev pub is_in_block : Block → ℕ → ℕ → Bool
is_in_block b y x = nat_le b.left x && nat_lt x (b.left + b.columns) && nat_le b.top y && nat_lt y (b.top + b.rows)

-- the colour of the place in column x of row y once a block's colours are replaced, in rows of w places
abbrev pub colour_written : (width : ℕ) → Block → (colours picture : List ℕ) → (row column : ℕ) → ℕ
colour_written w b colours picture y x =
    if is_in_block b y x then slice_index colours ((y - b.top) * b.columns + (x - b.left)) % 2 ^ 24 else slice_index picture (y * w + x)

-- a block's colours, row by row
abbrev pub block_colours : ℕ → Block → List ℕ → List ℕ
block_colours w b picture = map (λ k. slice_index picture ((b.top + k / b.columns) * w + (b.left + k % b.columns))) (range_with_len 0 (b.rows * b.columns))

-- a block with places, all of them on a w by h screen
pub record FitsIn (w h : ℕ) (b : Block) : Type 0 where
  pub some_columns : 1 ≤ b.columns
  pub some_rows : 1 ≤ b.rows
  pub wide : b.left + b.columns ≤ w
  pub high : b.top + b.rows ≤ h
