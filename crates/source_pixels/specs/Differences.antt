-- What differs between a program's own pixels and the part of a picture beside them.
use Rattle.std.specs.Prelude.{◌≡◌, ℕ, zero, suc, ◌+◌, ◌-◌, ◌*◌, ◌/◌, ◌%◌, ◌<◌, ◌≤◌, min, Bool, false, ◌&&◌, nat_le, nat_lt, List, length, map, take, slice_index, sum, All, AllPairs}
use Rattle.std.specs.List.{range_with_len}
use Rattle.source_pixels.specs.declared.rows.RowDifference.{RowDifference}
use Rattle.source_pixels.specs.declared.pieces.Piece.{Piece}
use Rattle.source_pixels.specs.declared.pieces.Differences.{Differences}
use Rattle.source_pixels.specs.Source.{Source, colour_at, colours_at}
use Rattle.source_pixels.specs.Rows.{difference_count, IsDifference}
use Rattle.source_pixels.specs.Parts.{Part}

-- how many columns and rows of a source have places of the picture beside them
abbrev pub columns_beside : Source → Part → ℕ
columns_beside s p = min s.width p.columns

abbrev pub rows_beside : Source → Part → ℕ
rows_beside s p = min s.height p.rows

-- the colours of the picture beside row y
abbrev pub row_beside : Source → Part → ℕ → List ℕ
row_beside s p y = take (columns_beside s p) (p.row y)

-- in how many places of row y the colours differ
abbrev pub row_count : Source → Part → ℕ → ℕ
row_count s p y = difference_count (colours_at s 0 y (length (row_beside s p y))) (row_beside s p y) (length (row_beside s p y))

abbrev pub place_count : Source → Part → ℕ
place_count s p = sum (map (row_count s p) (range_with_len 0 (rows_beside s p)))

-- the colours of a source's rectangle, row by row
abbrev pub block_colours : Source → (left top columns rows : ℕ) → List ℕ
block_colours s left top columns rows = map (λ k. colour_at s (left + k % columns) (top + k / columns)) (range_with_len 0 (rows * columns))

abbrev pub is_in_piece : Piece → ℕ → ℕ → Bool
is_in_piece q x y = nat_le q.left x && nat_lt x (q.left + q.columns) && (nat_le q.top y && nat_lt y (q.top + q.rows))

-- a rectangle of the source, beside the picture, with its colours
pub record IsPiece (s : Source) (p : Part) (q : Piece) : Type 0 where
  pub some_columns : 1 ≤ q.columns
  pub some_rows : 1 ≤ q.rows
  pub wide : q.left + q.columns ≤ columns_beside s p
  pub high : q.top + q.rows ≤ rows_beside s p
  pub colours : q.colours ≡ block_colours s q.left q.top q.columns q.rows

-- each of some rows, so many from one on, differs; and from the first to the last place that differs in each they have so many places in all
abbrev pub HaveSpans : Source → Part → (top rows spans : ℕ) → Type 0
HaveSpans s p top zero spans = spans ≡ 0
HaveSpans s p top (suc rows) spans =
    (d : RowDifference) × IsDifference (colours_at s 0 (top + rows) (length (row_beside s p (top + rows)))) (row_beside s p (top + rows)) d
    × (above : ℕ) × HaveSpans s p top rows above × (spans ≡ above + (d.to - d.from))

-- A rectangle isn't far larger than what differs in it: it has at most twice as many places as there are from the first to the last that
-- differs in its rows, and 64. Of several rows it has at most 16,384.
pub record IsNear (s : Source) (p : Part) (top rows columns : ℕ) : Type 0 where
  pub spans : ℕ
  pub have_spans : HaveSpans s p top rows spans
  pub near : columns * rows ≤ spans * 2 + 64
  pub small : 1 < rows → columns * rows ≤ 16384

-- each place beside the picture that differs is in a piece, of which each lies below those before it; they are at most as many as
-- the places that differ
pub record AreDifferences (s : Source) (p : Part) (d : Differences) : Type 0 where
  pub pieces : All (IsPiece s p) d.pieces
  pub ordered : AllPairs (λ a b. a.top + a.rows ≤ b.top) d.pieces
  pub whole : (x y : ℕ) → y < rows_beside s p → x < length (row_beside s p y) → All (λ q. is_in_piece q x y ≡ false) d.pieces → colour_at s x y ≡ slice_index (row_beside s p y) x
  pub near : All (λ q. IsNear s p q.top q.rows q.columns) d.pieces
  pub few : length d.pieces ≤ d.places
  pub places : d.places ≡ place_count s p
