-- What is gathered of some rows.
use Rattle.std.specs.Prelude.{◌≡◌, ℕ, ◌-◌, ◌*◌, ◌<◌, ◌≤◌, List, length, map, slice_index, sum, All}
use Rattle.std.specs.List.{range_with_len}
use Rattle.source_pixels.specs.declared.bands.Band.{Band}
use Rattle.source_pixels.specs.declared.pieces.Piece.{Piece}
use Rattle.source_pixels.specs.Source.{Source, colour_at}
use Rattle.source_pixels.specs.Parts.{Part}
use Rattle.source_pixels.specs.Bands.{AreBands}
use Rattle.source_pixels.specs.Differences.{columns_beside, row_beside, row_count, block_colours, IsNear}

-- the place in column x of row y is the picture's, if it lies beside it
abbrev pub IsSameAt : Source → Part → ℕ → ℕ → Type 0
IsSameAt s p x y = x < length (row_beside s p y) → colour_at s x y ≡ slice_index (row_beside s p y) x

-- a band isn't far larger than what differs in it, by as many places as it counts, or more
abbrev pub IsNearBand : Source → Part → Band → Type 0
IsNearBand s p b = (n : IsNear s p b.top (b.bottom - b.top) (b.to - b.from)) × (b.spans ≤ n.spans)

-- each place of the rows from one to below row y that differs from the picture's is in a band, of which each lies below those
-- before it; they are at most as many as the places that differ
pub record AreGathered (s : Source) (p : Part) (start y : ℕ) (bands : List Band) (places : ℕ) : Type 0 where
  pub are_bands : AreBands (columns_beside s p) (IsSameAt s p) start y bands
  pub counted : places ≡ sum (map (row_count s p) (range_with_len start (y - start)))
  pub near : All (IsNearBand s p) bands
  pub few : length bands ≤ places
  pub small : places ≤ s.width * (y - start)

-- a band with its colours
abbrev pub piece_of : Source → Band → Piece
piece_of s b = record {
  left = b.from;
  top = b.top;
  columns = b.to - b.from;
  rows = b.bottom - b.top;
  colours = block_colours s b.from b.top (b.to - b.from) (b.bottom - b.top);
}
