-- Where a walk over two lists of bands begins, and the room that it takes.
use Rattle.std.specs.Prelude.{◌≡◌, ◌≢◌, ℕ, ◌+◌, ◌≤◌, Bool, true, false, not, ◌&&◌, cond, ◌⊎◌, List, [], ◌∷◌, ◌++◌, length, ℤ, int_lt, int_le, Option, Some, None}
use Rattle.region_bands.specs.declared.Interval.{Interval}
use Rattle.region_bands.specs.declared.Rows.{Rows}
use Rattle.region_bands.specs.Bands.{Band, Bands, first_row, nodes_in}
use Rattle.region_rows.specs.declared.Keep.{Keep}
use Rattle.region_rows.specs.Rows.{keeps_place}
use Rattle.region_sets.specs.declared.strips.Strip.{Strip}
use Rattle.region_sets.specs.Sets.{EndBy, IsKept}
use Rattle.region_sets.specs.Strips.{next_strip, start_of, later, first_rows_of, FirstIs, IsStripRow}

-- the bands above the gap stay, and end where the others begin or above it
pub record StayAbove (keep : Keep) (above others : List Band) : Type 0 where
  pub stays : keeps_place keep true false ≡ true
  pub first : Band
  pub rest : List Band
  pub others_are : others ≡ first ∷ rest
  pub ends : EndBy first.top above

-- no band is above the gap, or those above it stay
abbrev pub IsGap : Keep → List Band → List Band → Type 0
IsGap keep above others = (above ≡ []) ⊎ StayAbove keep above others

abbrev pub ends_below : ℤ → Option Rows → Bool
ends_below y None = false
ends_below y (Some r) = int_lt y r.bottom

abbrev pub ends_by : ℤ → Option Rows → Bool
ends_by y None = false
ends_by y (Some r) = int_le r.bottom y

-- the gap stands elsewhere between the same bands
pub record GapMoved (old new : Bands) : Type 0 where
  pub all : new.above ++ new.below ≡ old.above ++ old.below
  pub same : new ≡ record old { above = new.above; left = new.left; below = new.below }

-- the rows are those of the first band, and nothing of the others is in them
abbrev pub IsWhole : Bool → Bool → Rows → List Band → Type 0
IsWhole in_a in_b rows below = (in_a ≡ true) × (in_b ≡ false) × FirstIs rows below

-- room for what is kept of a strip, for its row and two nodes: none is needed for a whole band of the first list, nor for a row
-- without columns
abbrev pub HoldsStrip : Keep → Bool → Bool → Rows → List Band → List Interval → List Interval → ℕ → Type 0
HoldsStrip keep in_a in_b rows below a b room = (IsWhole in_a in_b rows below → ⊥) → (row : List Interval) → IsStripRow keep in_a in_b a b row → row ≢ [] → 2 + length row ≤ room

-- whether from y on there are no bands but whole ones of the first list, or none but such of the second as aren't kept
abbrev pub is_over : Keep → ℤ → Option Rows → Option Rows → Bool
is_over keep y None None = true
is_over keep y (Some r) None = int_le y r.top
is_over keep y None (Some s) = not (keeps_place keep false true)
is_over keep y (Some r) (Some s) = false

-- the strip from y on for which there is to be room
abbrev pub strip_to_count : Keep → ℤ → Option Rows → Option Rows → Option Strip
strip_to_count keep y first second = cond (is_over keep y first second) None (next_strip y first second)

-- whether nothing is kept of a strip, which is not in bands of both lists
abbrev pub keeps_nothing : Keep → Bool → Bool → Bool
keeps_nothing keep in_a in_b = not (in_a && in_b) && not (keeps_place keep in_a in_b)

-- room for what is kept from y on: for each strip, down to where nothing is left that is made
pub data Enough (keep : Keep) : ℤ → List Band → List Band → ℕ → Type 0 where
  over : (y : ℤ) (below others : List Band) (room : ℕ) → is_over keep y (first_rows_of below) (first_rows_of others) ≡ true → Enough keep y below others room
  strip : (y : ℤ) (below others : List Band) (room : ℕ) (s : Strip) (taken rest : ℕ)
      → next_strip y (first_rows_of below) (first_rows_of others) ≡ Some s
      → HoldsStrip keep s.in_first s.in_second (record { top = y; bottom = s.bottom }) below (first_row below) (first_row others) taken
      → Enough keep s.bottom (later s.bottom below) (later s.bottom others) rest
      → taken + rest ≤ room → Enough keep y below others room

abbrev pub start : List Band → List Band → ℤ
start below others = start_of (first_rows_of below) (first_rows_of others)

-- room for what is kept of the bands below the gap and of the others: strip by strip, or twice for the nodes of the result
abbrev pub IsRoom : Keep → List Band → List Band → List Band → ℕ → Type 0
IsRoom keep above below others room = Enough keep (start below others) below others room
    ⊎ ((result : List Band) → IsKept keep (above ++ below) others result → nodes_in result + nodes_in result ≤ room)
