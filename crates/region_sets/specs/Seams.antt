-- Bands on both sides of the gap.
use Rattle.std.specs.Prelude.{◌≡◌, Bool, false, List, [], ◌∷◌, ◌++◌, ◌≤ℤ◌, Option, Some, None}
use Rattle.std.specs.Ordering.{int_eq}
use Rattle.region_bands.specs.declared.Rows.{Rows}
use Rattle.region_bands.specs.Bands.{Band}

-- the last band above ends by the top of the first below
abbrev pub StandAbove : List Band → List Band → Type 0
StandAbove above below = (front : List Band) (last first : Band) (rest : List Band) → above ≡ front ++ last ∷ [] → below ≡ first ∷ rest → last.bottom ≤ℤ first.top

-- whether both are there, and the first rows end where the second begin
abbrev pub touch : Option Rows → Option Rows → Bool
touch None s = false
touch (Some r) None = false
touch (Some r) (Some s) = int_eq r.bottom s.top
