-- Rows that differ, gathered from the top into bands.
use Rattle.std.specs.Prelude.{◌≡◌, ℕ, ◌+◌, ◌-◌, ◌*◌, ◌<◌, ◌≤◌, min, max, Bool, false, ◌&&◌, nat_le, nat_lt, ◌⊎◌, List, [], ◌∷◌, ◌++◌, length, slice_set, get_or, All, AllPairs}
use Rattle.source_pixels.specs.declared.bands.Band.{Band}

abbrev pub is_in_band : Band → ℕ → ℕ → Bool
is_in_band b x y = nat_le b.from x && nat_lt x b.to && (nat_le b.top y && nat_lt y b.bottom)

-- a band has places, in so many columns, in the rows from one to below row y
pub record IsBand (columns start y : ℕ) (b : Band) : Type 0 where
  pub some_columns : b.from < b.to
  pub wide : b.to ≤ columns
  pub some_rows : b.top < b.bottom
  pub low : start ≤ b.top
  pub high : b.bottom ≤ y

-- a band that holds two others, of which the second lies directly below the first
pub record IsJoint (a b joint : Band) : Type 0 where
  pub below : a.bottom ≡ b.top
  pub top : joint.top ≡ a.top
  pub bottom : joint.bottom ≡ b.bottom
  pub from : joint.from ≡ min a.from b.from
  pub to : joint.to ≡ max a.to b.to
  -- so many places from the first to the last that differs in each of its rows, or fewer
  pub spans : joint.spans ≤ a.spans + b.spans

-- a band has at most twice as many places as there are from the first to the last that differs in its rows, and 64; and at most 16,384
pub record IsThrifty (b : Band) : Type 0 where
  pub near : (b.to - b.from) * (b.bottom - b.top) ≤ b.spans * 2 + 64
  pub small : (b.to - b.from) * (b.bottom - b.top) ≤ 16384

-- a band comes behind others, or is joined with the last of them, where both are thrifty
abbrev pub Adds : List Band → Band → List Band → Type 0
Adds old b new = (new ≡ old ++ b ∷ []) ⊎ ((0 < length old) × (joint : Band) × (IsJoint (get_or old (length old - 1) b) b joint × (IsThrifty joint × (new ≡ slice_set old (length old - 1) joint))))

-- a place is in none of the bands
abbrev pub IsOutside : List Band → ℕ → ℕ → Type 0
IsOutside bands x y = All (λ b. is_in_band b x y ≡ false) bands

-- bands of the rows from one to below row y, from the top; where none of them is, a fact holds
pub record AreBands (columns : ℕ) (same : ℕ → ℕ → Type 0) (start y : ℕ) (bands : List Band) : Type 0 where
  pub each : All (IsBand columns start y) bands
  pub ordered : AllPairs (λ a b. a.bottom ≤ b.top) bands
  pub whole : (x r : ℕ) → start ≤ r → r < y → IsOutside bands x r → same x r
