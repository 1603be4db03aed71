-- What is counted of a viewer.
use Rattle.std.specs.Prelude.{◌≡◌, ℕ, ◌+◌, ◌-◌, ◌^◌, min, List, [], ◌++◌, Option, option_map, unwrap_or}
use Rattle.receipts.specs.declared.Receipt.{Receipt}

pub record Counts : Type 0 where
  -- how many pieces were heard
  pub pieces : ℕ
  -- how many updates were cut
  pub cuts : ℕ
  -- the bytes of the pieces, where they are kept
  pub heard : Option (List ℕ)

-- nothing was heard nor cut yet
abbrev pub no_counts : Option (List ℕ) → Counts
no_counts heard = record { pieces = 0; cuts = 0; heard = heard }

-- a count stops at 2 ^ 64 - 1
abbrev pub stopping : ℕ → ℕ
stopping n = min n (2 ^ 64 - 1)

-- a piece more was heard
abbrev pub with_piece : List ℕ → Counts → Counts
with_piece piece counts = record counts { pieces = stopping (counts.pieces + 1); heard = option_map (λ bytes. bytes ++ piece) counts.heard }

-- an update more was cut
abbrev pub with_cut : Counts → Counts
with_cut counts = record counts { cuts = stopping (counts.cuts + 1) }

-- a receipt has these counts, and the bytes that were heard, where they are kept
pub record HasCounts (counts : Counts) (r : Receipt) : Type 0 where
  pub pieces : r.pieces ≡ counts.pieces
  pub cuts : r.cuts ≡ counts.cuts
  pub heard : r.heard ≡ unwrap_or counts.heard []
