-- Pixels counted so far, and the best background of those.
use Rattle.std.specs.Prelude.{◌≡◌, ℕ, ◌<◌, ◌≤◌, nat_eq}
use Rattle.std.specs.Option.{unwrap_or}
use Rattle.std.specs.HashMap as hash
use Rattle.subrectangles.specs.declared.background.Counter.{Counter}

-- how often a pixel was counted
abbrev pub count_in : Counter → ℕ → ℕ
count_in c q = unwrap_or (hash.get nat_eq c.counts q) 0

-- b was counted most often, as often as most says, and is the smallest of those that were
pub record IsBestOf (count : ℕ → ℕ) (b most : ℕ) : Type 0 where
  pub has : most ≡ count b
  pub frequent : (q : ℕ) → count q ≤ most
  pub smallest : (q : ℕ) → 0 < most → count q ≡ most → b ≤ q
