-- The part of a picture that lies beside a program's own pixels.
use Rattle.std.specs.Prelude.{ℕ, List}

-- so many columns and rows, and the colours of each row from the left
pub record Part : Type 0 where
  pub columns : ℕ
  pub rows : ℕ
  pub row : ℕ → List ℕ
