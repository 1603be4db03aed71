-- What a viewer was given and is not written yet.
use Rattle.std.specs.Prelude.{◌≢◌, ℕ, ◌≤◌, List, [], ◌++◌, length, Option, Some}
use Rattle.viewer.specs.Given.{bytes_given}

-- bytes that are made, then those that an update on its way is still to give, then those that came behind it
pub record Waiting : Type 0 where
  pub made : List ℕ
  pub update : Option (List ℕ)
  pub behind : List ℕ

-- all of it, in the order in which it is to be written
abbrev pub waiting_bytes : Waiting → List ℕ
waiting_bytes w = w.made ++ (bytes_given w.update ++ w.behind)

-- at most 64 KB are made and not written, and at most as many came behind an update
pub record IsFew (w : Waiting) : Type 0 where
  pub made : length w.made ≤ 65536
  pub behind : length w.behind ≤ 65536

-- so many bytes of those that are made are written, these, and those that came behind, are few, and an update on its way has bytes to give
pub record IsWithin (done made behind : ℕ) (update : Option (List ℕ)) : Type 0 where
  pub as_many : done ≤ made
  pub few_made : made ≤ 65536
  pub few_behind : behind ≤ 65536
  pub some_left : update ≢ Some []
