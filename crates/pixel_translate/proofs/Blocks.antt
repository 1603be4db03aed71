-- Bytes written block by block over others.
use Rattle.std.proofs.Common.{◌≡◌, ℕ, ◌*◌, List, ◌++◌, take, drop}
use Rattle.std.specs.List.{flat_map}

-- the first i blocks are written, and the places behind are as they were
abbrev pub AreWritten : (ℕ → List ℕ) → ℕ → List ℕ → List ℕ → ℕ → List ℕ → Type 0
AreWritten f size colours old i now = now ≡ flat_map f (take i colours) ++ drop (size * i) old
