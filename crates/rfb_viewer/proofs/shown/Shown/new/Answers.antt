use Rattle.std.proofs.Common.{◌≡◌, ℕ, zero, suc, None, List, Option, slice_index_or, replicate, refl}
use Rattle.rfb_viewer.proofs.shown.Shown.new.Goals as goal

abbrev nothing : ℕ → List (Option (ℕ × ℕ × ℕ))
nothing n = replicate n None

-- no entry of so many is set
unset : (n entry : ℕ) → slice_index_or (nothing n) entry None ≡ None
unset zero entry = refl
unset (suc n) zero = refl
unset (suc n) (suc entry) = unset n entry

pub returns-clause-map : goal.returns-clause-map
returns-clause-map c entry = unset 256 entry
