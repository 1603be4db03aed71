-- What contracts see of a server: whose receipts it gives.
use Rattle.std.specs.Prelude.{◌≡◌, ℕ, Bool, true, false, List, [], ◌<◌, ◌≤◌, ◌+◌, length, get_or}
use Rattle.receipts.specs.declared.Receipt.{Receipt}
use Rattle.serving.specs.declared.serving.Plan.{Plan}
use Rattle.serving.specs.declared.serving.Plan.TheVariants.{InAll, AtOnce}

-- so many receipts, of the viewers with the numbers from 1 on
abbrev pub AreNumbered : ℕ → List Receipt → Type 0
AreNumbered n receipts = (length receipts ≡ n) × ((k : ℕ) (d : Receipt) → k < n → (get_or receipts k d).viewer ≡ k + 1)

-- the receipts of so many viewers, or of the first of them where the server may be stopped
abbrev pub AreServed : ℕ → Bool → List Receipt → Type 0
AreServed viewers false receipts = AreNumbered viewers receipts
AreServed viewers true receipts = AreNumbered (length receipts) receipts × (length receipts ≤ viewers)

-- what a server gives by its plan: no receipts where viewers come without end
abbrev pub Gives : Plan → Bool → List Receipt → Type 0
Gives (InAll viewers) may_stop receipts = AreServed viewers may_stop receipts
Gives (AtOnce viewers) may_stop receipts = receipts ≡ []
