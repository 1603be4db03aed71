-- What contracts see of the services of viewers: whose each is.
use Rattle.std.specs.Prelude.{◌≡◌, ℕ, Bool, true, false, List, ◌<◌, ◌+◌, length, get_or}
use Rattle.serving.specs.declared.service.Service.{Service}
use Rattle.serving.specs.declared.service.Service.TheVariants.{Running, Ended}

-- the number of the viewer that is served
abbrev pub viewer_of : Service → ℕ
viewer_of (Running thread) = thread.promise.0
viewer_of (Ended receipt) = receipt.viewer

-- so many services, of the viewers with the numbers from 1 on
abbrev pub AreInOrder : ℕ → List Service → Type 0
AreInOrder n services = (length services ≡ n) × ((k : ℕ) (d : Service) → k < n → viewer_of (get_or services k d) ≡ k + 1)

-- whether the thread was joined
abbrev pub is_settled : Service → Bool
is_settled (Running thread) = false
is_settled (Ended receipt) = true
