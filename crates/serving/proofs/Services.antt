-- Services that come one behind the other, and the receipts that come of them.
use Rattle.std.proofs.Common.{◌≡◌, ℕ, ◌<◌, ◌≤◌, ◌+◌, Bool, true, false, List, [], ◌∷◌, ◌++◌, length, get_or, map, ap, sym, subst, refl, arith}
use Rattle.std.proofs.lemmas.List.{get_or-map, length-map}
use Rattle.std.proofs.lemmas.Grind.{elements}
use Rattle.receipts.specs.declared.Receipt.{Receipt}
use Rattle.serving.specs.declared.service.Service.{Service}
use Rattle.serving.specs.Services.{viewer_of, AreInOrder}
use Rattle.serving.specs.Serving.{AreNumbered, AreServed}

-- a service that comes behind the others is of the next viewer
pub more_are : (xs ys : List Service) (s : Service) (l n m : ℕ) → ys ≡ xs ++ s ∷ [] → l ≡ n → m ≡ n + 1 → viewer_of s ≡ m → AreInOrder l xs → AreInOrder m ys
more_are xs ys s l n m e same next last (count, all) = (grind (elements, arith), λ k d below. grind (elements, arith))

-- the viewer of one of the receipts that came of services
viewer_at : (services : List Service) (receipts : List Receipt) (k : ℕ) (d : Receipt) (s : Service) → AreInOrder (length services) services → map (λ r. r.viewer) receipts ≡ map viewer_of services → k < length services → k < length receipts → (get_or receipts k d).viewer ≡ k + 1
viewer_at services receipts k d s order e below there =
    let own : get_or (map viewer_of services) k 0 ≡ viewer_of (get_or services k s) = get_or-map viewer_of services k s 0 below in
    let given : get_or (map (λ (r : Receipt). r.viewer) receipts) k 0 ≡ (get_or receipts k d).viewer = get_or-map (λ (r : Receipt). r.viewer) receipts k d 0 there in
    let next : viewer_of (get_or services k s) ≡ k + 1 = order.1 k s below in
    let same : get_or (map (λ (r : Receipt). r.viewer) receipts) k 0 ≡ get_or (map viewer_of services) k 0 = ap (λ (xs : List ℕ). get_or xs k 0) e in
    cc

-- as many receipts as services
count_is : (services : List Service) (receipts : List Receipt) → map (λ r. r.viewer) receipts ≡ map viewer_of services → length receipts ≡ length services
count_is services receipts e =
    let given : length (map (λ (r : Receipt). r.viewer) receipts) ≡ length receipts = length-map receipts (λ (r : Receipt). r.viewer) in
    let own : length (map viewer_of services) ≡ length services = length-map services viewer_of in
    let same : length (map (λ (r : Receipt). r.viewer) receipts) ≡ length (map viewer_of services) = ap length e in
    cc

-- receipts of services, each in its place, are numbered as these are
pub numbered : (services : List Service) (receipts : List Receipt) → AreInOrder (length services) services → map (λ r. r.viewer) receipts ≡ map viewer_of services → AreNumbered (length services) receipts
numbered [] receipts order e = (count_is [] receipts e, λ k d below. absurd (omega arith))
numbered (s ∷ services) receipts order e =
    let count : length receipts ≡ length (s ∷ services) = count_is (s ∷ services) receipts e in
    (count, λ k d below. viewer_at (s ∷ services) receipts k d s order e below (omega arith))

-- so many services are as many as they are
pub own-order : (n : ℕ) (services : List Service) → AreInOrder n services → AreInOrder (length services) services
own-order n services order = subst (λ (m : ℕ). AreInOrder m services) (sym order.0) order

-- receipts of all viewers, or of the first of them
pub served : (viewers n : ℕ) (may_stop : Bool) (receipts : List Receipt) → AreNumbered n receipts → n ≤ viewers → (may_stop ≡ false → n ≡ viewers) → AreServed viewers may_stop receipts
served viewers n false receipts all few whole = subst (λ (m : ℕ). AreNumbered m receipts) (whole refl) all
served viewers n true receipts all few whole =
    let count : length receipts ≡ n = all.0 in
    (subst (λ (m : ℕ). AreNumbered m receipts) (sym count) all, omega (arith, count, few))
