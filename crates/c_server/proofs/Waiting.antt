-- What waits, as it is fetched one by one.
use Rattle.std.proofs.Common.{◌≡◌, ℕ, zero, suc, ◌+◌, ◌<◌, ◌≤◌, List, [], ◌∷◌, ◌++◌, length, take, drop, sym, ap, ◌∙◌, arith, slice_set, add-one}

one-of : {X : Type 0} (count : ℕ) (all room new : List X) (x : X) → drop count all ≡ x ∷ new → count < length room
    → (drop (suc count) all ≡ new) × (slice_set (take count all ++ drop count room) count x ≡ take (suc count) all ++ drop (suc count) room) × (suc count ≤ length all)
one-of zero [] room new x is less = absurd (cc)
one-of zero (y ∷ all) [] new x is less = absurd (omega (less, arith))
one-of zero (y ∷ all) (z ∷ room) new x is less = let head : y ≡ x = cc in let rest : all ≡ new = cc in (rest, ap (λ i. i ∷ room) (sym head), omega arith)
one-of (suc count) [] room new x is less = absurd (cc)
one-of (suc count) (y ∷ all) [] new x is less = absurd (omega (less, arith))
one-of (suc count) (y ∷ all) (z ∷ room) new x is less =
    let more = one-of count all room new x is (omega (less, arith)) in
    let few : suc count ≤ length all = more.2 in
    (more.0, ap (λ l. y ∷ l) more.1, omega (few, arith))

-- so many were fetched, and one more is
pub one-fetched : {X : Type 0} (all waiting new room_old room : List X) (count : ℕ) (x : X) → waiting ≡ drop count all → waiting ≡ x ∷ new → room ≡ take count all ++ drop count room_old → count < length room_old
    → (new ≡ drop (count + 1) all) × (slice_set room count x ≡ take (count + 1) all ++ drop (count + 1) room_old) × (count + 1 ≤ length all)
one-fetched all waiting new room_old room count x rest first fetched less =
    let more = one-of count all room_old new x (sym rest ∙ first) less in
    rw (add-one count) (rw fetched (sym more.0, more.1, more.2))
