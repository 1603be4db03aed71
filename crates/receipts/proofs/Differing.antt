-- How far two lists agree.
use Rattle.std.proofs.Common.{◌≡◌, ℕ, suc, ◌+◌, ◌<◌, ◌≤◌, Bool, true, false, List, [], ◌∷◌, Option, None, Some, option_map, length, get_or, drop, refl, ap, arith}
use Rattle.std.proofs.lemmas.List.{drop_more, drop_all}
use Rattle.receipts.specs.Differences.{difference}

-- a place that is counted from n on
abbrev pub later : ℕ → Option ℕ → Option ℕ
later n o = option_map (λ k. n + k) o

later-suc : (n : ℕ) (o : Option ℕ) → later n (option_map suc o) ≡ later (n + 1) o
later-suc n None = refl
later-suc n (Some k) = ap Some (let e : n + suc k ≡ n + 1 + k = omega arith in e)

pub later-none : (o : Option ℕ) → later 0 o ≡ o
later-none None = refl
later-none (Some k) = ap Some (let e : 0 + k ≡ k = omega arith in e)

-- where the lists agree at a place, they differ later
pub agrees : {X : Type 0} (same : X → X → Bool) (n : ℕ) (x y : X) (xs ys : List X) → same x y ≡ true → later n (difference same (x ∷ xs) (y ∷ ys)) ≡ later (n + 1) (difference same xs ys)
agrees same n x y xs ys h = rw h (later-suc n (difference same xs ys))

pub differs : {X : Type 0} (same : X → X → Bool) (n : ℕ) (x y : X) (xs ys : List X) → same x y ≡ false → later n (difference same (x ∷ xs) (y ∷ ys)) ≡ Some n
differs same n x y xs ys h = rw h (ap Some (let e : n + 0 ≡ n = omega arith in e))

-- by places
pub agrees_at : {X : Type 0} (same : X → X → Bool) (n i j : ℕ) (xs ys : List X) (x y : X) → i < length xs → j < length ys → same (get_or xs i x) (get_or ys j y) ≡ true → later n (difference same (drop i xs) (drop j ys)) ≡ later (n + 1) (difference same (drop (i + 1) xs) (drop (j + 1) ys))
agrees_at same n i j xs ys x y in_xs in_ys h = rw (drop_more xs i x in_xs, drop_more ys j y in_ys) (agrees same n _ _ _ _ h)

pub differs_at : {X : Type 0} (same : X → X → Bool) (n i j : ℕ) (xs ys : List X) (x y : X) → i < length xs → j < length ys → same (get_or xs i x) (get_or ys j y) ≡ false → later n (difference same (drop i xs) (drop j ys)) ≡ Some n
differs_at same n i j xs ys x y in_xs in_ys h = rw (drop_more xs i x in_xs, drop_more ys j y in_ys) (differs same n _ _ _ _ h)

-- the second list ends first
pub ends_at : {X : Type 0} (same : X → X → Bool) (n i j : ℕ) (xs ys : List X) (x : X) → i < length xs → length ys ≤ j → later n (difference same (drop i xs) (drop j ys)) ≡ Some n
ends_at same n i j xs ys x in_xs past = rw (drop_more xs i x in_xs, drop_all j ys past) (ap Some (let e : n + 0 ≡ n = omega arith in e))

-- the first list ends
pub ended : {X : Type 0} (same : X → X → Bool) (n j : ℕ) (ys : List X) (y : X) → j < length ys → later n (difference same [] (drop j ys)) ≡ Some n
ended same n j ys y in_ys = rw (drop_more ys j y in_ys) (ap Some (let e : n + 0 ≡ n = omega arith in e))

pub both_ended : {X : Type 0} (same : X → X → Bool) (n j : ℕ) (ys : List X) → length ys ≤ j → later n (difference same [] (drop j ys)) ≡ None
both_ended same n j ys past = rw (drop_all j ys past) refl
