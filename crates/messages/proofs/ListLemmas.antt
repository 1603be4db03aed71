-- Lists in parts.
use Rattle.std.proofs.Common.{◌≡◌, ℕ, zero, suc, ◌+◌, ◌-◌, ◌≤◌, min, List, [], ◌∷◌, ◌++◌, length, take, drop, sym, ap, ◌∙◌, arith}
use Rattle.std.proofs.Math.Seq.{take-append-add, drop-append-add}

pub take-min : (n : ℕ) (ys : List ℕ) → take (min n (length ys)) ys ≡ take n ys
take-min zero ys = ap (λ (k : ℕ). take k ys) (let e : min 0 (length ys) ≡ 0 = omega arith in e)
take-min (suc n) [] = ap (λ (k : ℕ). take k []) (let e : min (suc n) 0 ≡ 0 = omega arith in e)
take-min (suc n) (y ∷ ys) = ap (λ (k : ℕ). take k (y ∷ ys)) (let e : min (suc n) (suc (length ys)) ≡ suc (min n (length ys)) = omega arith in e) ∙ ap (λ (t : List ℕ). y ∷ t) (take-min n ys)

-- as many of the second list as there is room for behind the first
pub take-append_room : (n m : ℕ) (xs ys : List ℕ) → length xs ≤ n → m ≡ min (n - length xs) (length ys) → take n (xs ++ ys) ≡ xs ++ take m ys
take-append_room n m xs ys h e =
    ap (λ (k : ℕ). take k (xs ++ ys)) (let f : n ≡ length xs + (n - length xs) = omega arith in f)
    ∙ take-append-add xs ys (n - length xs)
    ∙ ap (λ (t : List ℕ). xs ++ t) (sym (take-min (n - length xs) ys) ∙ ap (λ (k : ℕ). take k ys) (sym e))

pub take-append_at : (n m : ℕ) (xs ys : List ℕ) → n ≡ length xs + m → take n (xs ++ ys) ≡ xs ++ take m ys
take-append_at n m xs ys e = ap (λ (k : ℕ). take k (xs ++ ys)) e ∙ take-append-add xs ys m

pub drop-append_at : (n m : ℕ) (xs ys : List ℕ) → n ≡ length xs + m → drop n (xs ++ ys) ≡ drop m ys
drop-append_at n m xs ys e = ap (λ (k : ℕ). drop k (xs ++ ys)) e ∙ drop-append-add xs ys m
