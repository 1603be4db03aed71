-- The first bytes of a text.
use Rattle.std.proofs.Common.{◌≡◌, ℕ, zero, suc, ◌+◌, ◌-◌, ◌≤◌, min, List, [], ◌∷◌, ◌++◌, length, take, refl, sym, ap, ◌∙◌, arith}
use Rattle.std.proofs.lemmas.List.{take_min}
use Rattle.std.proofs.Math.Seq.{take-append-add}
use Rattle.source_picture.specs.Texts.{TextView, with_bytes}

abbrev nothing : List ℕ
nothing = []

none_taken : (k : ℕ) → take k nothing ≡ nothing
none_taken zero = refl
none_taken (suc k) = refl

take_twice : (m n k : ℕ) (xs : List ℕ) → k ≡ min m n → take m (take n xs) ≡ take k xs
take_twice zero n k xs e = ap (λ i. take i xs) (let none : 0 ≡ k = omega arith in none)
take_twice (suc m) zero k xs e = ap (λ i. take i xs) (let none : 0 ≡ k = omega arith in none)
take_twice (suc m) (suc n) k [] e = sym (none_taken k)
take_twice (suc m) (suc n) zero (x ∷ xs) e = absurd (omega arith)
take_twice (suc m) (suc n) (suc k) (x ∷ xs) e = ap (λ l. x ∷ l) (take_twice m n k xs (omega arith))

-- as many of further bytes as are of the text, and as there is room for
pub kept_more : (kept bytes : List ℕ) (left cut : ℕ) → length kept ≤ 65536 → cut ≡ min (min (length bytes) left) (65536 - length kept) → kept ++ take cut bytes ≡ take 65536 (kept ++ take left bytes)
kept_more kept bytes left cut few is =
    ap (λ l. kept ++ l) (ap (λ n. take n bytes) (let e : cut ≡ min (min (65536 - length kept) left) (length bytes) = omega arith in e)
    ∙ take_min (min (65536 - length kept) left) bytes
    ∙ sym (take_twice (65536 - length kept) left (min (65536 - length kept) left) bytes refl))
    ∙ sym (take-append-add kept (take left bytes) (65536 - length kept))
    ∙ ap (λ n. take n (kept ++ take left bytes)) (let e : length kept + (65536 - length kept) ≡ 65536 = omega arith in e)

pub text_more : (before : TextView) (kept bytes : List ℕ) (left cut : ℕ) → length before.kept ≤ 65536 → kept ≡ before.kept ++ take cut bytes → cut ≡ min (min (length bytes) before.left) (65536 - length before.kept)
    → left ≡ before.left - min (length bytes) before.left → record { kept = kept; left = left } ≡ with_bytes bytes before
text_more before kept bytes left cut few is cut_is left_is =
    let with_kept : List ℕ → TextView = λ l. record { kept = l; left = left } in
    let with_left : ℕ → TextView = λ n. record { kept = take 65536 (before.kept ++ take before.left bytes); left = n } in
    ap with_kept (is ∙ kept_more before.kept bytes before.left cut few cut_is) ∙ ap with_left (let e : left ≡ before.left - length bytes = omega arith in e)
