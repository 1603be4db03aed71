-- Rows of maximal intervals: where they have columns, and that a row's columns make it out.
use Rattle.std.proofs.Common.{◌≡◌, Bool, true, false, ◌&&◌, List, [], ◌∷◌, ◌++◌, refl, sym, ◌∙◌, ap, arith}
use Rattle.std.specs.Prelude.{ℤ, ◌<ℤ◌, ◌≤ℤ◌, int_lt, int_le, ◌||◌}
use Rattle.std.specs.List.{AllByRecursion}
use Rattle.std.proofs.lemmas.Int.{ints, by_lt_z}
use Rattle.region_bands.specs.declared.Interval.{Interval}
use Rattle.region_rows.specs.Rows.{IsRow, row_has}

pub true_false : true ≡ false → ⊥
true_false e = cc

pub some_first : (r : Interval) (rs : List Interval) → IsRow (r ∷ rs) → r.from <ℤ r.to
some_first r [] h = h
some_first r (s ∷ rs) h = h.0

pub row_tail : (r : Interval) (rs : List Interval) → IsRow (r ∷ rs) → IsRow rs
row_tail r [] h = tt
row_tail r (s ∷ rs) h = h.2

-- the row begins behind n
abbrev pub Behind : ℤ → List Interval → Type 0
Behind n [] = Unit {0}
Behind n (r ∷ rs) = n <ℤ r.from

pub tail_behind : (r : Interval) (rs : List Interval) → IsRow (r ∷ rs) → Behind r.to rs
tail_behind r [] h = tt
tail_behind r (s ∷ rs) h = h.1

pub behind_less : (n m : ℤ) (rs : List Interval) → m ≤ℤ n → Behind n rs → Behind m rs
behind_less n m [] h b = tt
behind_less n m (r ∷ rs) h b = omega (arith, ints, h, b)

-- before a row there is none of it
pub none_ahead : (z : ℤ) (rs : List Interval) → IsRow rs → Behind z rs → row_has rs z ≡ false
none_ahead z [] h b = refl
none_ahead z (r ∷ rs) h b =
    let some : r.from <ℤ r.to = some_first r rs h in
    let rest : row_has rs z ≡ false = none_ahead z rs (row_tail r rs h) (behind_less r.to z rs (omega (arith, ints, b, some)) (tail_behind r rs h)) in
    ap (λ t. (int_le r.from z && int_lt z r.to) || t) rest ∙ go r b
  where
    go : (r : Interval) → z <ℤ r.from → ((int_le r.from z && int_lt z r.to) || false) ≡ false
    go r b = grind (arith, ints)

pub none_before : (r : Interval) (rs : List Interval) (z : ℤ) → IsRow (r ∷ rs) → z <ℤ r.from → row_has (r ∷ rs) z ≡ false
none_before r rs z h low = none_ahead z (r ∷ rs) h low

pub has_inside : (r : Interval) (rs : List Interval) (z : ℤ) → r.from ≤ℤ z → z <ℤ r.to → row_has (r ∷ rs) z ≡ true
has_inside r rs z low high = ap (λ t. t || row_has rs z) (inside r z low high)
  where
    inside : (r : Interval) (z : ℤ) → r.from ≤ℤ z → z <ℤ r.to → (int_le r.from z && int_lt z r.to) ≡ true
    inside r z low high = grind (arith, ints)

-- behind the first interval the others count
pub has_after : (r : Interval) (rs : List Interval) (z : ℤ) → r.to ≤ℤ z → row_has (r ∷ rs) z ≡ row_has rs z
has_after r rs z low = ap (λ t. t || row_has rs z) (outside r z low)
  where
    outside : (r : Interval) (z : ℤ) → r.to ≤ℤ z → (int_le r.from z && int_lt z r.to) ≡ false
    outside r z low = grind (arith, ints)

pub begun : (r : Interval) (rs : List Interval) (z : ℤ) → IsRow (r ∷ rs) → z <ℤ r.to → row_has (r ∷ rs) z ≡ int_le r.from z
begun r rs z h high = by_lt_z z r.from
    (λ less. none_before r rs z h less ∙ sym (not_yet r z less))
    (λ more. has_inside r rs z more high ∙ sym (has_begun r z more))
  where
    not_yet : (r : Interval) (z : ℤ) → z <ℤ r.from → int_le r.from z ≡ false
    not_yet r z less = grind (arith, ints)

    has_begun : (r : Interval) (z : ℤ) → r.from ≤ℤ z → int_le r.from z ≡ true
    has_begun r z more = grind (arith, ints)

-- ---- rows from the left

-- each interval ends before n
abbrev pub Below : ℤ → List Interval → Type 0
Below n rs = AllByRecursion (λ r. r.to <ℤ n) rs

pub below_more : (n m : ℤ) (rs : List Interval) → n ≤ℤ m → Below n rs → Below m rs
below_more n m [] h b = tt
below_more n m (r ∷ rs) h b = (omega (arith, ints, h, b.0), below_more n m rs h b.1)

pub none_behind : (n z : ℤ) (rs : List Interval) → Below n rs → n ≤ℤ z → row_has rs z ≡ false
none_behind n z [] b h = refl
none_behind n z (r ∷ rs) b h = has_after r rs z (omega (arith, ints, b.0, h)) ∙ none_behind n z rs b.1 h

pub row_longer : (rs : List Interval) (q : Interval) → IsRow rs → Below q.from rs → q.from <ℤ q.to → IsRow (rs ++ q ∷ [])
row_longer [] q h b some = some
row_longer (r ∷ []) q h b some = (h, b.0, some)
row_longer (r ∷ s ∷ rest) q h b some = (h.0, h.1, row_longer (s ∷ rest) q h.2 b.1 some)

pub below_longer : (n : ℤ) (rs : List Interval) (q : Interval) → Below n rs → q.to <ℤ n → Below n (rs ++ q ∷ [])
below_longer n [] q b less = (less, tt)
below_longer n (r ∷ rs) q b less = (b.0, below_longer n rs q b.1 less)

pub or_false : (b : Bool) → (b || false) ≡ b
or_false true = refl
or_false false = refl

pub has-append : (rs : List Interval) (q : Interval) (z : ℤ) → row_has (rs ++ q ∷ []) z ≡ (row_has rs z || (int_le q.from z && int_lt z q.to))
has-append [] q z = or_false (int_le q.from z && int_lt z q.to)
has-append (r ∷ rs) q z = ap (λ t. (int_le r.from z && int_lt z r.to) || t) (has-append rs q z) ∙ or_assoc (int_le r.from z && int_lt z r.to) (row_has rs z) (int_le q.from z && int_lt z q.to)
  where
    or_assoc : (a b c : Bool) → (a || (b || c)) ≡ ((a || b) || c)
    or_assoc true b c = refl
    or_assoc false b c = refl

-- ---- two rows with the same columns are one

-- a column that one has and the other hasn't
parted : (a b : List Interval) (z : ℤ) → ((x : ℤ) → row_has a x ≡ row_has b x) → row_has a z ≡ true → row_has b z ≡ false → ⊥
parted a b z same there gone = true_false (sym there ∙ same z ∙ gone)

first_from : (r s : Interval) (rs ss : List Interval) → IsRow (r ∷ rs) → IsRow (s ∷ ss) → ((x : ℤ) → row_has (r ∷ rs) x ≡ row_has (s ∷ ss) x) → s.from ≤ℤ r.from
first_from r s rs ss h k same = by_lt_z r.from s.from
    (λ less. absurd (parted (r ∷ rs) (s ∷ ss) r.from same (has_inside r rs r.from (omega (arith, ints)) (some_first r rs h)) (none_before s ss r.from k less)))
    (λ more. more)

first_to : (r s : Interval) (rs ss : List Interval) → IsRow (r ∷ rs) → IsRow (s ∷ ss) → r.from ≡ s.from → ((x : ℤ) → row_has (r ∷ rs) x ≡ row_has (s ∷ ss) x) → s.to ≤ℤ r.to
first_to r s rs ss h k e same = by_lt_z r.to s.to
    (λ less. let some : r.from <ℤ r.to = some_first r rs h in
    absurd (parted (s ∷ ss) (r ∷ rs) r.to (λ x. sym (same x)) (has_inside s ss r.to (omega (arith, ints, some, e)) less)
    (has_after r rs r.to (omega (arith, ints)) ∙ none_ahead r.to rs (row_tail r rs h) (tail_behind r rs h))))
    (λ more. more)

same_interval : (r s : Interval) → r.from ≡ s.from → r.to ≡ s.to → r ≡ s
same_interval r s e f = ap (λ n. record { from = n; to = r.to }) e ∙ ap (λ n. record { from = s.from; to = n }) f

same_number : (a b : ℤ) → a ≤ℤ b → b ≤ℤ a → a ≡ b
same_number a b h k = omega (arith, ints, h, k)

pub only_row : (a b : List Interval) → IsRow a → IsRow b → ((x : ℤ) → row_has a x ≡ row_has b x) → a ≡ b
only_row [] [] h k same = refl
only_row [] (s ∷ ss) h k same = absurd (parted (s ∷ ss) [] s.from (λ x. sym (same x)) (has_inside s ss s.from (omega (arith, ints)) (some_first s ss k)) refl)
only_row (r ∷ rs) [] h k same = absurd (parted (r ∷ rs) [] r.from same (has_inside r rs r.from (omega (arith, ints)) (some_first r rs h)) refl)
only_row (r ∷ rs) (s ∷ ss) h k same =
    let from : r.from ≡ s.from = same_number r.from s.from (first_from s r ss rs k h (λ x. sym (same x))) (first_from r s rs ss h k same) in
    let to : r.to ≡ s.to = same_number r.to s.to (first_to s r ss rs k h (sym from) (λ x. sym (same x))) (first_to r s rs ss h k from same) in
    let rest : rs ≡ ss = only_row rs ss (row_tail r rs h) (row_tail s ss k) (λ x. by_lt_z x r.to
    (λ less. none_ahead x rs (row_tail r rs h) (behind_less r.to x rs (omega (arith, ints, less)) (tail_behind r rs h))
    ∙ sym (none_ahead x ss (row_tail s ss k) (behind_less s.to x ss (omega (arith, ints, less, to)) (tail_behind s ss k))))
    (λ more. sym (has_after r rs x more) ∙ same x ∙ has_after s ss x (omega (arith, ints, more, to)))) in
    ap (λ i. i ∷ rs) (same_interval r s from to) ∙ ap (λ l. s ∷ l) rest
