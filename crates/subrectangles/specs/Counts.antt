-- Pixels counted run by run.
use Rattle.std.proofs.Common.{◌≡◌, ℕ, zero, suc, ◌+◌, ◌*◌, ◌/◌, ◌<◌, ◌≤◌, ◌⊎◌, inl, inr, false, cond, max, List, [], ◌∷◌, length, take, drop, eqb, get_or, sym, ap, ◌∙◌, arith, add-zero}
use Rattle.std.proofs.lemmas.Bool.{eq-eqb, cases_eq}
use Rattle.std.proofs.lemmas.Bool.Decides.{eqb_tells}
use Rattle.std.proofs.lemmas.List.Sums.{count_by-le-length, count_by_more_yes, count_by_more_no, sum_by-cons, sum_by-append}
use Rattle.std.proofs.Math.Nat.{suc-mul, zero-mul, mul-add}
use Rattle.std.proofs.Math.Seq.{take-add}
use Rattle.subrectangles.specs.Counted.{IsBestOf}
use Rattle.subrectangles.specs.Subrectangles.{times, background_of, stretch, IsBackground, rows_of, row_at}
use Rattle.subrectangles.specs.MostFrequent.{finds_the_background}
use Rattle.subrectangles.specs.Scans.{run_same, row_is}

-- n more of one pixel
pub record CountsRun (before after : ℕ → ℕ) (p n : ℕ) : Type 0 where
  pub itself : after p ≡ before p + n
  pub other : (q : ℕ) → (p ≡ q → ⊥) → after q ≡ before q

same_more : (ps : List ℕ) (s m : ℕ) → s + m ≤ length ps → ((k : ℕ) → s ≤ k → k < s + m → get_or ps k 0 ≡ get_or ps s 0)
    → times (get_or ps s 0) (take (s + m) ps) ≡ times (get_or ps s 0) (take s ps) + m
same_more ps s zero within same = ap (λ (k : ℕ). times (get_or ps s 0) (take k ps)) (add-zero s) ∙ sym (add-zero (times (get_or ps s 0) (take s ps)))
same_more ps s (suc m) within same =
    let before = same_more ps s m (omega arith) (λ k le lt. same k le (omega (arith, lt))) in
    let here = count_by_more_yes (λ q. eqb q (get_or ps s 0)) ps (s + m) 0 (omega arith) (eq-eqb _ _ (same (s + m) (omega arith) (omega arith))) in
    ap (λ (k : ℕ). times (get_or ps s 0) (take k ps)) (let e : s + suc m ≡ s + m + 1 = omega arith in e) ∙ omega (arith, before, here)

others_more : (ps : List ℕ) (s m q : ℕ) → s + m ≤ length ps → ((k : ℕ) → s ≤ k → k < s + m → eqb (get_or ps k 0) q ≡ false)
    → times q (take (s + m) ps) ≡ times q (take s ps)
others_more ps s zero q within same = ap (λ (k : ℕ). times q (take k ps)) (add-zero s)
others_more ps s (suc m) q within same =
    ap (λ (k : ℕ). times q (take k ps)) (let e : s + suc m ≡ s + m + 1 = omega arith in e)
    ∙ count_by_more_no (λ p. eqb p q) ps (s + m) 0 (omega arith) (same (s + m) (omega arith) (omega arith))
    ∙ others_more ps s m q (omega arith) (λ k le lt. same k le (omega (arith, lt)))

pub unequal : (a b : ℕ) → (a ≡ b → ⊥) → eqb a b ≡ false
unequal a b ne = elim (eqb_tells a b) [ inl q ↦ absurd (ne q.1) | inr q ↦ q.0 ]

pub run_counted : (ps : List ℕ) (s n : ℕ) → s < length ps → s + n ≤ length ps → n ≡ stretch ps s → CountsRun (λ q. times q (take s ps)) (λ q. times q (take (s + n) ps)) (get_or ps s 0) n
run_counted ps s n inside within e = record {
  itself = same_more ps s n within (run_same ps s n inside e);
  other = λ q ne. others_more ps s n q within (λ k le lt. unequal _ _ (λ h. ne (sym (run_same ps s n inside e k le lt) ∙ h)));
}

pub better_best : (before after : ℕ → ℕ) (p n b most : ℕ) → 0 < n → CountsRun before after p n → IsBestOf before b most
    → (most < before p + n) ⊎ ((most ≡ before p + n) × (p < b)) → IsBestOf after p (before p + n)
better_best before after p n b most some run best h = record {
  has = sym run.itself;
  frequent = λ q. elim (cases_eq p q) [ inl e ↦ ap_le q e | inr ne ↦ omega (arith, run.other q ne, best.frequent q, enough) ];
  smallest = λ q lt e. elim (cases_eq p q) [
    | inl same ↦ omega arith
    | inr ne ↦ elim h [
      | inl more ↦ absurd (omega (arith, run.other q ne, best.frequent q, more, e))
      | inr tie ↦ omega (arith, tie.1, best.smallest q (omega (arith, tie.0, some)) (omega (arith, run.other q ne, tie.0, e)))
    ]
  ];
}
  where
    enough : most ≤ before p + n
    enough = elim h [ inl more ↦ omega arith | inr tie ↦ omega (arith, tie.0) ]

    ap_le : (q : ℕ) → p ≡ q → after q ≤ before p + n
    ap_le q e = omega (arith, run.itself, ap after e)

pub same_best : (before after : ℕ → ℕ) (p n b most : ℕ) → 0 < n → CountsRun before after p n → IsBestOf before b most
    → before p + n ≤ most → (most ≡ before p + n → b ≤ p) → IsBestOf after b most
same_best before after p n b most some run best le tie = record {
  has = best.has ∙ sym (run.other b apart);
  frequent = λ q. elim (cases_eq p q) [ inl e ↦ ap_le q e | inr ne ↦ omega (arith, run.other q ne, best.frequent q) ];
  smallest = λ q lt e. elim (cases_eq p q) [
    | inl same ↦ omega (arith, tie (sym (sym run.itself ∙ ap after same ∙ e)))
    | inr ne ↦ best.smallest q lt (sym (run.other q ne) ∙ e)
  ];
}
  where
    apart : p ≡ b → ⊥
    apart e = omega (arith, ap before e, best.has)

    ap_le : (q : ℕ) → p ≡ q → after q ≤ most
    ap_le q e = omega (arith, run.itself, ap after e)

-- the best of all pixels is the background
pub best_is : (ps : List ℕ) (count : ℕ → ℕ) (b most : ℕ) → ((q : ℕ) → count q ≡ times q ps) → 0 < length ps → IsBestOf count b most → b ≡ background_of ps
best_is ps count b most each some best = omega (arith, one, two)
  where
    found : IsBackground ps (background_of ps)
    found = finds_the_background ps some

    even : times b ps ≡ times (background_of ps) ps
    even = omega (arith, found.most_frequent b, best.frequent (background_of ps), best.has, each b, each (background_of ps))

    one : background_of ps ≤ b
    one = found.smallest b even

    two : b ≤ background_of ps
    two = best.smallest (background_of ps) (omega (arith, found.stands_there, best.frequent (background_of ps), each (background_of ps))) (omega (arith, even, best.has, each b, each (background_of ps)))

-- ---- a row that stands there so many times

pub more_of_row : (row : List ℕ) (s n rows q old now : ℕ) → s < length row → s + n ≤ length row → n ≡ stretch row s → now ≡ old + rows * times q (take s row)
    → (after : ℕ) → ((get_or row s 0 ≡ q) → after ≡ now + rows * n) → ((get_or row s 0 ≡ q → ⊥) → after ≡ now) → after ≡ old + rows * times q (take (s + n) row)
more_of_row row s n rows q old now inside within e so_far after here there =
    let run = run_counted row s n inside within e in
    elim (cases_eq (get_or row s 0) q) [
      | inl same ↦
          let more : times q (take (s + n) row) ≡ times q (take s row) + n =
          ap (λ (t : ℕ). times t (take (s + n) row)) (sym same) ∙ run.itself ∙ ap (λ (t : ℕ). times t (take s row) + n) same in
          here same ∙ ap (λ (t : ℕ). t + rows * n) so_far ∙ regroup (times q (take s row)) (times q (take (s + n) row)) more
      | inr apart ↦ there apart ∙ so_far ∙ ap (λ (t : ℕ). old + rows * t) (sym (run.other q apart))
    ]
  where
    regroup : (t u : ℕ) → u ≡ t + n → old + rows * t + rows * n ≡ old + rows * u
    regroup t u f = let d : rows * (t + n) ≡ rows * t + rows * n = mul-add rows t n in omega (arith, d, ap (λ (k : ℕ). rows * k) f)

-- rows that are alike
pub rows_alike : (w h : ℕ) (ps : List ℕ) (y n q : ℕ) → y + n ≤ h → ((k : ℕ) → k < n → row_at (rows_of w h ps) (y + k) ≡ row_at (rows_of w h ps) y)
    → times q (take ((y + n) * w) ps) ≡ times q (take (y * w) ps) + n * times q (row_at (rows_of w h ps) y)
rows_alike w h ps y zero q within alike = ap (λ (k : ℕ). times q (take (k * w) ps)) (add-zero y) ∙ (let z : 0 * times q (row_at (rows_of w h ps) y) ≡ 0 = zero-mul (times q (row_at (rows_of w h ps) y)) in omega (arith, z))
rows_alike w h ps y (suc n) q within alike =
    let before = rows_alike w h ps y n q (omega arith) (λ k lt. alike k (omega (arith, lt))) in
    let at : (y + suc n) * w ≡ (y + n) * w + w = ap (λ (k : ℕ). k * w) (let e : y + suc n ≡ suc (y + n) = omega arith in e) ∙ suc-mul (y + n) w in
    let part : times q (take ((y + n) * w + w) ps) ≡ times q (take ((y + n) * w) ps) + times q (take w (drop ((y + n) * w) ps)) =
    ap (times q) (take-add ((y + n) * w) w ps) ∙ sum_by-append (λ (r : ℕ). cond {A = ℕ} (eqb r q) 1 0) (take ((y + n) * w) ps) (take w (drop ((y + n) * w) ps)) in
    let row : times q (take w (drop ((y + n) * w) ps)) ≡ times q (row_at (rows_of w h ps) y) =
    ap (times q) (sym (row_is w h ps (y + n) (omega arith)) ∙ alike n (omega arith)) in
    ap (λ (k : ℕ). times q (take k ps)) at ∙ omega (arith, part, row, before, suc-mul n (times q (row_at (rows_of w h ps) y)))

-- in some places more
pub times_more : (ps : List ℕ) (p s n : ℕ) → times p (take (s + n) ps) ≡ times p (take s ps) + times p (take n (drop s ps))
times_more ps p s n = ap (times p) (take-add s n ps) ∙ sum_by-append (λ (r : ℕ). cond {A = ℕ} (eqb r p) 1 0) (take s ps) (take n (drop s ps))

pub times_few : (p : ℕ) (ps : List ℕ) → times p ps ≤ length ps
times_few p ps = count_by-le-length (λ r. eqb r p) ps

-- two pixels don't stand more often than there are places
one_place : (p q x : ℕ) → (p ≡ q → ⊥) → cond {A = ℕ} (eqb x p) 1 0 + cond {A = ℕ} (eqb x q) 1 0 ≤ 1
one_place p q x ne =
    elim (eqb_tells x p) [
      | inl a ↦ elim (eqb_tells x q) [
        | inl b ↦ absurd (ne (sym a.1 ∙ b.1))
        | inr b ↦ rw (a.0, b.0) (omega arith)
      ]
      | inr a ↦ elim (eqb_tells x q) [
        | inl b ↦ rw (a.0, b.0) (omega arith)
        | inr b ↦ rw (a.0, b.0) (omega arith)
      ]
    ]

two_apart : (p q : ℕ) → (p ≡ q → ⊥) → (ps : List ℕ) → times p ps + times q ps ≤ length ps
two_apart p q ne [] = omega arith
two_apart p q ne (x ∷ ps) =
    omega (arith, two_apart p q ne ps, one_place p q x ne, sum_by-cons (λ (r : ℕ). cond {A = ℕ} (eqb r p) 1 0) x ps, sum_by-cons (λ (r : ℕ). cond {A = ℕ} (eqb r q) 1 0) x ps)

-- what has more than half of the places is the background
pub majority : (ps : List ℕ) (p : ℕ) → 0 < length ps → length ps / 2 < times p ps → p ≡ background_of ps
majority ps p some most = elim (cases_eq p (background_of ps)) [
  | inl e ↦ e
  | inr ne ↦ absurd (omega (arith, two_apart p (background_of ps) ne ps, (finds_the_background ps some).most_frequent p))
]

-- nor do three
third_place : (p q r x : ℕ) → (p ≡ q → ⊥) → (p ≡ r → ⊥) → (q ≡ r → ⊥) → cond {A = ℕ} (eqb x p) 1 0 + cond {A = ℕ} (eqb x q) 1 0 + cond {A = ℕ} (eqb x r) 1 0 ≤ 1
third_place p q r x pq pr qr =
    elim (eqb_tells x r) [
      | inl a ↦ elim (eqb_tells x p) [
        | inl b ↦ absurd (pr (sym b.1 ∙ a.1))
        | inr b ↦ elim (eqb_tells x q) [
          | inl d ↦ absurd (qr (sym d.1 ∙ a.1))
          | inr d ↦ rw (a.0, b.0, d.0) (omega arith)
        ]
      ]
      | inr a ↦ let two = one_place p q x pq in rw a.0 (omega (arith, two))
    ]

three_apart : (p q r : ℕ) → (p ≡ q → ⊥) → (p ≡ r → ⊥) → (q ≡ r → ⊥) → (ps : List ℕ) → times p ps + times q ps + times r ps ≤ length ps
three_apart p q r pq pr qr [] = omega arith
three_apart p q r pq pr qr (x ∷ ps) =
    omega (
      arith,
      three_apart p q r pq pr qr ps,
      third_place p q r x pq pr qr,
      sum_by-cons (λ (t : ℕ). cond {A = ℕ} (eqb t p) 1 0) x ps,
      sum_by-cons (λ (t : ℕ). cond {A = ℕ} (eqb t q) 1 0) x ps,
      sum_by-cons (λ (t : ℕ). cond {A = ℕ} (eqb t r) 1 0) x ps,
    )

-- the background is one of two pixels that have enough places
one_of_two : (ps : List ℕ) (p q : ℕ) → 0 < length ps → (p ≡ q → ⊥) → length ps < times p ps + times q ps + max (times p ps) (times q ps)
    → (p ≡ background_of ps) ⊎ (q ≡ background_of ps)
one_of_two ps p q some ne most = elim (cases_eq p (background_of ps)) [
  | inl e ↦ inl e
  | inr np ↦ elim (cases_eq q (background_of ps)) [
    | inl e ↦ inr e
    | inr nq ↦
        let found = finds_the_background ps some in
        absurd (omega (arith, three_apart p q (background_of ps) ne np nq ps, found.most_frequent p, found.most_frequent q, most))
  ]
]

pub first_of_two : (ps : List ℕ) (p q : ℕ) → 0 < length ps → (p ≡ q → ⊥) → length ps < times p ps + times q ps + max (times p ps) (times q ps)
    → (times q ps < times p ps) ⊎ ((times q ps ≡ times p ps) × (p < q)) → p ≡ background_of ps
first_of_two ps p q some ne most better = elim (one_of_two ps p q some ne most) [
  | inl e ↦ e
  | inr e ↦
      let found = finds_the_background ps some in
      let same = ap (λ (t : ℕ). times t ps) e in
      elim better [
        | inl more ↦ absurd (omega (arith, more, same, found.most_frequent p))
        | inr tie ↦ absurd (omega (arith, tie.0, tie.1, e, found.smallest p (omega (arith, tie.0, same))))
      ]
]

pub second_of_two : (ps : List ℕ) (p q : ℕ) → 0 < length ps → (p ≡ q → ⊥) → length ps < times p ps + times q ps + max (times p ps) (times q ps)
    → times p ps ≤ times q ps → (times q ps ≡ times p ps → q ≤ p) → q ≡ background_of ps
second_of_two ps p q some ne most le tie = elim (one_of_two ps p q some ne most) [
  | inr e ↦ e
  | inl e ↦
      let found = finds_the_background ps some in
      let same = ap (λ (t : ℕ). times t ps) e in
      let even : times q ps ≡ times p ps = omega (arith, le, same, found.most_frequent q) in
      omega (arith, e, tie even, found.smallest q (omega (arith, even, same)))
]
