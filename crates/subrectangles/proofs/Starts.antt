-- Where the runs of a row begin, found place by place.
use Rattle.std.proofs.Common.{◌≡◌, ℕ, ◌+◌, ◌-◌, ◌<◌, ◌≤◌, inl, inr, true, false, eqb, List, length, get_or, set, refl, sym, ap, ◌∙◌, subst, arith}
use Rattle.std.proofs.lemmas.Bool.{cases_lt}
use Rattle.std.proofs.lemmas.Bool.Decides.{eqb_tells}
use Rattle.std.proofs.lemmas.List.{get_or-set_same, get_or-set_other}
use Rattle.subrectangles.specs.Subrectangles.{stretch}
use Rattle.subrectangles.specs.Starts.{AreRuns, Found}
use Rattle.subrectangles.specs.Scans.{stretch_is}

set_here : (starts : List ℕ) (i x : ℕ) → i < length starts → get_or (set starts i x) i 0 ≡ x
set_here starts i x lt = get_or-set_same starts i x 0 lt

set_before : (starts : List ℕ) (i x k : ℕ) → k < i → get_or (set starts i x) k 0 ≡ get_or starts k 0
set_before starts i x k lt = get_or-set_other starts i k x 0 (λ e. omega (arith, e))

-- the place x is written behind the starts, which counts only if a run begins there
found_same : (row starts : List ℕ) (count x : ℕ) → Found row starts count x → count < length starts → x < length row → get_or row (x - 1) 0 ≡ get_or row x 0
    → Found row (set starts count x) count (x + 1)
found_same row starts count x f room lt e = record {
  some = f.some;
  few = omega (arith, f.few);
  within = omega arith;
  first = before 0 f.some ∙ f.first;
  inside = λ k le. omega (arith, before k le, f.inside k le);
  grows = λ k le. omega (arith, before k (omega arith), before (k + 1) le, f.grows k le);
  steps = λ k le. before (k + 1) le ∙ f.steps k le ∙ ap (λ (s : ℕ). s + stretch row s) (sym (before k (omega arith)));
  same = λ k le below. same k (omega (arith, le, last)) below ∙ ap (λ (s : ℕ). get_or row s 0) (sym last);
}
  where
    before : (k : ℕ) → k < count → get_or (set starts count x) k 0 ≡ get_or starts k 0
    before k less = set_before starts count x k less

    start : ℕ
    start = get_or starts (count - 1) 0

    last : get_or (set starts count x) (count - 1) 0 ≡ start
    last = before (count - 1) (omega (arith, f.some))

    low : start < x
    low = f.inside (count - 1) (omega (arith, f.some))

    same : (k : ℕ) → start ≤ k → k < x + 1 → get_or row k 0 ≡ get_or row start 0
    same k le below = elim (cases_lt k x) [
      | inl less ↦ f.same k le less
      | inr more ↦ ap (λ (i : ℕ). get_or row i 0) (let q : k ≡ x = omega arith in q) ∙ sym e ∙ f.same (x - 1) (omega (arith, low)) (omega (arith, low))
    ]

-- the last run ends at x
ends : (row starts : List ℕ) (count x : ℕ) → Found row starts count x → (x < length row → get_or row (x - 1) 0 ≡ get_or row x 0 → ⊥)
    → x ≡ get_or starts (count - 1) 0 + stretch row (get_or starts (count - 1) 0)
ends row starts count x f apart =
    sym at ∙ ap (λ (n : ℕ). start + n)
    (stretch_is row start (x - start) (omega (arith, at, f.within)) (λ k le lt. f.same k le (omega (arith, at, lt)))
    (λ lt q. apart (omega (arith, at, lt)) (f.same (x - 1) (omega (arith, low)) (omega (arith, low)) ∙ sym q ∙ ap (λ (i : ℕ). get_or row i 0) at)))
  where
    start : ℕ
    start = get_or starts (count - 1) 0

    low : start < x
    low = f.inside (count - 1) (omega (arith, f.some))

    at : start + (x - start) ≡ x
    at = omega (arith, low)

found_more : (row starts : List ℕ) (count x : ℕ) → Found row starts count x → count < length starts → x < length row → (get_or row (x - 1) 0 ≡ get_or row x 0 → ⊥)
    → Found row (set starts count x) (count + 1) (x + 1)
found_more row starts count x f room lt ne = record {
  some = omega arith;
  few = omega (arith, f.few);
  within = omega arith;
  first = before 0 f.some ∙ f.first;
  inside = λ k le. elim (cases_lt k count) [
    | inl less ↦ omega (arith, before k less, f.inside k less)
    | inr more ↦ omega (arith, here k (omega arith))
  ];
  grows = λ k le. elim (cases_lt (k + 1) count) [
    | inl less ↦ omega (arith, before k (omega arith), before (k + 1) less, f.grows k less)
    | inr more ↦ omega (arith, before k (omega arith), here (k + 1) (omega arith), f.inside k (omega arith))
  ];
  steps = λ k le. elim (cases_lt (k + 1) count) [
    | inl less ↦ before (k + 1) less ∙ f.steps k less ∙ ap (λ (s : ℕ). s + stretch row s) (sym (before k (omega arith)))
    | inr more ↦
        here (k + 1) (omega arith) ∙ ends row starts count x f (λ q. ne)
        ∙ ap (λ (s : ℕ). s + stretch row s) (ap (λ (i : ℕ). get_or starts i 0) (let q : count - 1 ≡ k = omega arith in q) ∙ sym (before k (omega arith)))
  ];
  same = λ k le below. ap (λ (i : ℕ). get_or row i 0) (omega_eq k le below);
}
  where
    before : (k : ℕ) → k < count → get_or (set starts count x) k 0 ≡ get_or starts k 0
    before k less = set_before starts count x k less

    here : (k : ℕ) → k ≡ count → get_or (set starts count x) k 0 ≡ x
    here k e = ap (λ (i : ℕ). get_or (set starts count x) i 0) e ∙ set_here starts count x room

    omega_eq : (k : ℕ) → get_or (set starts count x) (count + 1 - 1) 0 ≤ k → k < x + 1 → k ≡ get_or (set starts count x) (count + 1 - 1) 0
    omega_eq k le below = omega (arith, here (count + 1 - 1) (omega arith))

pub found_step : (row starts : List ℕ) (count x more : ℕ) → Found row starts count x → count < length starts → x < length row
    → (eqb (get_or row (x - 1) 0) (get_or row x 0) ≡ true → more ≡ 0) → (eqb (get_or row (x - 1) 0) (get_or row x 0) ≡ false → more ≡ 1)
    → Found row (set starts count x) (count + more) (x + 1)
found_step row starts count x more f room lt none one = elim (eqb_tells (get_or row (x - 1) 0) (get_or row x 0)) [
  | inl q ↦ subst (λ (n : ℕ). Found row (set starts count x) n (x + 1)) (let e : count ≡ count + more = omega (arith, none q.0) in e) (found_same row starts count x f room lt q.1)
  | inr q ↦ subst (λ (n : ℕ). Found row (set starts count x) n (x + 1)) (let e : count + 1 ≡ count + more = omega (arith, one q.0) in e) (found_more row starts count x f room lt q.1)
]

-- at the row's end the last run ends too
pub found_all : (row starts : List ℕ) (count : ℕ) → Found row starts count (length row) → count < length starts → AreRuns row (set starts count (length row)) count
found_all row starts count f room = record {
  first = before 0 f.some ∙ f.first;
  last = here count refl;
  inside = λ k less. elim (cases_lt (k + 1) count) [
    | inl le ↦ omega (arith, before k less, before (k + 1) le, f.grows k le)
    | inr more ↦ omega (arith, before k less, here (k + 1) (omega arith), f.inside k less)
  ];
  within = λ k le. elim (cases_lt k count) [
    | inl less ↦ omega (arith, before k less, f.inside k less)
    | inr more ↦ omega (arith, here k (omega arith))
  ];
  steps = λ k less. elim (cases_lt (k + 1) count) [
    | inl le ↦ before (k + 1) le ∙ f.steps k le ∙ ap (λ (s : ℕ). s + stretch row s) (sym (before k less))
    | inr more ↦
        here (k + 1) (omega arith) ∙ ends row starts count (length row) f (λ q. absurd (omega (arith, q)))
        ∙ ap (λ (s : ℕ). s + stretch row s) (ap (λ (i : ℕ). get_or starts i 0) (let q : count - 1 ≡ k = omega arith in q) ∙ sym (before k less))
  ];
  few = f.few;
}
  where
    before : (k : ℕ) → k < count → get_or (set starts count (length row)) k 0 ≡ get_or starts k 0
    before k less = set_before starts count (length row) k less

    here : (k : ℕ) → k ≡ count → get_or (set starts count (length row)) k 0 ≡ length row
    here k e = ap (λ (i : ℕ). get_or (set starts count (length row)) i 0) e ∙ set_here starts count (length row) room

-- pixels that go on with the last run begin none
pub found_far : (row starts : List ℕ) (count x far : ℕ) → Found row starts count x → x ≤ far → far ≤ length row → ((k : ℕ) → x ≤ k → k < far → get_or row k 0 ≡ get_or row (x - 1) 0)
    → Found row starts count far
found_far row starts count x far f on within alike = record {
  some = f.some;
  few = omega (arith, f.few);
  within = within;
  first = f.first;
  grows = f.grows;
  steps = f.steps;
  inside = λ k le. omega (arith, f.inside k le);
  same = λ k le below. elim (cases_lt k x) [
    | inl less ↦ f.same k le less
    | inr more ↦ alike k more below ∙ f.same (x - 1) (omega (arith, low)) (omega (arith, low))
  ];
}
  where
    low : get_or starts (count - 1) 0 < x
    low = f.inside (count - 1) (omega (arith, f.some))

-- the first run begins at the row's first place
pub found_first : (row starts : List ℕ) → 0 < length row → get_or starts 0 0 ≡ 0 → Found row starts 1 1
found_first row starts some first = record {
  some = omega arith;
  few = omega arith;
  within = some;
  first = first;
  inside = λ k le. omega (arith, ap (λ (i : ℕ). get_or starts i 0) (let q : k ≡ 0 = omega arith in q), first);
  grows = λ k le. absurd (omega (arith, le));
  steps = λ k le. absurd (omega (arith, le));
  same = λ k le below. ap (λ (i : ℕ). get_or row i 0) (let q : k ≡ get_or starts 0 0 = omega (arith, first, below) in q);
}
