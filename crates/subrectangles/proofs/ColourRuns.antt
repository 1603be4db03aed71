-- A row of colours whose pixels have a run, and one whose pixels haven't.
use Rattle.std.proofs.Common.{◌≡◌, ℕ, ◌+◌, ◌-◌, ◌<◌, ◌≤◌, true, false, List, [], ◌∷◌, length, map, take, drop, get_or, sym, ap, ◌∙◌, arith}
use Rattle.std.proofs.lemmas.List.{length-map, get_or-map, get_or-drop, get_or-take, length-drop, length-take-le}
use Rattle.subrectangles.specs.declared.scan.Run.{Run}
use Rattle.subrectangles.specs.Subrectangles.{has_run}
use Rattle.subrectangles.specs.Runs.{has_run_true}
use Rattle.subrectangles.proofs.Ends.{has_of, false_unless}

-- a colour of a part, and its place in the row
spot : (row : List ℕ) (x n k : ℕ) → x ≤ k → k < x + n → get_or row k 0 ≡ get_or (take (x + n - x) (drop x row)) (k - x) 0
spot row x n k le lt =
    ap (λ (i : ℕ). get_or row i 0) (let e : k ≡ x + (k - x) = omega arith in e) ∙ sym (get_or-drop x row (k - x) 0)
    ∙ sym (get_or-take (x + n - x) (drop x row) (k - x) 0 (omega arith))

at : (f : ℕ → ℕ) (row : List ℕ) (k : ℕ) → k < length row → get_or (map f row) k 0 ≡ f (get_or row k 0)
at f row k lt = get_or-map f row k 0 0 lt

-- the pixel behind the run is another, where it has the run
pub none_behind : (f : ℕ → ℕ) (r : Run) (row : List ℕ) → r.x + r.w < length row → f (get_or row (r.x + r.w) 0) ≡ r.pixel → has_run r (map f row) ≡ false
none_behind f r row lt e = false_unless _ (λ h. (has_of (map f row) r h).right (omega (arith, lt, length-map row f)) (at f row (r.x + r.w) lt ∙ e))

-- each pixel of a part that has the run is the run's
pub all_of : (f : ℕ → ℕ) (r : Run) (row : List ℕ) → r.x + r.w ≤ length row → has_run r (map f row) ≡ true
    → (j : ℕ) → j < length (take (r.x + r.w - r.x) (drop r.x row)) → f (get_or (take (r.x + r.w - r.x) (drop r.x row)) j 0) ≡ r.pixel
all_of f r row inside h j lt =
    let len : length (take (r.x + r.w - r.x) (drop r.x row)) ≡ r.w = length-take-le (r.x + r.w - r.x) (drop r.x row) (omega (arith, inside, length-drop r.x row)) ∙ (let e : r.x + r.w - r.x ≡ r.w = omega arith in e) in
    let small : j < r.w = omega (arith, len, lt) in
    let k : r.x + j - r.x ≡ j = omega arith in
    ap (λ (i : ℕ). f (get_or (take (r.x + r.w - r.x) (drop r.x row)) i 0)) (sym k) ∙ ap f (sym (spot row r.x r.w (r.x + j) (omega arith) (omega (arith, small))))
    ∙ sym (at f row (r.x + j) (omega (arith, small, inside))) ∙ (has_of (map f row) r h).same (r.x + j) (omega arith) (omega (arith, small))

-- a row has the run where its part has it and what stands beside that has other pixels
pub has_where : (f : ℕ → ℕ) (r : Run) (row : List ℕ) → 0 < r.w → r.x + r.w ≤ length row
    → ((j : ℕ) → j < length (take (r.x + r.w - r.x) (drop r.x row)) → f (get_or (take (r.x + r.w - r.x) (drop r.x row)) j 0) ≡ r.pixel)
    → (0 < r.x → f (get_or row (r.x - 1) 0) ≡ r.pixel → ⊥)
    → (r.x + r.w < length row → f (get_or row (r.x + r.w) 0) ≡ r.pixel → ⊥) → has_run r (map f row) ≡ true
has_where f r row some inside all left right =
    has_run_true (map f row ∷ []) 0 r (record {
      row = omega arith;
      some = some;
      inside = omega (arith, inside, length-map row f);
      same = λ k le lt.
          at f row k (omega (arith, lt, inside)) ∙ ap f (spot row r.x r.w k le lt)
          ∙ all (k - r.x) (omega (arith, le, lt, length-take-le (r.x + r.w - r.x) (drop r.x row) (omega (arith, inside, length-drop r.x row))));
      left = λ x e h. left (omega (arith, e)) (ap (λ (i : ℕ). f (get_or row i 0)) (let q : r.x - 1 ≡ x = omega (arith, e) in q) ∙ sym (at f row x (omega (arith, e, inside))) ∙ h);
      right = λ lt h. let within : r.x + r.w < length row = omega (arith, lt, length-map row f) in right within (sym (at f row (r.x + r.w) within) ∙ h);
    })
