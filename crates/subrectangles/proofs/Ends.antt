-- A row has a run where the pixels at its ends are the one, those beside them aren't, and all between them are.
use Rattle.std.proofs.Common.{◌≡◌, ℕ, ◌+◌, ◌-◌, ◌<◌, ◌≤◌, inl, inr, Bool, true, false, eqb, List, [], ◌∷◌, length, take, drop, get_or, refl, sym, ap, ◌∙◌, arith}
use Rattle.std.proofs.lemmas.Bool.{eq-eqb}
use Rattle.std.proofs.lemmas.Bool.Decides.{eqb_tells}
use Rattle.std.proofs.lemmas.List.{get_or-drop, get_or-take, length-drop, length-take-le}
use Rattle.subrectangles.specs.declared.scan.Run.{Run}
use Rattle.subrectangles.specs.Subrectangles.{HasRun, has_run}
use Rattle.subrectangles.specs.Runs.{has_run_true, has_run_is}
use Rattle.subrectangles.specs.Scans.{unequal}

-- a part of the row has one pixel
pub part : (row : List ℕ) (x n pixel : ℕ) → x + n ≤ length row → ((k : ℕ) → k < length (take (x + n - x) (drop x row)) → get_or (take (x + n - x) (drop x row)) k 0 ≡ pixel)
    → (k : ℕ) → x ≤ k → k < x + n → get_or row k 0 ≡ pixel
part row x n pixel within all k le lt =
    let len : length (take (x + n - x) (drop x row)) ≡ x + n - x = length-take-le (x + n - x) (drop x row) (omega (arith, length-drop x row)) in
    let at : k - x < x + n - x = omega arith in
    ap (λ (i : ℕ). get_or row i 0) (let e : k ≡ x + (k - x) = omega arith in e) ∙ sym (get_or-drop x row (k - x) 0) ∙ sym (get_or-take (x + n - x) (drop x row) (k - x) 0 at)
    ∙ all (k - x) (omega (arith, len))

-- and the other way round
pub whole : (row : List ℕ) (x n pixel : ℕ) → x + n ≤ length row → ((k : ℕ) → x ≤ k → k < x + n → get_or row k 0 ≡ pixel)
    → (k : ℕ) → k < length (take (x + n - x) (drop x row)) → get_or (take (x + n - x) (drop x row)) k 0 ≡ pixel
whole row x n pixel within all k lt =
    let len : length (take (x + n - x) (drop x row)) ≡ x + n - x = length-take-le (x + n - x) (drop x row) (omega (arith, length-drop x row)) in
    let at : k < x + n - x = omega (arith, len, lt) in
    get_or-take (x + n - x) (drop x row) k 0 at ∙ get_or-drop x row k 0 ∙ all (x + k) (omega arith) (omega (arith, at))

-- where what stands before a run and behind it lies
pub record Beside (row : List ℕ) (r : Run) (i j : ℕ) : Type 0 where
  pub some : 0 < r.w
  pub inside : r.x + r.w ≤ length row
  pub before : i ≡ r.x - 1
  pub behind : r.x + r.w < length row → j ≡ r.x + r.w

-- what doesn't fit is counted: the first and the last pixel, and those before the run, at i, and behind it, at j
pub record Misfits (row : List ℕ) (r : Run) (i j first last left right : ℕ) : Type 0 where
  pub first_none : eqb (get_or row r.x 0) r.pixel ≡ true → first ≡ 0
  pub last_none : eqb (get_or row (r.x + r.w - 1) 0) r.pixel ≡ true → last ≡ 0
  pub left_none : eqb r.x 0 ≡ true → left ≡ 0
  pub left_other : eqb r.x 0 ≡ false → eqb (get_or row i 0) r.pixel ≡ false → left ≡ 0
  pub left_one : eqb r.x 0 ≡ false → eqb (get_or row i 0) r.pixel ≡ true → left ≡ 1
  pub right_none : eqb (r.x + r.w) (length row) ≡ true → right ≡ 0
  pub right_other : eqb (r.x + r.w) (length row) ≡ false → eqb (get_or row j 0) r.pixel ≡ false → right ≡ 0
  pub right_one : eqb (r.x + r.w) (length row) ≡ false → eqb (get_or row j 0) r.pixel ≡ true → right ≡ 1

-- a row where all fits has the run
pub has_where : (row : List ℕ) (r : Run) (i j first last left right : ℕ) → Beside row r i j → Misfits row r i j first last left right → first + last + left + right ≡ 0
    → ((k : ℕ) → r.x ≤ k → k < r.x + r.w → get_or row k 0 ≡ r.pixel) → has_run r row ≡ true
has_where row r i j first last left right b m none same = has_run_true (row ∷ []) 0 r has
  where
    before : (x : ℕ) → x + 1 ≡ r.x → get_or row x 0 ≡ r.pixel → ⊥
    before x q w =
        let one = m.left_one (unequal r.x 0 (λ z. omega arith)) (eq-eqb _ _ (ap (λ (k : ℕ). get_or row k 0) (let z : i ≡ x = omega (arith, b.before) in z) ∙ w)) in
        omega (arith, one, none)

    behind : r.x + r.w < length row → get_or row (r.x + r.w) 0 ≡ r.pixel → ⊥
    behind lt w =
        let one = m.right_one (unequal (r.x + r.w) (length row) (λ z. omega arith)) (eq-eqb _ _ (ap (λ (k : ℕ). get_or row k 0) (b.behind lt) ∙ w)) in
        omega (arith, one, none)

    has : HasRun (row ∷ []) 0 r
    has = record { row = omega arith; some = b.some; inside = b.inside; same = same; left = before; right = behind }

pub has_of : (row : List ℕ) (r : Run) → has_run r row ≡ true → HasRun (row ∷ []) 0 r
has_of row r e = has_run_is (row ∷ []) 0 r (omega arith) e

-- and in a row that has it all fits
pub none_where : (row : List ℕ) (r : Run) (i j first last left right : ℕ) → Beside row r i j → Misfits row r i j first last left right → has_run r row ≡ true → first + last + left + right ≡ 0
none_where row r i j first last left right b m e =
    omega (arith, m.first_none (at r.x (omega arith) (omega (arith, b.some))), m.last_none (at (r.x + r.w - 1) (omega (arith, b.some)) (omega (arith, b.some))), before, behind)
  where
    h : HasRun (row ∷ []) 0 r
    h = has_of row r e

    at : (k : ℕ) → r.x ≤ k → k < r.x + r.w → eqb (get_or row k 0) r.pixel ≡ true
    at k le lt = eq-eqb _ _ (h.same k le lt)

    before : left ≡ 0
    before = elim (eqb_tells r.x 0) [
      | inl z ↦ m.left_none z.0
      | inr z ↦ m.left_other z.0 (unequal _ _ (h.left i (omega (arith, b.before, z.1))))
    ]

    behind : right ≡ 0
    behind = elim (eqb_tells (r.x + r.w) (length row)) [
      | inl z ↦ m.right_none z.0
      | inr z ↦
          let lt : r.x + r.w < length row = omega (arith, b.inside, z.1) in
          m.right_other z.0 (unequal _ _ (λ q. h.right lt (ap (λ (k : ℕ). get_or row k 0) (sym (b.behind lt)) ∙ q)))
    ]

pub false_unless : (b : Bool) → (b ≡ true → ⊥) → b ≡ false
false_unless true h = absurd (h refl)
false_unless false h = refl

-- two tests that hold together are one
pub same_tests : (a b : Bool) → (a ≡ true → b ≡ true) → (b ≡ true → a ≡ true) → a ≡ b
same_tests true b f g = sym (f refl)
same_tests false true f g = g refl
same_tests false false f g = refl
