-- The list of subrectangles is in order.
use Rattle.std.proofs.Common.{◌≡◌, ℕ, zero, suc, ◌+◌, ◌-◌, ◌<◌, inl, inr, Bool, true, false, cond, List, [], ◌∷◌, ◌++◌, length, get_or, Contains, AllPairs, refl, sym, ap, subst, ◌∙◌, arith, length-append, append-nil}
use Rattle.std.specs.List.{flat_map, range_with_len}
use Rattle.std.proofs.lemmas.Bool.{cases_lt}
use Rattle.std.proofs.lemmas.List.{get_or_append_left}
use Rattle.std.proofs.Math.Seq.{get_or-append_right}
use Rattle.subrectangles.specs.declared.Subrectangle.{Subrectangle}
use Rattle.subrectangles.specs.Subrectangles.{begins_subrectangle, subrectangle_from, subrectangles_in, row_at, IsBefore, ListsInOrder}
use Rattle.subrectangles.specs.Listed.{flat_cases, kept_cases, range_cases, not_in_none, cases_of}
use Rattle.subrectangles.specs.Scans.{found_before, one_more, row_more}

at_place : {X : Type 0} (xs : List X) (k : ℕ) (d : X) → k < length xs → Contains xs (get_or xs k d)
at_place [] k d lt = absurd (omega arith)
at_place (x ∷ xs) zero d lt = (0, omega arith, refl)
at_place (x ∷ xs) (suc k) d lt = let r = at_place xs k d (omega arith) in (suc r.0, omega (arith, r.1), r.2)

pairs_append : {X : Type 0} (R : X → X → Type 0) (xs ys : List X) → AllPairs R xs → AllPairs R ys → ((x y : X) → Contains xs x → Contains ys y → R x y) → AllPairs R (xs ++ ys)
pairs_append {X} R xs ys f g across i j d lt below =
    elim (cases_lt j (length xs)) [
      | inl left ↦
          subst (λ (t : X). R t (get_or (xs ++ ys) j d)) (sym (get_or_append_left xs ys d i (omega arith)))
          (subst (λ (t : X). R (get_or xs i d) t) (sym (get_or_append_left xs ys d j left)) (f i j d lt left))
      | inr right ↦
          subst (λ (t : X). R (get_or (xs ++ ys) i d) t) (sym (get_or-append_right xs ys j d right))
          (elim (cases_lt i (length xs)) [
            | inl low ↦ subst (λ (t : X). R t (get_or ys (j - length xs) d)) (sym (get_or_append_left xs ys d i low))
                (across (get_or xs i d) (get_or ys (j - length xs) d) (at_place xs i d low) (at_place ys (j - length xs) d (omega (arith, length-append xs ys))))
            | inr high ↦ subst (λ (t : X). R t (get_or ys (j - length xs) d)) (sym (get_or-append_right xs ys i d high))
                (g (i - length xs) (j - length xs) d (omega arith) (omega (arith, length-append xs ys)))
          ])
    ]

pairs_none : {X : Type 0} (R : X → X → Type 0) → AllPairs R []
pairs_none R i j d lt below = absurd (omega arith)

pairs_one : {X : Type 0} (R : X → X → Type 0) (x : X) → AllPairs R (x ∷ [])
pairs_one R x i j d lt below = absurd (omega arith)

-- a subrectangle of a row begins there
record InRow (y x : ℕ) (s : Subrectangle) : Type 0 where
  row : s.y ≡ y
  place : s.x < x

in_row : (b : ℕ) (rows : List (List ℕ)) (y x : ℕ) (s : Subrectangle) → Contains (found_before b rows y x) s → InRow y x s
in_row b rows y x s c =
    let k = kept_cases (begins_subrectangle b rows y) (subrectangle_from rows y) (range_with_len 0 x) s c in
    let within = range_cases 0 x k.from k.one in
    subst (λ (t : Subrectangle). InRow y x t) k.gives (record { row = refl; place = omega (arith, within.1) })

one_more_in_order : (b : ℕ) (rows : List (List ℕ)) (y x : ℕ) (t : Bool) → AllPairs IsBefore (found_before b rows y x)
    → AllPairs IsBefore (found_before b rows y x ++ cond t (subrectangle_from rows y x ∷ []) [])
one_more_in_order b rows y x true before =
    pairs_append IsBefore (found_before b rows y x) (subrectangle_from rows y x ∷ []) before (pairs_one IsBefore (subrectangle_from rows y x))
    (λ s t c k. elim (cases_of (subrectangle_from rows y x) [] t k) [
      | inl e ↦ let r = in_row b rows y x s c in subst (λ (u : Subrectangle). IsBefore s u) e (inr (r.row, r.place))
      | inr k ↦ absurd (not_in_none t k)
    ])
one_more_in_order b rows y x false before = subst (λ (t : List Subrectangle). AllPairs IsBefore t) (sym (append-nil (found_before b rows y x))) before

row_in_order : (b : ℕ) (rows : List (List ℕ)) (y x : ℕ) → AllPairs IsBefore (found_before b rows y x)
row_in_order b rows y zero = pairs_none IsBefore
row_in_order b rows y (suc x) =
    subst (λ (t : List Subrectangle). AllPairs IsBefore t) (sym (ap (found_before b rows y) (let e : suc x ≡ x + 1 = omega arith in e) ∙ one_more b rows y x))
    (one_more_in_order b rows y x (begins_subrectangle b rows y x) (row_in_order b rows y x))

rows_in_order : (b : ℕ) (rows : List (List ℕ)) (n : ℕ) → AllPairs IsBefore (flat_map (subrectangles_in b rows) (range_with_len 0 n))
rows_in_order b rows zero = pairs_none IsBefore
rows_in_order b rows (suc n) =
    subst (λ (t : List Subrectangle). AllPairs IsBefore t)
    (sym (ap (λ (k : ℕ). flat_map (subrectangles_in b rows) (range_with_len 0 k)) (let e : suc n ≡ n + 1 = omega arith in e) ∙ row_more (subrectangles_in b rows) n))
    (pairs_append IsBefore (flat_map (subrectangles_in b rows) (range_with_len 0 n)) (subrectangles_in b rows n) (rows_in_order b rows n) (row_in_order b rows n (length (row_at rows n)))
    (λ s t c k. inl (above s t c k)))
  where
    above : (s t : Subrectangle) → Contains (flat_map (subrectangles_in b rows) (range_with_len 0 n)) s → Contains (subrectangles_in b rows n) t → s.y < t.y
    above s t c k =
        let from = flat_cases (subrectangles_in b rows) (range_with_len 0 n) s c in
        let within = range_cases 0 n from.from from.one in
        let one = in_row b rows from.from (length (row_at rows from.from)) s from.gives in
        let other = in_row b rows n (length (row_at rows n)) t k in
        omega (arith, within.1, one.row, other.row)

pub lists_in_order : ListsInOrder
lists_in_order rows b = rows_in_order b rows (length rows)
