-- The list has the subrectangles and nothing else.
use Rattle.std.proofs.Common.{◌≡◌, ℕ, zero, suc, ◌+◌, ◌<◌, ◌≤◌, ◌⊎◌, inl, inr, Bool, true, false, cond, List, [], ◌∷◌, length, map, filter, Contains, refl, subst, arith}
use Rattle.std.specs.List.{flat_map, range_with_len}
use Rattle.std.proofs.lemmas.Bool.{cases_lt}
use Rattle.std.proofs.lemmas.List.Elements.{Contains-append_left, Contains-append_right, Contains-append_cases}
use Rattle.subrectangles.specs.declared.Subrectangle.{Subrectangle}
use Rattle.subrectangles.specs.Subrectangles.{IsSubrectangle, begins_subrectangle, subrectangle_from, subrectangles_in, subrectangles, row_at, ListsTheSubrectangles}
use Rattle.subrectangles.specs.Runs.{begins_there, subrectangle_from_is}

pub head_of : {X : Type 0} (x : X) (xs : List X) → Contains (x ∷ xs) x
head_of x xs = (0, omega arith, refl)

pub tail_of : {X : Type 0} (y : X) (xs : List X) (x : X) → Contains xs x → Contains (y ∷ xs) x
tail_of y xs x (k, lt, e) = (suc k, omega arith, e)

pub cases_of : {X : Type 0} (y : X) (xs : List X) (x : X) → Contains (y ∷ xs) x → (y ≡ x) ⊎ Contains xs x
cases_of y xs x (zero, lt, e) = inl e
cases_of y xs x (suc k, lt, e) = inr (k, omega arith, e)

pub not_in_none : {X : Type 0} (x : X) → Contains [] x → ⊥
not_in_none x (k, lt, e) = omega arith

pub record FromEach {A X : Type 0} (f : A → List X) (ks : List A) (x : X) : Type 0 where
  pub from : A
  pub one : Contains ks from
  pub gives : Contains (f from) x

pub flat_cases : {A X : Type 0} (f : A → List X) (ks : List A) (x : X) → Contains (flat_map f ks) x → FromEach f ks x
flat_cases f [] x h = absurd (not_in_none x h)
flat_cases f (a ∷ ks) x h =
    elim (Contains-append_cases (f a) (flat_map f ks) x h) [
      | inl g ↦ record { from = a; one = head_of a ks; gives = g }
      | inr g ↦ later (flat_cases f ks x g)
    ]
  where
    later : FromEach f ks x → FromEach f (a ∷ ks) x
    later r = record { from = r.from; one = tail_of a ks r.from r.one; gives = r.gives }

flat_has : {A X : Type 0} (f : A → List X) (ks : List A) (a : A) (x : X) → Contains ks a → Contains (f a) x → Contains (flat_map f ks) x
flat_has f [] a x h g = absurd (not_in_none a h)
flat_has {X} f (b ∷ ks) a x h g =
    let more = flat_has f ks a x in
    elim (cases_of b ks a h) [
      | inl e ↦ Contains-append_left (f b) (flat_map f ks) x (rw e g)
      | inr q ↦ Contains-append_right (f b) (flat_map f ks) x (more q g)
    ]

pub record FromOne {A X : Type 0} (p : A → Bool) (g : A → X) (ks : List A) (x : X) : Type 0 where
  pub from : A
  pub one : Contains ks from
  pub passes : p from ≡ true
  pub gives : g from ≡ x

kept_step : {A X : Type 0} (p : A → Bool) (g : A → X) (a : A) (ks : List A) (x : X) (t : Bool) → p a ≡ t → (Contains (map g (filter p ks)) x → FromOne p g ks x)
    → Contains (map g (cond t (a ∷ filter p ks) (filter p ks))) x → FromOne p g (a ∷ ks) x
kept_step p g a ks x true e more c =
    elim (cases_of (g a) (map g (filter p ks)) x c) [
      | inl q ↦ record { from = a; one = head_of a ks; passes = e; gives = q }
      | inr q ↦ let r = more q in record { from = r.from; one = tail_of a ks r.from r.one; passes = r.passes; gives = r.gives }
    ]
kept_step p g a ks x false e more c = let r = more c in record { from = r.from; one = tail_of a ks r.from r.one; passes = r.passes; gives = r.gives }

pub kept_cases : {A X : Type 0} (p : A → Bool) (g : A → X) (ks : List A) (x : X) → Contains (map g (filter p ks)) x → FromOne p g ks x
kept_cases p g [] x h = absurd (not_in_none x h)
kept_cases p g (a ∷ ks) x h = kept_step p g a ks x (p a) refl (kept_cases p g ks x) h

kept_has : {A X : Type 0} (p : A → Bool) (g : A → X) (ks : List A) (a : A) → p a ≡ true → Contains ks a → Contains (map g (filter p ks)) (g a)
kept_has p g [] a e h = absurd (not_in_none a h)
kept_has p g (b ∷ ks) a e h =
    let more = kept_has p g ks a e in
    elim (cases_of b ks a h) [
      | inl q ↦ rw (q, e) (head_of (g a) (map g (filter p ks)))
      | inr q ↦ kept_more (p b) (more q)
    ]
  where
    kept_more : (t : Bool) → Contains (map g (filter p ks)) (g a) → Contains (map g (cond t (b ∷ filter p ks) (filter p ks))) (g a)
    kept_more true c = tail_of (g b) (map g (filter p ks)) (g a) c
    kept_more false c = c

pub range_cases : (a n k : ℕ) → Contains (range_with_len a n) k → (a ≤ k) × (k < a + n)
range_cases a zero k h = absurd (not_in_none k h)
range_cases a (suc n) k h =
    let more = range_cases (a + 1) n k in
    elim (cases_of a (range_with_len (a + 1) n) k h) [
      | inl e ↦ (omega arith, omega arith)
      | inr q ↦ let r = more q in (omega arith, omega arith)
    ]

range_has : (a n k : ℕ) → a ≤ k → k < a + n → Contains (range_with_len a n) k
range_has a zero k h g = absurd (omega arith)
range_has a (suc n) k h g =
    let more = range_has (a + 1) n k in
    elim (cases_lt a k) [
      | inl lt ↦ tail_of a (range_with_len (a + 1) n) k (more (omega arith) (omega arith))
      | inr le ↦ rw (let e : k ≡ a = omega arith in e) (head_of a (range_with_len (a + 1) n))
    ]

-- ---- the list

listed : (rows : List (List ℕ)) (b : ℕ) (s : Subrectangle) → IsSubrectangle rows b s → Contains (subrectangles b rows) s
listed rows b s h =
    let k = begins_there b rows s h in
    let inside : Contains (subrectangles_in b rows s.y) (subrectangle_from rows s.y s.x) =
    kept_has (begins_subrectangle b rows s.y) (subrectangle_from rows s.y) (range_with_len 0 (length (row_at rows s.y))) s.x k.begins
    (range_has 0 (length (row_at rows s.y)) s.x (omega arith) (omega (arith, k.place))) in
    flat_has (subrectangles_in b rows) (range_with_len 0 (length rows)) s.y s (range_has 0 (length rows) s.y (omega arith) (omega (arith, k.row)))
    (subst (λ (t : Subrectangle). Contains (subrectangles_in b rows s.y) t) k.same inside)

no_other : (rows : List (List ℕ)) (b : ℕ) (s : Subrectangle) → Contains (subrectangles b rows) s → IsSubrectangle rows b s
no_other rows b s h =
    let y = flat_cases (subrectangles_in b rows) (range_with_len 0 (length rows)) s h in
    let x = kept_cases (begins_subrectangle b rows y.from) (subrectangle_from rows y.from) (range_with_len 0 (length (row_at rows y.from))) s y.gives in
    let within = range_cases 0 (length rows) y.from y.one in
    subst (λ (t : Subrectangle). IsSubrectangle rows b t) x.gives (subrectangle_from_is b rows y.from x.from (omega (arith, within.1)) x.passes)

pub lists_the_subrectangles : ListsTheSubrectangles
lists_the_subrectangles rows b s = (no_other rows b s, listed rows b s)
