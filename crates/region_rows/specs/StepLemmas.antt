-- One step over two rows: the edge up to which both are the same, and what is left behind it.
use Rattle.std.proofs.Common.{◌≡◌, ℕ, ◌+◌, ◌*◌, ◌≤◌, ◌<◌, Bool, true, false, cond, List, [], ◌∷◌, length, refl, sym, ◌∙◌, ap, subst, arith, Some, None, ◌⊎◌, inl, inr}
use Rattle.std.specs.Prelude.{ℤ, ◌<ℤ◌, ◌≤ℤ◌, int_lt, int_le, slice_get}
use Rattle.std.proofs.lemmas.Int.{ints, by_lt_z}
use Rattle.std.proofs.lemmas.Option.{same_Some}
use Rattle.region_bands.specs.declared.Interval.{Interval}
use Rattle.region_rows.specs.declared.steps.Step.{Step}
use Rattle.region_rows.specs.Rows.{IsRow, row_has}
use Rattle.region_rows.specs.Steps.{edge_of, nearer, next_step, start_of, later}
use Rattle.region_rows.specs.RowLemmas.{some_first, row_tail, none_before, has_inside, has_after, begun}

-- the first interval ends behind x
abbrev pub Ahead : ℤ → List Interval → Type 0
Ahead x [] = Unit {0}
Ahead x (r ∷ rs) = x <ℤ r.to

-- the first interval ends at the edge or behind it
abbrev pub Reaches : ℤ → List Interval → Type 0
Reaches edge [] = Unit {0}
Reaches edge (r ∷ rs) = edge ≤ℤ r.to

-- an edge behind x, up to which the row is the same
pub record IsEdge (x edge : ℤ) (rs : List Interval) : Type 0 where
  pub after : x <ℤ edge
  pub reaches : Reaches edge rs
  pub flat : (z : ℤ) → x ≤ℤ z → z <ℤ edge → row_has rs z ≡ row_has rs x

-- the edge is the first interval's next one
abbrev pub OwnEdge : ℤ → ℤ → List Interval → Type 0
OwnEdge x edge [] = ⊥
OwnEdge x edge (r ∷ rs) = edge ≡ edge_of x r

-- what a step from x on tells of two rows
pub record IsStep (x : ℤ) (a b : List Interval) (s : Step) : Type 0 where
  pub edge_a : IsEdge x s.edge a
  pub edge_b : IsEdge x s.edge b
  pub has_a : s.in_first ≡ row_has a x
  pub has_b : s.in_second ≡ row_has b x
  pub own : OwnEdge x s.edge a ⊎ OwnEdge x s.edge b

not_yet : (r : Interval) (z : ℤ) → z <ℤ r.from → int_le r.from z ≡ false
not_yet r z less = grind (arith, ints)

has_begun : (r : Interval) (z : ℤ) → r.from ≤ℤ z → int_le r.from z ≡ true
has_begun r z more = grind (arith, ints)

own_edge : (r : Interval) (rs : List Interval) (x : ℤ) → IsRow (r ∷ rs) → x <ℤ r.to → IsEdge x (edge_of x r) (r ∷ rs)
own_edge r rs x h ahead = by_lt_z x r.from
    (λ less. let P : Bool → Type 0 = λ b. IsEdge x (cond b r.to r.from) (r ∷ rs) in subst P (sym (not_yet r x less)) (record {
      after = less;
      reaches = let some : r.from <ℤ r.to = some_first r rs h in omega (arith, ints);
      flat = λ z low high. none_before r rs z h high ∙ sym (none_before r rs x h less);
    }))
    (λ more. let P : Bool → Type 0 = λ b. IsEdge x (cond b r.to r.from) (r ∷ rs) in subst P (sym (has_begun r x more)) (record {
      after = ahead;
      reaches = omega (arith, ints);
      flat = λ z low high. has_inside r rs z (omega (arith, ints)) high ∙ sym (has_inside r rs x more ahead);
    }))

pub no_edge : (x e : ℤ) → x <ℤ e → IsEdge x e []
no_edge x e h = record { after = h; reaches = tt; flat = λ z low high. refl }

-- an edge before another is one too
pub nearer_edge : (rs : List Interval) (x e a : ℤ) → IsEdge x e rs → x <ℤ a → a ≤ℤ e → IsEdge x a rs
nearer_edge rs x e a h after near = record {
  after = after;
  reaches = go rs h.reaches;
  flat = λ z low high. h.flat z low (omega (arith, ints));
}
  where
    go : (rs : List Interval) → Reaches e rs → Reaches a rs
    go [] r = tt
    go (q ∷ qs) r = omega (arith, ints, r, near)

pub nearer_is : (a b : ℤ) → ((nearer a b ≡ a) × (a <ℤ b)) ⊎ ((nearer a b ≡ b) × (b ≤ℤ a))
nearer_is a b = by_lt_z a b (λ less. inl (first a b less, less)) (λ more. inr (second a b more, more))
  where
    first : (a b : ℤ) → a <ℤ b → nearer a b ≡ a
    first a b less = let e : int_lt a b ≡ true = grind (arith, ints) in ap (λ t. cond t a b) e

    second : (a b : ℤ) → b ≤ℤ a → nearer a b ≡ b
    second a b more = let e : int_lt a b ≡ false = grind (arith, ints) in ap (λ t. cond t a b) e

pub step_is : (x : ℤ) (a b : List Interval) (s : Step) → IsRow a → IsRow b → Ahead x a → Ahead x b → next_step x (slice_get a 0) (slice_get b 0) ≡ Some s → IsStep x a b s
step_is x [] [] s h k ahead ahead' is = absurd (cc)
step_is x [] (j ∷ js) s h k ahead ahead' is =
    let edge : IsEdge x (edge_of x j) (j ∷ js) = own_edge j js x k ahead' in
    subst (IsStep x [] (j ∷ js)) (same_Some _ s is) (record {
      edge_a = no_edge x (edge_of x j) edge.after;
      edge_b = edge;
      has_a = refl;
      has_b = sym (begun j js x k ahead');
      own = inr refl;
    })
step_is x (i ∷ is) [] s h k ahead ahead' e =
    let edge : IsEdge x (edge_of x i) (i ∷ is) = own_edge i is x h ahead in
    subst (IsStep x (i ∷ is) []) (same_Some _ s e) (record {
      edge_a = edge;
      edge_b = no_edge x (edge_of x i) edge.after;
      has_a = sym (begun i is x h ahead);
      has_b = refl;
      own = inl refl;
    })
step_is x (i ∷ is) (j ∷ js) s h k ahead ahead' e =
    let edge : IsEdge x (edge_of x i) (i ∷ is) = own_edge i is x h ahead in
    let edge' : IsEdge x (edge_of x j) (j ∷ js) = own_edge j js x k ahead' in
    subst (IsStep x (i ∷ is) (j ∷ js)) (same_Some _ s e) (elim (nearer_is (edge_of x i) (edge_of x j)) [
      | inl m ↦ record {
        edge_a = subst (λ n. IsEdge x n (i ∷ is)) (sym m.0) edge;
        edge_b = subst (λ n. IsEdge x n (j ∷ js)) (sym m.0) (nearer_edge (j ∷ js) x (edge_of x j) (edge_of x i) edge' edge.after (omega (arith, ints, m.1)));
        has_a = sym (begun i is x h ahead);
        has_b = sym (begun j js x k ahead');
        own = inl m.0;
      }
      | inr m ↦ record {
        edge_a = subst (λ n. IsEdge x n (i ∷ is)) (sym m.0) (nearer_edge (i ∷ is) x (edge_of x i) (edge_of x j) edge edge'.after m.1);
        edge_b = subst (λ n. IsEdge x n (j ∷ js)) (sym m.0) edge';
        has_a = sym (begun i is x h ahead);
        has_b = sym (begun j js x k ahead');
        own = inr m.0;
      }
    ])

pub no_step : (x : ℤ) (a b : List Interval) → next_step x (slice_get a 0) (slice_get b 0) ≡ None → (a ≡ []) × (b ≡ [])
no_step x [] [] is = (refl, refl)
no_step x [] (j ∷ js) is = absurd (cc)
no_step x (i ∷ is) [] e = absurd (cc)
no_step x (i ∷ is) (j ∷ js) e = absurd (cc)

-- the row begins at n or behind it
pub record IsStart (n : ℤ) (rs : List Interval) : Type 0 where
  pub ahead : Ahead n rs
  pub before : (z : ℤ) → z <ℤ n → row_has rs z ≡ false

start_of_row : (r : Interval) (rs : List Interval) → IsRow (r ∷ rs) → IsStart r.from (r ∷ rs)
start_of_row r rs h = record { ahead = some_first r rs h; before = λ z less. none_before r rs z h less }

pub earlier_start : (rs : List Interval) (n m : ℤ) → IsStart n rs → m ≤ℤ n → IsStart m rs
earlier_start rs n m h less = record { ahead = go rs h.ahead; before = λ z below. h.before z (omega (arith, ints)) }
  where
    go : (rs : List Interval) → Ahead n rs → Ahead m rs
    go [] a = tt
    go (r ∷ rs) a = omega (arith, ints, a, less)

no_start : (n : ℤ) → IsStart n []
no_start n = record { ahead = tt; before = λ z less. refl }

pub starts : (a b : List Interval) → IsRow a → IsRow b → IsStart (start_of (slice_get a 0) (slice_get b 0)) a × IsStart (start_of (slice_get a 0) (slice_get b 0)) b
starts [] [] h k = (no_start _, no_start _)
starts [] (j ∷ js) h k = (no_start j.from, start_of_row j js k)
starts (i ∷ is) [] h k = (start_of_row i is h, no_start i.from)
starts (i ∷ is) (j ∷ js) h k = elim (nearer_is i.from j.from) [
  | inl e ↦ (
    subst (λ n. IsStart n (i ∷ is)) (sym e.0) (start_of_row i is h),
    subst (λ n. IsStart n (j ∷ js)) (sym e.0) (earlier_start (j ∷ js) j.from i.from (start_of_row j js k) (omega (arith, ints, e.1))),
  )
  | inr e ↦ (
    subst (λ n. IsStart n (i ∷ is)) (sym e.0) (earlier_start (i ∷ is) i.from j.from (start_of_row i is h) e.1),
    subst (λ n. IsStart n (j ∷ js)) (sym e.0) (start_of_row j js k),
  )
]

-- ---- what is left behind an edge

-- how many ends of intervals lie behind x
abbrev pub ends_left : ℤ → List Interval → ℕ
ends_left x [] = 0
ends_left x (r ∷ rs) = cond (int_le r.from x) 1 2 + 2 * length rs

pub record IsLater (edge : ℤ) (rs later : List Interval) : Type 0 where
  pub is_row : IsRow later
  pub ahead : Ahead edge later
  pub same : (z : ℤ) → edge ≤ℤ z → row_has later z ≡ row_has rs z
  pub at_most : (x : ℤ) → x ≤ℤ edge → ends_left edge later ≤ ends_left x rs
  pub less : (x : ℤ) → x <ℤ edge → OwnEdge x edge rs → ends_left edge later < ends_left x rs

some_test : (b : Bool) → 1 ≤ cond b 1 2
some_test true = omega arith
some_test false = omega arith

most_test : (b : Bool) → cond b 1 2 ≤ 2
most_test true = omega arith
most_test false = omega arith

pub ends_most : (x : ℤ) (rs : List Interval) → ends_left x rs ≤ 2 * length rs
ends_most x [] = omega arith
ends_most x (r ∷ rs) = omega (arith, most_test (int_le r.from x))

-- a coordinate that is passed by x is passed further on
passed_more : (a x y : ℤ) → x ≤ℤ y → cond (int_le a y) 1 2 ≤ cond (int_le a x) 1 2
passed_more a x y h = by_lt_z x a
    (λ less. let e : int_le a x ≡ false = not_passed a x less in rw e (most_test (int_le a y)))
    (λ more. let e : int_le a x ≡ true = passed a x more in let f : int_le a y ≡ true = passed a y (omega (arith, ints)) in rw (e, f) (omega arith))
  where
    not_passed : (a x : ℤ) → x <ℤ a → int_le a x ≡ false
    not_passed a x less = grind (arith, ints)

    passed : (a x : ℤ) → a ≤ℤ x → int_le a x ≡ true
    passed a x more = grind (arith, ints)

all_ahead : (edge : ℤ) (r : Interval) (rs : List Interval) → IsRow (r ∷ rs) → edge ≤ℤ r.to → Ahead edge rs
all_ahead edge r [] h low = tt
all_ahead edge r (s ∷ rs) h low = let some : s.from <ℤ s.to = some_first s rs h.2 in omega (arith, ints, some, h.1, low)

gone : (edge : ℤ) (r : Interval) (rs : List Interval) → IsRow (r ∷ rs) → edge ≤ℤ r.to → r.to ≤ℤ edge → IsLater edge (r ∷ rs) rs
gone edge r rs h reaches ended = record {
  is_row = row_tail r rs h;
  ahead = all_ahead edge r rs h reaches;
  same = λ z low. sym (has_after r rs z (omega (arith, ints, ended, low)));
  at_most = λ x low. omega (arith, ends_most edge rs);
  less = λ x low own. omega (arith, ends_most edge rs, some_test (int_le r.from x));
}

stays : (edge : ℤ) (r : Interval) (rs : List Interval) → IsRow (r ∷ rs) → edge <ℤ r.to → IsLater edge (r ∷ rs) (r ∷ rs)
stays edge r rs h ahead = record {
  is_row = h;
  ahead = ahead;
  same = λ z low. refl;
  at_most = λ x low. omega (arith, passed_more r.from x edge low);
  less = λ x low own. by_lt_z x r.from
      (λ before.
      let at : edge ≡ r.from = own ∙ ap (λ b. cond b r.to r.from) (not_yet r x before) in
      let e : int_le r.from edge ≡ true = has_begun r edge (omega (arith, ints, at)) in
      let f : int_le r.from x ≡ false = not_yet r x before in rw (e, f) (omega arith))
      (λ more. absurd (no edge r.to ahead (own ∙ ap (λ b. cond b r.to r.from) (has_begun r x more))));
}
  where
    no : (a b : ℤ) → a <ℤ b → a ≡ b → ⊥
    no a b less e = omega (arith, ints, less, e)

pub later_is : (edge : ℤ) (rs : List Interval) → IsRow rs → Reaches edge rs → IsLater edge rs (later edge rs)
later_is edge [] h reaches = record { is_row = tt; ahead = tt; same = λ z low. refl; at_most = λ x low. omega arith; less = λ x low own. absurd own }
later_is edge (r ∷ rs) h reaches = by_lt_z edge r.to
    (λ less. let P : Bool → Type 0 = λ b. IsLater edge (r ∷ rs) (cond b rs (r ∷ rs)) in subst P (sym (after r edge less)) (stays edge r rs h less))
    (λ more. let P : Bool → Type 0 = λ b. IsLater edge (r ∷ rs) (cond b rs (r ∷ rs)) in subst P (sym (ended r edge more)) (gone edge r rs h reaches more))
  where
    after : (r : Interval) (z : ℤ) → z <ℤ r.to → int_le r.to z ≡ false
    after r z less = grind (arith, ints)

    ended : (r : Interval) (z : ℤ) → r.to ≤ℤ z → int_le r.to z ≡ true
    ended r z more = grind (arith, ints)

-- a step leaves fewer ends
pub ends_less : (x : ℤ) (a b : List Interval) (s : Step) → IsRow a → IsRow b → IsStep x a b s → ends_left s.edge (later s.edge a) + ends_left s.edge (later s.edge b) < ends_left x a + ends_left x b
ends_less x a b s h k step =
    let f = later_is s.edge a h step.edge_a.reaches in
    let g = later_is s.edge b k step.edge_b.reaches in
    let after : x <ℤ s.edge = step.edge_a.after in
    let low : x ≤ℤ s.edge = omega (arith, ints, after) in
    elim step.own as (λ _. ends_left s.edge (later s.edge a) + ends_left s.edge (later s.edge b) < ends_left x a + ends_left x b) [
      | inl o ↦ omega (arith, f.less x after o, g.at_most x low)
      | inr o ↦ omega (arith, g.less x after o, f.at_most x low)
    ]
