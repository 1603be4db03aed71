-- What rows have behind a column, and the columns that two rows share.
use Rattle.std.proofs.Common.{◌≡◌, ◌≢◌, ℕ, ◌+◌, ◌≤◌, ◌<◌, Bool, true, false, cond, ◌&&◌, List, [], ◌∷◌, length, refl, sym, ◌∙◌, ap, subst, arith, Option, Some, None, ◌⊎◌, inl, inr}
use Rattle.std.specs.Prelude.{ℤ, pos, negsuc, ◌+ℤ◌, ◌*◌, ◌<ℤ◌, ◌≤ℤ◌, int_lt, int_le, ◌||◌, slice_get}
use Rattle.std.proofs.lemmas.Int.{ints, by_lt_z}
use Rattle.std.proofs.lemmas.Option.{same_Some}
use Rattle.region_bands.specs.declared.Interval.{Interval}
use Rattle.region_bands.specs.Bands.{Reading}
use Rattle.region_rows.specs.Rows.{IsRow, row_has}
use Rattle.region_sets.specs.Strips.{nearer}
use Rattle.region_sets.specs.Queries.{ShareColumn}
use Rattle.region_sets.specs.Walks.{behind, ends_by, first_end, intervals_meet, row_end}

pub true_false : true ≡ false → ⊥
true_false e = cc

pub or_none : (a b : Bool) → (a || b) ≡ false → b ≡ false
or_none true b e = absurd (true_false e)
or_none false b e = e

pub and_none : (a : Bool) → (a && false) ≡ false
and_none true = refl
and_none false = refl

pub and_comm : (a b : Bool) → (a && b) ≡ (b && a)
and_comm true true = refl
and_comm true false = refl
and_comm false true = refl
and_comm false false = refl

pub not_true : (b : Bool) → (b ≡ true → ⊥) → b ≡ false
not_true true h = absurd (h refl)
not_true false h = refl

pub none_of : (A : Type 0) (l : List A) → slice_get l 0 ≡ None → l ≡ []
none_of A [] e = refl
none_of A (x ∷ rest) e = absurd (no x e)
  where
    no : (x : A) → Some x ≡ None → ⊥
    no x e = cc

pub first_of_some : (A : Type 0) (l : List A) (x : A) → slice_get l 0 ≡ Some x → (rest : List A) × (l ≡ x ∷ rest)
first_of_some A [] x e = absurd (no e)
  where
    no : None ≡ Some x → ⊥
    no e = cc
first_of_some A (y ∷ rest) x e = (rest, ap (λ u. u ∷ rest) (same_Some y x e))

pub not_empty : (A : Type 0) (x : A) (l rest : List A) → l ≡ x ∷ rest → l ≢ []
not_empty A x l rest is = λ none. no (sym is ∙ none)
  where
    no : x ∷ rest ≡ [] → ⊥
    no e = cc

-- ---- one row

pub some_first : (r : Interval) (rs : List Interval) → IsRow (r ∷ rs) → r.from <ℤ r.to
some_first r [] h = h
some_first r (s ∷ rs) h = h.0

pub row_tail : (r : Interval) (rs : List Interval) → IsRow (r ∷ rs) → IsRow rs
row_tail r [] h = tt
row_tail r (s ∷ rs) h = h.2

-- each column up to the first interval's end is in no later one
pub none_later : (r : Interval) (rs : List Interval) (z : ℤ) → IsRow (r ∷ rs) → z ≤ℤ r.to → row_has rs z ≡ false
none_later r [] z h low = refl
none_later r (s ∷ rs) z h low =
    let some : s.from <ℤ s.to = some_first s rs h.2 in
    let apart : r.to <ℤ s.from = h.1 in
    ap (λ t. t || row_has rs z) (out s z (omega (arith, ints, apart, low))) ∙ none_later s rs z h.2 (omega (arith, ints, apart, low, some))
  where
    out : (s : Interval) (z : ℤ) → z <ℤ s.from → (int_le s.from z && int_lt z s.to) ≡ false
    out s z less = grind (arith, ints)

pub has_after : (r : Interval) (rs : List Interval) (z : ℤ) → r.to ≤ℤ z → row_has (r ∷ rs) z ≡ row_has rs z
has_after r rs z low = ap (λ t. t || row_has rs z) (outside r z low)
  where
    outside : (r : Interval) (z : ℤ) → r.to ≤ℤ z → (int_le r.from z && int_lt z r.to) ≡ false
    outside r z low = grind (arith, ints)

-- up to its end the first interval alone counts
pub begun : (r : Interval) (rs : List Interval) (z : ℤ) → IsRow (r ∷ rs) → z <ℤ r.to → row_has (r ∷ rs) z ≡ int_le r.from z
begun r rs z h high = ap (λ t. (int_le r.from z && int_lt z r.to) || t) (none_later r rs z h (omega (arith, ints, high))) ∙ first r z high
  where
    first : (r : Interval) (z : ℤ) → z <ℤ r.to → ((int_le r.from z && int_lt z r.to) || false) ≡ int_le r.from z
    first r z high = grind (arith, ints)

not_by : (n x : ℤ) → x <ℤ n → int_le n x ≡ false
not_by n x less = grind (arith, ints)

is_by : (n x : ℤ) → n ≤ℤ x → int_le n x ≡ true
is_by n x more = grind (arith, ints)

pub by_true : (n x : ℤ) → int_le n x ≡ true → n ≤ℤ x
by_true n x e = grind (arith, ints)

-- ---- what is behind a column

pub behind_kept : (x : ℤ) (i : Interval) (rest : List Interval) → x <ℤ i.to → behind x (i ∷ rest) ≡ i ∷ rest
behind_kept x i rest less = ap (λ t. cond t (behind x rest) (i ∷ rest)) (not_by i.to x less)

pub behind_gone : (x : ℤ) (i : Interval) (rest : List Interval) → i.to ≤ℤ x → behind x (i ∷ rest) ≡ behind x rest
behind_gone x i rest more = ap (λ t. cond t (behind x rest) (i ∷ rest)) (is_by i.to x more)

pub behind_has : (x z : ℤ) (l : List Interval) → x ≤ℤ z → row_has (behind x l) z ≡ row_has l z
behind_has x z [] h = refl
behind_has x z (i ∷ rest) h = by_lt_z x i.to
    (λ less. ap (λ u. row_has u z) (behind_kept x i rest less))
    (λ more. ap (λ u. row_has u z) (behind_gone x i rest more) ∙ behind_has x z rest h ∙ sym (has_after i rest z (omega (arith, ints, more, h))))

pub behind_none : (x z : ℤ) (l : List Interval) → row_has l z ≡ false → row_has (behind x l) z ≡ false
behind_none x z [] e = refl
behind_none x z (i ∷ rest) e = by_lt_z x i.to
    (λ less. ap (λ u. row_has u z) (behind_kept x i rest less) ∙ e)
    (λ more. ap (λ u. row_has u z) (behind_gone x i rest more) ∙ behind_none x z rest (or_none (int_le i.from z && int_lt z i.to) (row_has rest z) e))

pub behind_row : (x : ℤ) (l : List Interval) → IsRow l → IsRow (behind x l)
behind_row x [] h = tt
behind_row x (i ∷ rest) h = by_lt_z x i.to
    (λ less. subst IsRow (sym (behind_kept x i rest less)) h)
    (λ more. subst IsRow (sym (behind_gone x i rest more)) (behind_row x rest (row_tail i rest h)))

pub behind_most : (x : ℤ) (l : List Interval) → length (behind x l) ≤ length l
behind_most x [] = omega arith
behind_most x (i ∷ rest) = by_lt_z x i.to
    (λ less. omega (arith, ap length (behind_kept x i rest less)))
    (λ more. omega (arith, ap length (behind_gone x i rest more), behind_most x rest))

-- whether the first interval has begun by x
abbrev pub begins_by : ℤ → Option Interval → Bool
begins_by x None = false
begins_by x (Some i) = int_le i.from x

pub contains_at : (x : ℤ) (l : List Interval) → IsRow l → begins_by x (slice_get (behind x l) 0) ≡ row_has l x
contains_at x [] h = refl
contains_at x (i ∷ rest) h = by_lt_z x i.to
    (λ less. ap (λ u. begins_by x (slice_get u 0)) (behind_kept x i rest less) ∙ sym (begun i rest x h less))
    (λ more. ap (λ u. begins_by x (slice_get u 0)) (behind_gone x i rest more) ∙ contains_at x rest (row_tail i rest h) ∙ sym (has_after i rest x more))

pub contains_found : (x : ℤ) (l : List Interval) (now : Reading) (found : Option Interval) → IsRow l → now.left ≡ behind x l → found ≡ slice_get now.left 0 → begins_by x found ≡ row_has l x
contains_found x l now found h is found_is = ap (begins_by x) found_is ∙ ap (λ u. begins_by x (slice_get u 0)) is ∙ contains_at x l h

-- ---- the loop that skips

pub record Skipped (x : ℤ) (old now : Reading) : Type 0 where
  pub rest : behind x now.left ≡ behind x old.left
  pub same : now ≡ record old { left = now.left }

ended_first : (x : ℤ) (l : List Interval) → ends_by x (slice_get l 0) ≡ true → (i : Interval) × (rest : List Interval) × (l ≡ i ∷ rest) × (int_le i.to x ≡ true)
ended_first x [] e = absurd (true_false (sym e))
ended_first x (i ∷ rest) e = (i, rest, refl, e)

ended_none : (x : ℤ) (l : List Interval) → ends_by x (slice_get l 0) ≡ false → behind x l ≡ l
ended_none x [] e = refl
ended_none x (i ∷ rest) e = ap (λ t. cond t (behind x rest) (i ∷ rest)) e

module _ (x : ℤ) (old now : Reading) (skipped : Skipped x old now) (found : Option Interval) (test : Bool) (n : ℤ) (found_is : found ≡ slice_get now.left 0) (test_is : test ≡ ends_by n found) (n_is : n ≡ x) where
  test_at : test ≡ ends_by x (slice_get now.left 0)
  test_at = test_is ∙ ap (λ u. ends_by u found) n_is ∙ ap (ends_by x) found_is

  pub skips_some : test ≡ true → now.left ≢ []
  skips_some is_so = let there = ended_first x now.left (sym test_at ∙ is_so) in not_empty Interval there.0 now.left there.1 there.2

  pub skips_more : (new : Reading) → test ≡ true → ((i : Interval) (rest : List Interval) → now.left ≡ i ∷ rest → new ≡ record now { left = rest }) → Skipped x old new × (length new.left < length now.left)
  skips_more new is_so makes =
      let there = ended_first x now.left (sym test_at ∙ is_so) in
      let new_is : new ≡ record now { left = there.1 } = makes there.0 there.1 there.2 in
      let left_is : new.left ≡ there.1 = ap (λ (u : Reading). u.left) new_is in (
        record {
          rest = ap (behind x) left_is ∙ sym (ap (λ t. cond t (behind x there.1) (there.0 ∷ there.1)) there.3) ∙ ap (behind x) (sym there.2) ∙ skipped.rest;
          same = new_is ∙ ap (λ (u : Reading). record u { left = there.1 }) skipped.same ∙ ap (λ l. record old { left = l }) (sym left_is);
        },
        omega (arith, ap length left_is, ap length there.2),
      )

  pub skips_done : test ≡ false → now ≡ record old { left = behind x old.left }
  skips_done not_so = skipped.same ∙ ap (λ l. record old { left = l }) (sym (ended_none x now.left (sym test_at ∙ not_so)) ∙ skipped.rest)

-- ---- two rows

-- the interval that ends first is passed where the two share no column
first_passed : (i j : Interval) (is js : List Interval) (e z : ℤ) → IsRow (i ∷ is) → IsRow (j ∷ js) → e ≡ i.to → e ≤ℤ j.to → (int_lt i.from j.to && int_lt j.from i.to) ≡ false
    → (row_has (behind e (i ∷ is)) z && row_has (behind e (j ∷ js)) z) ≡ (row_has (i ∷ is) z && row_has (j ∷ js) z)
first_passed i j is js e z h k at first apart = by_lt_z z e
    (λ less.
    let some : i.from <ℤ i.to = some_first i is h in
    ap (λ t. t && row_has (behind e (j ∷ js)) z) (behind_none_first less)
    ∙ sym (ap (λ t. row_has (i ∷ is) z && t) (begun j js z k (omega (arith, ints, less, first)) ∙ not_begun i j e z at first apart less some) ∙ and_none (row_has (i ∷ is) z)))
    (λ more. ap (λ t. t && row_has (behind e (j ∷ js)) z) (behind_has e z (i ∷ is) more) ∙ ap (λ t. row_has (i ∷ is) z && t) (behind_has e z (j ∷ js) more))
  where
    behind_none_first : z <ℤ e → row_has (behind e (i ∷ is)) z ≡ false
    behind_none_first less = ap (λ u. row_has u z) (behind_gone e i is (omega (arith, ints, at))) ∙ behind_none e z is (none_later i is z h (omega (arith, ints, at, less)))

    not_begun : (i j : Interval) (e z : ℤ) → e ≡ i.to → e ≤ℤ j.to → (int_lt i.from j.to && int_lt j.from i.to) ≡ false → z <ℤ e → i.from <ℤ i.to → int_le j.from z ≡ false
    not_begun i j e z at first apart less some = grind (arith, ints)

-- what two rows share is what is shared of what is left
pub record Unshared (old_a old_b a b : List Interval) : Type 0 where
  pub row_a : IsRow a
  pub row_b : IsRow b
  pub same : (z : ℤ) → (row_has a z && row_has b z) ≡ (row_has old_a z && row_has old_b z)

pub nearer_is : (a b : ℤ) → ((nearer a b ≡ a) × (a ≤ℤ b)) ⊎ ((nearer a b ≡ b) × (b ≤ℤ a))
nearer_is a b = by_lt_z a b (λ less. inl (first a b less, omega (arith, ints, less))) (λ more. inr (second a b more, more))
  where
    first : (a b : ℤ) → a <ℤ b → nearer a b ≡ a
    first a b less = let e : int_lt a b ≡ true = grind (arith, ints) in ap (λ t. cond t a b) e

    second : (a b : ℤ) → b ≤ℤ a → nearer a b ≡ b
    second a b more = let e : int_lt a b ≡ false = grind (arith, ints) in ap (λ t. cond t a b) e

pub unshared_more : (old_a old_b a b : List Interval) (edge : ℤ) → Unshared old_a old_b a b → first_end (slice_get a 0) (slice_get b 0) ≡ Some edge → intervals_meet (slice_get a 0) (slice_get b 0) ≡ false
    → Unshared old_a old_b (behind edge a) (behind edge b) × (length (behind edge a) + length (behind edge b) < length a + length b)
unshared_more old_a old_b [] b edge s e apart = absurd (cc)
unshared_more old_a old_b (i ∷ is) [] edge s e apart = absurd (cc)
unshared_more old_a old_b (i ∷ is) (j ∷ js) edge s e apart =
    let at : edge ≡ nearer i.to j.to = sym (same_Some (nearer i.to j.to) edge e) in (
      record {
        row_a = behind_row edge (i ∷ is) s.row_a;
        row_b = behind_row edge (j ∷ js) s.row_b;
        same = λ z. elim (nearer_is i.to j.to) [
          | inl m ↦ first_passed i j is js edge z s.row_a s.row_b (at ∙ m.0) (omega (arith, ints, at ∙ m.0, m.1)) apart ∙ s.same z
          | inr m ↦ and_comm (row_has (behind edge (i ∷ is)) z) (row_has (behind edge (j ∷ js)) z)
              ∙ first_passed j i js is edge z s.row_b s.row_a (at ∙ m.0) (omega (arith, ints, at ∙ m.0, m.1)) (and_comm (int_lt j.from i.to) (int_lt i.from j.to) ∙ apart)
              ∙ and_comm (row_has (j ∷ js) z) (row_has (i ∷ is) z) ∙ s.same z
        ];
      },
      elim (nearer_is i.to j.to) [
        | inl m ↦ omega (arith, ap length (behind_gone edge i is (omega (arith, ints, at ∙ m.0))), behind_most edge is, behind_most edge (j ∷ js))
        | inr m ↦ omega (arith, ap length (behind_gone edge j js (omega (arith, ints, at ∙ m.0))), behind_most edge js, behind_most edge (i ∷ is))
      ],
    )

pub shared_first : (a b : List Interval) → IsRow a → IsRow b → intervals_meet (slice_get a 0) (slice_get b 0) ≡ true → ShareColumn a b
shared_first [] b h k e = absurd (true_false (sym e))
shared_first (i ∷ is) [] h k e = absurd (true_false (sym e))
shared_first (i ∷ is) (j ∷ js) h k e = by_lt_z i.from j.from
    (λ less. (j.from, both i j less e (some_first j js k)))
    (λ more. (i.from, both' i j more e (some_first i is h)))
  where
    joined : (p q r s : Bool) → p ≡ true → q ≡ true → ((p || r) && (q || s)) ≡ true
    joined p q r s e f = rw (e, f) refl

    inside_first : (i j : Interval) → i.from <ℤ j.from → (int_lt i.from j.to && int_lt j.from i.to) ≡ true → (int_le i.from j.from && int_lt j.from i.to) ≡ true
    inside_first i j less e = grind (arith, ints)

    inside_own : (j : Interval) → j.from <ℤ j.to → (int_le j.from j.from && int_lt j.from j.to) ≡ true
    inside_own j some = grind (arith, ints)

    inside_second : (i j : Interval) → j.from ≤ℤ i.from → (int_lt i.from j.to && int_lt j.from i.to) ≡ true → (int_le j.from i.from && int_lt i.from j.to) ≡ true
    inside_second i j more e = grind (arith, ints)

    both : (i j : Interval) → i.from <ℤ j.from → (int_lt i.from j.to && int_lt j.from i.to) ≡ true → j.from <ℤ j.to → (row_has (i ∷ is) j.from && row_has (j ∷ js) j.from) ≡ true
    both i j less e some = joined (int_le i.from j.from && int_lt j.from i.to) (int_le j.from j.from && int_lt j.from j.to) (row_has is j.from) (row_has js j.from) (inside_first i j less e) (inside_own j some)

    both' : (i j : Interval) → j.from ≤ℤ i.from → (int_lt i.from j.to && int_lt j.from i.to) ≡ true → i.from <ℤ i.to → (row_has (i ∷ is) i.from && row_has (j ∷ js) i.from) ≡ true
    both' i j more e some = joined (int_le i.from i.from && int_lt i.from i.to) (int_le j.from i.from && int_lt i.from j.to) (row_has is i.from) (row_has js i.from) (inside_own i some) (inside_second i j more e)

-- the two readers of rows that are compared
pub record Comparing (old_a old_b now_a now_b : Reading) : Type 0 where
  pub state : Unshared old_a.left old_b.left now_a.left now_b.left
  pub same_a : now_a ≡ record old_a { left = now_a.left }
  pub same_b : now_b ≡ record old_b { left = now_b.left }

pub comparing_begins : (a b : Reading) → IsRow a.left → IsRow b.left → Comparing a b a b
comparing_begins a b h k = record { state = record { row_a = h; row_b = k; same = λ z. refl }; same_a = refl; same_b = refl }

pub unshared_done : (a b : List Interval) (z : ℤ) → first_end (slice_get a 0) (slice_get b 0) ≡ None → (row_has a z && row_has b z) ≡ false
unshared_done [] b z e = refl
unshared_done (i ∷ is) [] z e = and_none (row_has (i ∷ is) z)
unshared_done (i ∷ is) (j ∷ js) z e = absurd (no e)
  where
    no : Some (nearer i.to j.to) ≡ None → ⊥
    no e = cc

module _ (old_a old_b now_a now_b : Reading) (c : Comparing old_a old_b now_a now_b) (found : Option ℤ) (i j : Option Interval) (i_is : i ≡ slice_get now_a.left 0) (j_is : j ≡ slice_get now_b.left 0) (found_is : found ≡ first_end i j) where
  found_at : found ≡ first_end (slice_get now_a.left 0) (slice_get now_b.left 0)
  found_at = found_is ∙ ap (λ u. first_end u j) i_is ∙ ap (first_end (slice_get now_a.left 0)) j_is

  pub comparing_more : (new_a new_b : Reading) (edge n : ℤ) (test : Bool) (k l : Option Interval) → found ≡ Some edge → n ≡ edge → k ≡ slice_get now_a.left 0 → l ≡ slice_get now_b.left 0 → test ≡ intervals_meet k l → test ≡ false
      → new_a ≡ record now_a { left = behind n now_a.left } → new_b ≡ record now_b { left = behind n now_b.left }
      → Comparing old_a old_b new_a new_b × (length new_a.left + length new_b.left < length now_a.left + length now_b.left)
  comparing_more new_a new_b edge n test k l some n_is k_is l_is test_is not_so a_is b_is =
      let apart : intervals_meet (slice_get now_a.left 0) (slice_get now_b.left 0) ≡ false = sym (test_is ∙ ap (λ u. intervals_meet u l) k_is ∙ ap (intervals_meet (slice_get now_a.left 0)) l_is) ∙ not_so in
      let next = unshared_more old_a.left old_b.left now_a.left now_b.left n c.state (sym found_at ∙ some ∙ ap Some (sym n_is)) apart in
      let left_a : new_a.left ≡ behind n now_a.left = ap (λ (u : Reading). u.left) a_is in
      let left_b : new_b.left ≡ behind n now_b.left = ap (λ (u : Reading). u.left) b_is in (
        record {
          state = subst (λ l. Unshared old_a.left old_b.left new_a.left l) (sym left_b) (subst (λ l. Unshared old_a.left old_b.left l (behind n now_b.left)) (sym left_a) next.0);
          same_a = a_is ∙ ap (λ (u : Reading). record u { left = behind n now_a.left }) c.same_a ∙ ap (λ l. record old_a { left = l }) (sym left_a);
          same_b = b_is ∙ ap (λ (u : Reading). record u { left = behind n now_b.left }) c.same_b ∙ ap (λ l. record old_b { left = l }) (sym left_b);
        },
        omega (arith, next.1, ap length left_a, ap length left_b),
      )

  pub comparing_found : (test : Bool) (k l : Option Interval) → k ≡ slice_get now_a.left 0 → l ≡ slice_get now_b.left 0 → test ≡ intervals_meet k l → test ≡ true → ShareColumn old_a.left old_b.left
  comparing_found test k l k_is l_is test_is is_so =
      let meet : intervals_meet (slice_get now_a.left 0) (slice_get now_b.left 0) ≡ true = sym (test_is ∙ ap (λ u. intervals_meet u l) k_is ∙ ap (intervals_meet (slice_get now_a.left 0)) l_is) ∙ is_so in
      let there = shared_first now_a.left now_b.left c.state.row_a c.state.row_b meet in
      (there.0, sym (c.state.same there.0) ∙ there.1)

  pub comparing_done : found ≡ None → ShareColumn old_a.left old_b.left → ⊥
  comparing_done none there = true_false (sym there.1 ∙ sym (c.state.same there.0) ∙ unshared_done now_a.left now_b.left there.0 (sym found_at ∙ none))

-- ---- a row that is read to its end

pub record Ending (x : ℤ) (old now : Reading) (end : ℤ) : Type 0 where
  pub rest : row_end end now.left ≡ row_end x old.left
  pub same : now ≡ record old { left = now.left }

module _ (x : ℤ) (old now : Reading) (end : ℤ) (ending : Ending x old now end) (found : Option Interval) (found_is : found ≡ slice_get now.left 0) where
  pub ending_more : (i : Interval) (new : Reading) (n : ℤ) → found ≡ Some i → n ≡ i.to → ((i : Interval) (rest : List Interval) → now.left ≡ i ∷ rest → new ≡ record now { left = rest }) → Ending x old new n × (length new.left < length now.left)
  ending_more i new n some n_is makes =
      let there = first_of_some Interval now.left i (sym found_is ∙ some) in
      let new_is : new ≡ record now { left = there.0 } = makes i there.0 there.1 in
      let left_is : new.left ≡ there.0 = ap (λ (u : Reading). u.left) new_is in (
        record {
          rest = ap (row_end n) left_is ∙ ap (λ m. row_end m there.0) n_is ∙ ap (row_end end) (sym there.1) ∙ ending.rest;
          same = new_is ∙ ap (λ (u : Reading). record u { left = there.0 }) ending.same ∙ ap (λ l. record old { left = l }) (sym left_is);
        },
        omega (arith, ap length left_is, ap length there.1),
      )

  pub ending_done : found ≡ None → (end ≡ row_end x old.left) × (now ≡ record old { left = [] })
  ending_done none =
      let gone : now.left ≡ [] = none_of Interval now.left (sym found_is ∙ none) in
      (sym (ap (row_end end) gone) ∙ ending.rest, ending.same ∙ ap (λ l. record old { left = l }) gone)

-- so many columns lie before the row, if it begins within 32 bits
abbrev pub BeginsAfter : ℕ → List Interval → Type 0
BeginsAfter n [] = Unit {0}
BeginsAfter n (i ∷ rest) = negsuc 2147483647 ≤ℤ i.from → pos n ≤ℤ (i.from +ℤ pos 2147483648)

pub record Counting (old now : Reading) (count : ℕ) : Type 0 where
  pub row : IsRow now.left
  pub all : count + length now.left ≡ length old.left
  pub after : BeginsAfter (2 * count) now.left
  pub few : count ≤ 2147483648
  pub same : now ≡ record old { left = now.left }

pub counting_begins : (old : Reading) → IsRow old.left → Counting old old 0
counting_begins old h = record { row = h; all = omega arith; after = go old.left; few = omega arith; same = refl }
  where
    go : (l : List Interval) → BeginsAfter (2 * 0) l
    go [] = tt
    go (i ∷ rest) = λ low. omega (arith, ints, low)

next_after : (n : ℕ) (i : Interval) (rest : List Interval) → IsRow (i ∷ rest) → pos n ≤ℤ (i.from +ℤ pos 2147483648) → BeginsAfter (2 + n) rest
next_after n i [] h low = tt
next_after n i (j ∷ rest) h low = λ _. let some : i.from <ℤ i.to = h.0 in let apart : i.to <ℤ j.from = h.1 in omega (arith, ints, some, apart, low)

module _ (old now : Reading) (count : ℕ) (counting : Counting old now count) (found : Option Interval) (found_is : found ≡ slice_get now.left 0) where
  pub counting_more : (i : Interval) (new : Reading) (n : ℕ) → found ≡ Some i → negsuc 2147483647 ≤ℤ i.from → i.from ≤ℤ pos 2147483647 → n ≡ count + 1 → ((i : Interval) (rest : List Interval) → now.left ≡ i ∷ rest → new ≡ record now { left = rest }) → Counting old new n × (length new.left < length now.left) × (count < 2147483648)
  counting_more i new n some low high n_is makes =
      let there = first_of_some Interval now.left i (sym found_is ∙ some) in
      let new_is : new ≡ record now { left = there.0 } = makes i there.0 there.1 in
      let left_is : new.left ≡ there.0 = ap (λ (u : Reading). u.left) new_is in
      let row : IsRow (i ∷ there.0) = subst IsRow there.1 counting.row in
      let after : pos (2 * count) ≤ℤ (i.from +ℤ pos 2147483648) = subst (BeginsAfter (2 * count)) there.1 counting.after low in
      let few : count < 2147483648 = omega (arith, ints, after, high) in (
        record {
          row = subst IsRow (sym left_is) (row_tail i there.0 row);
          all = omega (arith, ap length left_is, ap length there.1, counting.all, n_is);
          after = subst (BeginsAfter (2 * n)) (sym left_is) (subst (λ m. BeginsAfter m there.0) (twice count n n_is) (next_after (2 * count) i there.0 row after));
          few = omega (arith, few, n_is);
          same = new_is ∙ ap (λ (u : Reading). record u { left = there.0 }) counting.same ∙ ap (λ l. record old { left = l }) (sym left_is);
        },
        omega (arith, ap length left_is, ap length there.1),
        few,
      )
    where
      twice : (count n : ℕ) → n ≡ count + 1 → 2 + 2 * count ≡ 2 * n
      twice count n e = omega (arith, e)

  pub counting_done : found ≡ None → (count ≡ length old.left) × (now ≡ record old { left = [] })
  counting_done none =
      let gone : now.left ≡ [] = none_of Interval now.left (sym found_is ∙ none) in
      (omega (arith, ap length gone, counting.all), counting.same ∙ ap (λ l. record old { left = l }) gone)
