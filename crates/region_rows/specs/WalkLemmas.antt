-- A walk over two rows: what is kept before a column, and that a whole row of it comes.
use Rattle.std.proofs.Common.{◌≡◌, ◌≢◌, ℕ, zero, suc, ◌+◌, ◌*◌, ◌≤◌, ◌<◌, Bool, true, false, cond, ◌&&◌, List, [], ◌∷◌, length, refl, sym, ◌∙◌, ap, arith, Option, Some, None}
use Rattle.std.specs.Prelude.{ℤ, ◌<ℤ◌, ◌≤ℤ◌, int_lt, int_le, ◌||◌, not, slice_get}
use mathlib.Core.Bool.{beq}
use Rattle.std.proofs.lemmas.Int.{ints, by_lt_z}
use Rattle.std.proofs.lemmas.List.{length-append}
use Rattle.region_bands.specs.declared.Interval.{Interval}
use Rattle.region_rows.specs.declared.Keep.{Keep}
use Rattle.region_rows.specs.declared.Keep.TheVariants.{Either, Both, FirstAlone}
use Rattle.region_rows.specs.declared.steps.Step.{Step}
use Rattle.region_rows.specs.Rows.{IsRow, row_has, keeps_place, IsKept}
use Rattle.region_rows.specs.Steps.{next_step, start_of, later, closed}
use Rattle.region_rows.specs.RowLemmas.{Below, below_more, none_behind, row_longer, below_longer, or_false, has-append, only_row}
use Rattle.region_rows.specs.StepLemmas.{Ahead, IsEdge, IsStep, step_is, no_step, IsStart, IsLater, later_is, ends_left, ends_less, ends_most, starts}

pub keeps_place-none : (k : Keep) → keeps_place k false false ≡ false
keeps_place-none Either = refl
keeps_place-none Both = refl
keeps_place-none FirstAlone = refl

pub differ : (a b : Bool) → not (beq a b) ≡ true → a ≢ b
differ true true e = λ _. absurd (let h : false ≡ true = e in no h)
  where
    no : false ≡ true → ⊥
    no e = cc
differ false false e = λ _. absurd (let h : false ≡ true = e in no h)
  where
    no : false ≡ true → ⊥
    no e = cc
differ true false e = λ f. absurd (no f)
  where
    no : true ≡ false → ⊥
    no e = cc
differ false true e = λ f. absurd (no f)
  where
    no : false ≡ true → ⊥
    no e = cc

pub agree : (a b : Bool) → not (beq a b) ≡ false → a ≡ b
agree true true e = refl
agree false false e = refl
agree true false e = cc
agree false true e = cc

abbrev pub span : ℤ → ℤ → Interval
span from x = record { from = from; to = x }

pub length-closed : (on : Bool) (q : Interval) (row : List Interval) → length (closed on q row) ≡ length row + cond on 1 0
length-closed true q row = length-append row (q ∷ [])
length-closed false q row = omega arith

-- what a walk over two rows has kept before x; `from` is where the last interval began
pub record RowState (k : Keep) (whole_a whole_b row : List Interval) (on : Bool) (from x : ℤ) (a b : List Interval) : Type 0 where
  pub runs : IsRow row
  pub row_a : IsRow a
  pub row_b : IsRow b
  pub ahead_a : Ahead x a
  pub ahead_b : Ahead x b
  pub same_a : (z : ℤ) → x ≤ℤ z → row_has a z ≡ row_has whole_a z
  pub same_b : (z : ℤ) → x ≤ℤ z → row_has b z ≡ row_has whole_b z
  pub so_far : (z : ℤ) → z <ℤ x → (row_has row z || (on && (int_le from z && int_lt z x))) ≡ keeps_place k (row_has whole_a z) (row_has whole_b z)
  pub ends_on : on ≡ true → (from <ℤ x) × Below from row
  pub ends_off : on ≡ false → Below x row

pub row_begins : (k : Keep) (a b : List Interval) (x : ℤ) → IsRow a → IsRow b → IsStart x a → IsStart x b → RowState k a b [] false x x a b
row_begins k a b x row_a row_b start_a start_b = record {
  runs = tt;
  row_a = row_a;
  row_b = row_b;
  ahead_a = start_a.ahead;
  ahead_b = start_b.ahead;
  same_a = λ z low. refl;
  same_b = λ z low. refl;
  so_far = λ z less. sym (ap (λ t. keeps_place k t (row_has b z)) (start_a.before z less) ∙ ap (keeps_place k false) (start_b.before z less) ∙ keeps_place-none k);
  ends_on = λ f. absurd (no f);
  ends_off = λ _. tt;
}
  where
    no : false ≡ true → ⊥
    no e = cc

module _ (k : Keep) (whole_a whole_b : List Interval) where
  closed_has : (row : List Interval) (on : Bool) (from x z : ℤ) → row_has (closed on (span from x) row) z ≡ (row_has row z || (on && (int_le from z && int_lt z x)))
  closed_has row true from x z = has-append row (span from x) z
  closed_has row false from x z = sym (or_false (row_has row z))

  closed_runs : (row : List Interval) (on : Bool) (from x : ℤ) (a b : List Interval) → RowState k whole_a whole_b row on from x a b → IsRow (closed on (span from x) row)
  closed_runs row true from x a b s = row_longer row (span from x) s.runs (s.ends_on refl).1 (s.ends_on refl).0
  closed_runs row false from x a b s = s.runs

  -- each of its intervals ends at x or before
  closed_below : (row : List Interval) (on : Bool) (from x y : ℤ) (a b : List Interval) → RowState k whole_a whole_b row on from x a b → x <ℤ y → Below y (closed on (span from x) row)
  closed_below row true from x y a b s more = below_longer y row (span from x) (below_more from y row (let h = (s.ends_on refl).0 in omega (arith, ints)) (s.ends_on refl).1) more
  closed_below row false from x y a b s more = below_more x y row (omega (arith, ints)) (s.ends_off refl)

  over : (from z x : ℤ) → x ≤ℤ z → (false || (true && (int_le from z && int_lt z x))) ≡ false
  over from z x h = grind (arith, ints)

  nothing : (row : List Interval) (on : Bool) (from x z : ℤ) (a b : List Interval) → RowState k whole_a whole_b row on from x a b → x ≤ℤ z → (row_has row z || (on && (int_le from z && int_lt z x))) ≡ false
  nothing row true from x z a b s more = ap (λ t. t || (true && (int_le from z && int_lt z x))) (none_behind from z row (s.ends_on refl).1 (let h = (s.ends_on refl).0 in omega (arith, ints))) ∙ over from z x more
  nothing row false from x z a b s more = ap (λ t. t || false) (none_behind x z row (s.ends_off refl) more)

  -- at the end
  pub row_done : (row : List Interval) (on : Bool) (from x : ℤ) (a b : List Interval) → RowState k whole_a whole_b row on from x a b → a ≡ [] → b ≡ [] → IsKept k whole_a whole_b (closed on (span from x) row)
  row_done row on from x a b s none_a none_b = record {
    is_row = closed_runs row on from x a b s;
    has = λ z. by_lt_z z x
        (λ less. closed_has row on from x z ∙ s.so_far z less)
        (λ more. closed_has row on from x z ∙ nothing row on from x z a b s more ∙ sym (
        ap (λ t. keeps_place k t (row_has whole_b z)) (sym (s.same_a z more) ∙ ap (λ l. row_has l z) none_a)
        ∙ ap (keeps_place k false) (sym (s.same_b z more) ∙ ap (λ l. row_has l z) none_b) ∙ keeps_place-none k));
  }

  -- what is kept from x to before the edge
  kept_flat : (row : List Interval) (on : Bool) (from x edge : ℤ) (a b : List Interval) (keeps : Bool) → RowState k whole_a whole_b row on from x a b → IsEdge x edge a → IsEdge x edge b
      → keeps ≡ keeps_place k (row_has a x) (row_has b x) → (z : ℤ) → x ≤ℤ z → z <ℤ edge → keeps ≡ keeps_place k (row_has whole_a z) (row_has whole_b z)
  kept_flat row on from x edge a b keeps s edge_a edge_b e z low high =
      e ∙ ap (λ t. keeps_place k t (row_has b x)) (sym (edge_a.flat z low high) ∙ s.same_a z low)
      ∙ ap (keeps_place k (row_has whole_a z)) (sym (edge_b.flat z low high) ∙ s.same_b z low)

  -- the last interval goes on to the edge
  row_on : (row : List Interval) (on : Bool) (from x edge : ℤ) (a b a' b' : List Interval) (keeps : Bool) → RowState k whole_a whole_b row on from x a b → IsEdge x edge a → IsEdge x edge b
      → keeps ≡ keeps_place k (row_has a x) (row_has b x) → keeps ≡ on → IsLater edge a a' → IsLater edge b b' → RowState k whole_a whole_b row on from edge a' b'
  row_on row on from x edge a b a' b' keeps s edge_a edge_b e same later_a later_b =
      let after : x <ℤ edge = edge_a.after in
      record {
        runs = s.runs;
        row_a = later_a.is_row;
        row_b = later_b.is_row;
        ahead_a = later_a.ahead;
        ahead_b = later_b.ahead;
        same_a = λ z low. later_a.same z low ∙ s.same_a z (omega (arith, ints));
        same_b = λ z low. later_b.same z low ∙ s.same_b z (omega (arith, ints));
        so_far = λ z below. by_lt_z z x
            (λ less. ap (λ t. row_has row z || (on && (int_le from z && t))) (both z x edge less after) ∙ s.so_far z less)
            (λ more. within on s z more below ∙ sym same ∙ kept_flat row on from x edge a b keeps s edge_a edge_b e z more below);
        ends_on = λ is. (let h = (s.ends_on is).0 in omega (arith, ints), (s.ends_on is).1);
        ends_off = λ is. below_more x edge row (omega (arith, ints)) (s.ends_off is);
      }
    where
      both : (z x edge : ℤ) → z <ℤ x → x <ℤ edge → int_lt z edge ≡ int_lt z x
      both z x edge less after = grind (arith, ints)

      on_it : (from x z : ℤ) → from <ℤ x → x ≤ℤ z → z <ℤ edge → (false || (true && (int_le from z && int_lt z edge))) ≡ true
      on_it from x z h low high = grind (arith, ints)

      within : (on : Bool) → RowState k whole_a whole_b row on from x a b → (z : ℤ) → x ≤ℤ z → z <ℤ edge → (row_has row z || (on && (int_le from z && int_lt z edge))) ≡ on
      within true s z low high = ap (λ t. t || (true && (int_le from z && int_lt z edge))) (none_behind from z row (s.ends_on refl).1 (let h = (s.ends_on refl).0 in omega (arith, ints))) ∙ on_it from x z (s.ends_on refl).0 low high
      within false s z low high = ap (λ t. t || false) (none_behind x z row (s.ends_off refl) low)

  -- it ends at x, or one begins there
  row_turn : (row : List Interval) (on : Bool) (from x edge : ℤ) (a b a' b' : List Interval) (keeps : Bool) → RowState k whole_a whole_b row on from x a b → IsEdge x edge a → IsEdge x edge b
      → keeps ≡ keeps_place k (row_has a x) (row_has b x) → keeps ≢ on → IsLater edge a a' → IsLater edge b b' → RowState k whole_a whole_b (closed on (span from x) row) keeps x edge a' b'
  row_turn row on from x edge a b a' b' keeps s edge_a edge_b e other later_a later_b =
      let after : x <ℤ edge = edge_a.after in
      record {
        runs = closed_runs row on from x a b s;
        row_a = later_a.is_row;
        row_b = later_b.is_row;
        ahead_a = later_a.ahead;
        ahead_b = later_b.ahead;
        same_a = λ z low. later_a.same z low ∙ s.same_a z (omega (arith, ints));
        same_b = λ z low. later_b.same z low ∙ s.same_b z (omega (arith, ints));
        so_far = λ z below. by_lt_z z x
            (λ less. ap (λ t. row_has (closed on (span from x) row) z || t) (not_on keeps z x edge less) ∙ or_false (row_has (closed on (span from x) row) z) ∙ closed_has row on from x z ∙ s.so_far z less)
            (λ more. ap (λ t. t || (keeps && (int_le x z && int_lt z edge))) (closed_has row on from x z ∙ nothing row on from x z a b s more) ∙ is_on keeps z x edge more below ∙ kept_flat row on from x edge a b keeps s edge_a edge_b e z more below);
        ends_on = λ t. (after, turned_on on keeps s other t);
        ends_off = λ f. closed_below row on from x edge a b s after;
      }
    where
      not_on : (keeps : Bool) (z x edge : ℤ) → z <ℤ x → (keeps && (int_le x z && int_lt z edge)) ≡ false
      not_on keeps z x edge less = grind (arith, ints)

      is_on : (keeps : Bool) (z x edge : ℤ) → x ≤ℤ z → z <ℤ edge → (false || (keeps && (int_le x z && int_lt z edge))) ≡ keeps
      is_on keeps z x edge low high = grind (arith, ints)

      turned_on : (on keeps : Bool) → RowState k whole_a whole_b row on from x a b → keeps ≢ on → keeps ≡ true → Below x (closed on (span from x) row)
      turned_on true keeps s other t = absurd (other t)
      turned_on false keeps s other t = s.ends_off refl

  -- the same after a step of the code
  module _ (row : List Interval) (on : Bool) (from x : ℤ) (a b : List Interval) (state : RowState k whole_a whole_b row on from x a b) where
    pub step_at : (s : Step) → next_step x (slice_get a 0) (slice_get b 0) ≡ Some s → IsStep x a b s
    step_at s is = step_is x a b s state.row_a state.row_b state.ahead_a state.ahead_b is

    pub step_keeps : (s : Step) → IsStep x a b s → keeps_place k s.in_first s.in_second ≡ keeps_place k (row_has a x) (row_has b x)
    step_keeps s step = ap (λ t. keeps_place k t s.in_second) step.has_a ∙ ap (keeps_place k (row_has a x)) step.has_b

    pub stepped_on : (s : Step) → IsStep x a b s → keeps_place k s.in_first s.in_second ≡ on → RowState k whole_a whole_b row on from s.edge (later s.edge a) (later s.edge b)
    stepped_on s step same =
        row_on row on from x s.edge a b (later s.edge a) (later s.edge b) (keeps_place k s.in_first s.in_second) state step.edge_a step.edge_b (step_keeps s step) same
        (later_is s.edge a state.row_a step.edge_a.reaches) (later_is s.edge b state.row_b step.edge_b.reaches)

    pub stepped_turn : (s : Step) → IsStep x a b s → keeps_place k s.in_first s.in_second ≢ on → RowState k whole_a whole_b (closed on (span from x) row) (keeps_place k s.in_first s.in_second) x s.edge (later s.edge a) (later s.edge b)
    stepped_turn s step other =
        row_turn row on from x s.edge a b (later s.edge a) (later s.edge b) (keeps_place k s.in_first s.in_second) state step.edge_a step.edge_b (step_keeps s step) other
        (later_is s.edge a state.row_a step.edge_a.reaches) (later_is s.edge b state.row_b step.edge_b.reaches)

    pub state_done : next_step x (slice_get a 0) (slice_get b 0) ≡ None → IsKept k whole_a whole_b (closed on (span from x) row)
    state_done is = let ends = no_step x a b is in row_done row on from x a b state ends.0 ends.1

  -- a row of what is kept, which has the intervals so far, and not many more
  pub record Whole (row : List Interval) (on : Bool) (ends : ℕ) : Type 0 where
    pub final : List Interval
    pub is_kept : IsKept k whole_a whole_b final
    pub more : length row + cond on 1 0 ≤ length final
    pub few : 2 * length final ≤ 2 * length row + cond on 1 0 + ends + 1

  turned : (on keeps : Bool) (n m e l f : ℕ) → keeps ≢ on → m ≡ n + cond on 1 0 → e < l → f ≤ 2 * m + cond keeps 1 0 + e + 1 → f ≤ 2 * n + cond on 1 0 + l + 1
  turned true true n m e l f other p q r = absurd (other refl)
  turned true false n m e l f other p q r = omega (arith, p, q, r)
  turned false true n m e l f other p q r = omega (arith, p, q, r)
  turned false false n m e l f other p q r = absurd (other refl)

  at_most_one : (b : Bool) → cond b 1 0 ≤ 1
  at_most_one true = omega arith
  at_most_one false = omega arith

  pub by_option : {P : Type 0} (o : Option Step) → (o ≡ None → P) → ((s : Step) → o ≡ Some s → P) → P
  by_option None none some = none refl
  by_option (Some s) none some = some s refl

  pub by_same : {P : Type 0} (a b : Bool) → (a ≡ b → P) → (a ≢ b → P) → P
  by_same true true same other = same refl
  by_same false false same other = same refl
  by_same true false same other = other (λ e. absurd (no e))
    where
      no : true ≡ false → ⊥
      no e = cc
  by_same false true same other = other (λ e. absurd (no e))
    where
      no : false ≡ true → ⊥
      no e = cc

  finished : (row : List Interval) (on : Bool) (from x : ℤ) (a b : List Interval) → RowState k whole_a whole_b row on from x a b → next_step x (slice_get a 0) (slice_get b 0) ≡ None → Whole row on (ends_left x a + ends_left x b)
  finished row on from x a b state is = record {
    final = closed on (span from x) row;
    is_kept = state_done row on from x a b state is;
    more = omega (arith, length-closed on (span from x) row);
    few = omega (arith, length-closed on (span from x) row, at_most_one on);
  }

  completed : (n : ℕ) (row : List Interval) (on : Bool) (from x : ℤ) (a b : List Interval) → ends_left x a + ends_left x b ≤ n → RowState k whole_a whole_b row on from x a b → Whole row on (ends_left x a + ends_left x b)
  completed zero row on from x a b fits state = by_option (next_step x (slice_get a 0) (slice_get b 0))
      (λ is. finished row on from x a b state is)
      (λ s is. absurd (none (ends_left s.edge (later s.edge a) + ends_left s.edge (later s.edge b)) (ends_left x a + ends_left x b) (ends_less x a b s state.row_a state.row_b (step_at row on from x a b state s is)) fits))
    where
      none : (m n : ℕ) → m < n → n ≤ 0 → ⊥
      none m n h fits = omega (arith, h, fits)
  completed (suc n) row on from x a b fits state = by_option (next_step x (slice_get a 0) (slice_get b 0))
      (λ is. finished row on from x a b state is)
      (λ s is.
      let step = step_at row on from x a b state s is in
      let room : ends_left s.edge (later s.edge a) + ends_left s.edge (later s.edge b) ≤ n = fewer (ends_left s.edge (later s.edge a) + ends_left s.edge (later s.edge b)) (ends_left x a + ends_left x b) n (ends_less x a b s state.row_a state.row_b step) fits in
      by_same (keeps_place k s.in_first s.in_second) on
      (λ same.
      let whole = completed n row on from s.edge (later s.edge a) (later s.edge b) room (stepped_on row on from x a b state s step same) in
      record { final = whole.final; is_kept = whole.is_kept; more = whole.more; few = omega (arith, whole.few, ends_less x a b s state.row_a state.row_b step) })
      (λ other.
      let whole = completed n (closed on (span from x) row) (keeps_place k s.in_first s.in_second) x s.edge (later s.edge a) (later s.edge b) room (stepped_turn row on from x a b state s step other) in
      record {
        final = whole.final;
        is_kept = whole.is_kept;
        more = omega (arith, whole.more, length-closed on (span from x) row);
        few = turned on (keeps_place k s.in_first s.in_second) (length row) (length (closed on (span from x) row)) (ends_left s.edge (later s.edge a) + ends_left s.edge (later s.edge b)) (ends_left x a + ends_left x b) (2 * length whole.final)
            other (length-closed on (span from x) row) (ends_less x a b s state.row_a state.row_b step) whole.few;
      }))
    where
      fewer : (m n p : ℕ) → m < n → n ≤ suc p → m ≤ p
      fewer m n p h fits = omega (arith, h, fits)

  pub whole : (row : List Interval) (on : Bool) (from x : ℤ) (a b : List Interval) → RowState k whole_a whole_b row on from x a b → Whole row on (ends_left x a + ends_left x b)
  whole row on from x a b state = completed (ends_left x a + ends_left x b) row on from x a b (omega arith) state

-- and only one row is kept
pub only_kept : (k : Keep) (a b row row' : List Interval) → IsKept k a b row → IsKept k a b row' → row ≡ row'
only_kept k a b row row' h h' = only_row row row' h.is_row h'.is_row (λ x. h.has x ∙ sym (h'.has x))

-- a kept row has no more intervals than the two
pub kept_few : (k : Keep) (a b row : List Interval) → IsRow a → IsRow b → IsKept k a b row → length row ≤ length a + length b
kept_few k a b row row_a row_b h =
    let start = starts a b row_a row_b in
    let x : ℤ = start_of (slice_get a 0) (slice_get b 0) in
    let w : Whole k a b [] false (ends_left x a + ends_left x b) = whole k a b [] false x x a b (row_begins k a b x row_a row_b start.0 start.1) in
    let same : w.final ≡ row = only_kept k a b w.final row w.is_kept h in
    omega (arith, w.few, ap length same, ends_most x a, ends_most x b)
