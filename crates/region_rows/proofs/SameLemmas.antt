-- A walk over two pairs of rows: that the same is kept of both, as far as it came.
use Rattle.std.proofs.Common.{◌≡◌, ◌≢◌, Bool, true, false, not, List, [], refl, sym, ◌∙◌, ap, subst, arith, Option, Some, None, inl, inr}
use Rattle.std.specs.Prelude.{ℤ, ◌<ℤ◌, ◌≤ℤ◌, slice_get}
use mathlib.Core.Bool.{beq}
use Rattle.std.proofs.lemmas.Int.{ints, by_lt_z}
use Rattle.std.proofs.lemmas.Option.{same_Some}
use Rattle.region_bands.specs.declared.Interval.{Interval}
use Rattle.region_bands.specs.Bands.{Reading}
use Rattle.region_rows.specs.declared.Keep.{Keep}
use Rattle.region_rows.specs.declared.steps.Step.{Step}
use Rattle.region_rows.specs.declared.steps.Common.{Common}
use Rattle.region_rows.specs.Rows.{IsRow, row_has, keeps_place}
use Rattle.region_rows.specs.Steps.{next_step, start_of, later, nearer, common_step}
use Rattle.region_rows.specs.RowLemmas.{true_false}
use Rattle.region_rows.specs.StepLemmas.{Ahead, IsEdge, IsStep, step_is, no_step, no_edge, nearer_edge, nearer_is, earlier_start, starts, later_is}
use Rattle.region_rows.specs.WalkLemmas.{keeps_place-none}
use Rattle.region_rows.proofs.MakeLemmas.{from_firsts}

pub not_true : (b : Bool) → not b ≡ true → b ≡ false
not_true true e = absurd (true_false (sym e))
not_true false e = refl

pub not_false : (b : Bool) → not b ≡ false → b ≡ true
not_false true e = refl
not_false false e = absurd (true_false e)

-- what is left of a row from x on
pub record Left (whole : List Interval) (x : ℤ) (left : List Interval) : Type 0 where
  pub row : IsRow left
  pub ahead : Ahead x left
  pub same : (z : ℤ) → x ≤ℤ z → row_has left z ≡ row_has whole z

left_more : (whole : List Interval) (x e : ℤ) (left : List Interval) → Left whole x left → IsEdge x e left → Left whole e (later e left)
left_more whole x e left l edge =
    let f = later_is e left l.row edge.reaches in
    let after : x <ℤ e = edge.after in
    record { row = f.is_row; ahead = f.ahead; same = λ z low. f.same z low ∙ l.same z (omega (arith, ints, after, low)) }

-- a step further, what a row has is what it has at x
left_flat : (whole : List Interval) (x e : ℤ) (left : List Interval) → Left whole x left → IsEdge x e left → (z : ℤ) → x ≤ℤ z → z <ℤ e → row_has whole z ≡ row_has left x
left_flat whole x e left l edge z low high = sym (l.same z low) ∙ edge.flat z low high

-- a pair of rows up to an edge, and whether its place at x is kept
record Pair (k : Keep) (x e : ℤ) (a b : List Interval) (keeps : Bool) : Type 0 where
  edge_a : IsEdge x e a
  edge_b : IsEdge x e b
  is : keeps ≡ keeps_place k (row_has a x) (row_has b x)

pair_stepped : (k : Keep) (x e : ℤ) (a b : List Interval) (s : Step) → IsStep x a b s → x <ℤ e → e ≤ℤ s.edge → Pair k x e a b (keeps_place k s.in_first s.in_second)
pair_stepped k x e a b s step after near = record {
  edge_a = nearer_edge a x s.edge e step.edge_a after near;
  edge_b = nearer_edge b x s.edge e step.edge_b after near;
  is = ap (λ t. keeps_place k t s.in_second) step.has_a ∙ ap (keeps_place k (row_has a x)) step.has_b;
}

pair_ended : (k : Keep) (x e : ℤ) (a b : List Interval) → a ≡ [] → b ≡ [] → x <ℤ e → Pair k x e a b false
pair_ended k x e a b none none' after = record {
  edge_a = subst (IsEdge x e) (sym none) (no_edge x e after);
  edge_b = subst (IsEdge x e) (sym none') (no_edge x e after);
  is = sym (ap (λ l. keeps_place k (row_has l x) (row_has b x)) none ∙ ap (λ l. keeps_place k false (row_has l x)) none' ∙ keeps_place-none k);
}

pub record Both (k : Keep) (x e : ℤ) (a b c d : List Interval) (agrees : Bool) : Type 0 where
  pub edge_a : IsEdge x e a
  pub edge_b : IsEdge x e b
  pub edge_c : IsEdge x e c
  pub edge_d : IsEdge x e d
  pub yes_is : agrees ≡ true → keeps_place k (row_has a x) (row_has b x) ≡ keeps_place k (row_has c x) (row_has d x)
  pub no_is : agrees ≡ false → keeps_place k (row_has a x) (row_has b x) ≢ keeps_place k (row_has c x) (row_has d x)

both : (k : Keep) (x e : ℤ) (a b c d : List Interval) (t u agrees : Bool) → Pair k x e a b t → Pair k x e c d u → agrees ≡ beq t u → Both k x e a b c d agrees
both k x e a b c d t u agrees p q is = record {
  edge_a = p.edge_a;
  edge_b = p.edge_b;
  edge_c = q.edge_a;
  edge_d = q.edge_b;
  yes_is = λ e. sym p.is ∙ same t u (sym is ∙ e) ∙ q.is;
  no_is = λ e f. other t u (sym is ∙ e) (p.is ∙ f ∙ sym q.is);
}
  where
    same : (t u : Bool) → beq t u ≡ true → t ≡ u
    same true true e = refl
    same false false e = refl
    same true false e = cc
    same false true e = cc

    other : (t u : Bool) → beq t u ≡ false → t ≡ u → ⊥
    other true true e f = true_false e
    other false false e f = true_false e
    other true false e f = true_false f
    other false true e f = true_false (sym f)

with_none : (t : Bool) → not t ≡ beq t false
with_none true = refl
with_none false = refl

none_with : (t : Bool) → not t ≡ beq false t
none_with true = refl
none_with false = refl

lesser : (n m : ℤ) → (nearer n m ≤ℤ n) × (nearer n m ≤ℤ m)
lesser n m = elim (nearer_is n m) [
  | inl e ↦ (subst (λ z. z ≤ℤ n) (sym e.0) (omega (arith, ints)), subst (λ z. z ≤ℤ m) (sym e.0) (omega (arith, ints, e.1)))
  | inr e ↦ (subst (λ z. z ≤ℤ n) (sym e.0) e.1, subst (λ z. z ≤ℤ m) (sym e.0) (omega (arith, ints)))
]

later_both : (x n m : ℤ) → x <ℤ n → x <ℤ m → x <ℤ nearer n m
later_both x n m h h' = elim (nearer_is n m) [
  | inl e ↦ subst (λ z. x <ℤ z) (sym e.0) h
  | inr e ↦ subst (λ z. x <ℤ z) (sym e.0) h'
]

pub common_is : (k : Keep) (x : ℤ) (a b c d : List Interval) (m : Common) → IsRow a → IsRow b → IsRow c → IsRow d → Ahead x a → Ahead x b → Ahead x c → Ahead x d
    → common_step k (next_step x (slice_get a 0) (slice_get b 0)) (next_step x (slice_get c 0) (slice_get d 0)) ≡ Some m → Both k x m.edge a b c d m.agrees
common_is k x a b c d m ha hb hc hd aa ab ac ad = go (next_step x (slice_get a 0) (slice_get b 0)) (next_step x (slice_get c 0) (slice_get d 0)) refl refl
  where
    go : (o p : Option Step) → next_step x (slice_get a 0) (slice_get b 0) ≡ o → next_step x (slice_get c 0) (slice_get d 0) ≡ p → common_step k o p ≡ Some m → Both k x m.edge a b c d m.agrees
    go None None f g is = absurd (cc)
    go (Some s) None f g is =
        let step = step_is x a b s ha hb aa ab f in
        let ends = no_step x c d g in
        let after : x <ℤ s.edge = step.edge_a.after in
        subst (λ (m : Common). Both k x m.edge a b c d m.agrees) (same_Some _ m is)
        (both k x s.edge a b c d (keeps_place k s.in_first s.in_second) false (not (keeps_place k s.in_first s.in_second)) (pair_stepped k x s.edge a b s step after (omega (arith, ints))) (pair_ended k x s.edge c d ends.0 ends.1 after) (with_none (keeps_place k s.in_first s.in_second)))
    go None (Some t) f g is =
        let step = step_is x c d t hc hd ac ad g in
        let ends = no_step x a b f in
        let after : x <ℤ t.edge = step.edge_a.after in
        subst (λ (m : Common). Both k x m.edge a b c d m.agrees) (same_Some _ m is)
        (both k x t.edge a b c d false (keeps_place k t.in_first t.in_second) (not (keeps_place k t.in_first t.in_second)) (pair_ended k x t.edge a b ends.0 ends.1 after) (pair_stepped k x t.edge c d t step after (omega (arith, ints))) (none_with (keeps_place k t.in_first t.in_second)))
    go (Some s) (Some t) f g is =
        let step = step_is x a b s ha hb aa ab f in
        let step' = step_is x c d t hc hd ac ad g in
        let e = nearer s.edge t.edge in
        let low = lesser s.edge t.edge in
        let after : x <ℤ e = later_both x s.edge t.edge step.edge_a.after step'.edge_a.after in
        subst (λ (m : Common). Both k x m.edge a b c d m.agrees) (same_Some _ m is)
        (both k x e a b c d (keeps_place k s.in_first s.in_second) (keeps_place k t.in_first t.in_second) (beq (keeps_place k s.in_first s.in_second) (keeps_place k t.in_first t.in_second)) (pair_stepped k x e a b s step after low.0) (pair_stepped k x e c d t step' after low.1) refl)

no_common : (k : Keep) (o p : Option Step) → common_step k o p ≡ None → (o ≡ None) × (p ≡ None)
no_common k None None e = (refl, refl)
no_common k (Some s) None e = absurd (cc)
no_common k None (Some t) e = absurd (cc)
no_common k (Some s) (Some t) e = absurd (cc)

-- ---- the walk

-- what is left of four readers' rows from x on, before which the same is kept
pub record Same (k : Keep) (a b c d p q r s : Reading) (x : ℤ) : Type 0 where
  pub left_a : Left a.left x p.left
  pub left_b : Left b.left x q.left
  pub left_c : Left c.left x r.left
  pub left_d : Left d.left x s.left
  pub so_far : (z : ℤ) → z <ℤ x → keeps_place k (row_has a.left z) (row_has b.left z) ≡ keeps_place k (row_has c.left z) (row_has d.left z)
  pub read_a : p.bands ≡ a.bands
  pub read_b : q.bands ≡ b.bands
  pub read_c : r.bands ≡ c.bands
  pub read_d : s.bands ≡ d.bands

pub same_begins : (k : Keep) (a b c d : Reading) (x : ℤ) → IsRow a.left → IsRow b.left → IsRow c.left → IsRow d.left
    → x ≡ nearer (start_of (slice_get a.left 0) (slice_get b.left 0)) (start_of (slice_get c.left 0) (slice_get d.left 0)) → Same k a b c d a b c d x
same_begins k a b c d x ha hb hc hd is =
    let n = start_of (slice_get a.left 0) (slice_get b.left 0) in
    let m = start_of (slice_get c.left 0) (slice_get d.left 0) in
    let one = starts a.left b.left ha hb in
    let other = starts c.left d.left hc hd in
    let low = lesser n m in
    let start_a = earlier_start a.left n x one.0 (subst (λ z. z ≤ℤ n) (sym is) low.0) in
    let start_b = earlier_start b.left n x one.1 (subst (λ z. z ≤ℤ n) (sym is) low.0) in
    let start_c = earlier_start c.left m x other.0 (subst (λ z. z ≤ℤ m) (sym is) low.1) in
    let start_d = earlier_start d.left m x other.1 (subst (λ z. z ≤ℤ m) (sym is) low.1) in
    record {
      left_a = record { row = ha; ahead = start_a.ahead; same = λ z low. refl };
      left_b = record { row = hb; ahead = start_b.ahead; same = λ z low. refl };
      left_c = record { row = hc; ahead = start_c.ahead; same = λ z low. refl };
      left_d = record { row = hd; ahead = start_d.ahead; same = λ z low. refl };
      so_far = λ z less.
          ap (λ t. keeps_place k t (row_has b.left z)) (start_a.before z less) ∙ ap (keeps_place k false) (start_b.before z less)
          ∙ sym (ap (λ t. keeps_place k t (row_has d.left z)) (start_c.before z less) ∙ ap (keeps_place k false) (start_d.before z less));
      read_a = refl;
      read_b = refl;
      read_c = refl;
      read_d = refl;
    }

pub common_found : (k : Keep) (x : ℤ) (a b c d : List Interval) (fa fb fc fd : Option Interval) (o p : Option Step) (m t : Option Common) → fa ≡ slice_get a 0 → fb ≡ slice_get b 0 → fc ≡ slice_get c 0 → fd ≡ slice_get d 0
    → o ≡ next_step x fa fb → p ≡ next_step x fc fd → m ≡ common_step k o p → m ≡ t → common_step k (next_step x (slice_get a 0) (slice_get b 0)) (next_step x (slice_get c 0) (slice_get d 0)) ≡ t
common_found k x a b c d fa fb fc fd o p m t ea eb ec ed eo ep em et =
    let one = from_firsts x a b fa fb o o ea eb eo refl in
    let other = from_firsts x c d fc fd p p ec ed ep refl in
    ap (λ u. common_step k u (next_step x (slice_get c 0) (slice_get d 0))) one ∙ ap (common_step k o) other ∙ sym em ∙ et

module _ (k : Keep) (a b c d p q r s : Reading) (x : ℤ) (h : Same k a b c d p q r s x) where
  abbrev Found : Option Common → Type 0
  Found o = common_step k (next_step x (slice_get p.left 0) (slice_get q.left 0)) (next_step x (slice_get r.left 0) (slice_get s.left 0)) ≡ o

  step_both : (m : Common) → Found (Some m) → Both k x m.edge p.left q.left r.left s.left m.agrees
  step_both m is = common_is k x p.left q.left r.left s.left m h.left_a.row h.left_b.row h.left_c.row h.left_d.row h.left_a.ahead h.left_b.ahead h.left_c.ahead h.left_d.ahead is

  pub same_after : (m : Common) → Found (Some m) → x <ℤ m.edge
  same_after m is = (step_both m is).edge_a.after

  at_x : keeps_place k (row_has p.left x) (row_has q.left x) ≡ keeps_place k (row_has a.left x) (row_has b.left x)
  at_x = ap (λ t. keeps_place k t (row_has q.left x)) (h.left_a.same x (omega (arith, ints))) ∙ ap (keeps_place k (row_has a.left x)) (h.left_b.same x (omega (arith, ints)))

  at_x' : keeps_place k (row_has r.left x) (row_has s.left x) ≡ keeps_place k (row_has c.left x) (row_has d.left x)
  at_x' = ap (λ t. keeps_place k t (row_has s.left x)) (h.left_c.same x (omega (arith, ints))) ∙ ap (keeps_place k (row_has c.left x)) (h.left_d.same x (omega (arith, ints)))

  pub same_differs : (m : Common) → Found (Some m) → m.agrees ≡ false → (z : ℤ) × (keeps_place k (row_has a.left z) (row_has b.left z) ≢ keeps_place k (row_has c.left z) (row_has d.left z))
  same_differs m is other = (x, λ e. (step_both m is).no_is other (at_x ∙ e ∙ sym at_x'))

  pub same_more : (m : Common) (p' q' r' s' : Reading) (x' : ℤ) → Found (Some m) → m.agrees ≡ true → x' ≡ m.edge
      → p' ≡ record p { left = later m.edge p.left } → q' ≡ record q { left = later m.edge q.left } → r' ≡ record r { left = later m.edge r.left } → s' ≡ record s { left = later m.edge s.left }
      → Same k a b c d p' q' r' s' x'
  same_more m p' q' r' s' x' is yes_agrees x_is p_is q_is r_is s_is =
      let step = step_both m is in
      let e = m.edge in
      let next : Same k a b c d (record p { left = later e p.left }) (record q { left = later e q.left }) (record r { left = later e r.left }) (record s { left = later e s.left }) e = record {
        left_a = left_more a.left x e p.left h.left_a step.edge_a;
        left_b = left_more b.left x e q.left h.left_b step.edge_b;
        left_c = left_more c.left x e r.left h.left_c step.edge_c;
        left_d = left_more d.left x e s.left h.left_d step.edge_d;
        so_far = λ z less. by_lt_z z x (λ before. h.so_far z before) (λ low.
            ap (λ t. keeps_place k t (row_has b.left z)) (left_flat a.left x e p.left h.left_a step.edge_a z low less) ∙ ap (keeps_place k (row_has p.left x)) (left_flat b.left x e q.left h.left_b step.edge_b z low less)
            ∙ step.yes_is yes_agrees
            ∙ sym (ap (λ t. keeps_place k t (row_has d.left z)) (left_flat c.left x e r.left h.left_c step.edge_c z low less) ∙ ap (keeps_place k (row_has r.left x)) (left_flat d.left x e s.left h.left_d step.edge_d z low less)));
        read_a = h.read_a;
        read_b = h.read_b;
        read_c = h.read_c;
        read_d = h.read_d;
      } in
      let A : Reading → Type 0 = λ u. Same k a b c d u (record q { left = later e q.left }) (record r { left = later e r.left }) (record s { left = later e s.left }) e in
      let B : Reading → Type 0 = λ u. Same k a b c d p' u (record r { left = later e r.left }) (record s { left = later e s.left }) e in
      let C : Reading → Type 0 = λ u. Same k a b c d p' q' u (record s { left = later e s.left }) e in
      let D : Reading → Type 0 = λ u. Same k a b c d p' q' r' u e in
      let E : ℤ → Type 0 = λ u. Same k a b c d p' q' r' s' u in
      subst E (sym x_is) (subst D (sym s_is) (subst C (sym r_is) (subst B (sym q_is) (subst A (sym p_is) next))))

  pub same_done : Found None → (z : ℤ) → keeps_place k (row_has a.left z) (row_has b.left z) ≡ keeps_place k (row_has c.left z) (row_has d.left z)
  same_done is z =
      let none = no_common k (next_step x (slice_get p.left 0) (slice_get q.left 0)) (next_step x (slice_get r.left 0) (slice_get s.left 0)) is in
      let one = no_step x p.left q.left none.0 in
      let other = no_step x r.left s.left none.1 in
      by_lt_z z x (λ before. h.so_far z before) (λ low.
      ap (λ t. keeps_place k t (row_has b.left z)) (sym (h.left_a.same z low) ∙ ap (λ l. row_has l z) one.0) ∙ ap (keeps_place k false) (sym (h.left_b.same z low) ∙ ap (λ l. row_has l z) one.1)
      ∙ sym (ap (λ t. keeps_place k t (row_has d.left z)) (sym (h.left_c.same z low) ∙ ap (λ l. row_has l z) other.0) ∙ ap (keeps_place k false) (sym (h.left_d.same z low) ∙ ap (λ l. row_has l z) other.1)))
